-- Patterns stay patterns where closed patterns are put in for their unknowns.
use Rattle.std.proofs.Common.{◌≡◌, ◌⊎◌, inl, inr, ℕ, zero, suc, ◌+◌, ◌-◌, ◌<◌, List, [], ◌∷◌, Bool, true, false, cond, ◌&&◌, ◌||◌, nat_eq, nat_lt, Option, Some, None, refl, sym, ap, ◌∙◌, subst, arith}
use Rattle.std.specs.Prelude.{unwrap_or}
use Rattle.std.proofs.lemmas.Bool.Decides.{nat_tests}
use Rattle.isa_terms.specs.Types.{Ty}
use Rattle.isa_terms.specs.Terms.{Tm, Const, Free, Unknown, Bound, Abs, App}
use Rattle.isa_terms.specs.Equal.{name_eq, ty_eq}
use Rattle.isa_terms.specs.Replace.{raise, put, replace}
use Rattle.isa_terms.specs.Norm.{ty_height, loose, eta, put_normal, apply, levels, norm}
use Rattle.isa_terms.specs.Normal.{IsHead}
use Rattle.isa_terms.specs.Instance.{find_term, inst_ty, inst_tm}
use Rattle.isa_terms.specs.declared.inst.TermEntry.{TermEntry}
use Rattle.isa_terms.proofs.Typed.{unloose}
use Rattle.isa_terms.proofs.Erased.{up}
use Rattle.isa_terms.proofs.Erasing.{raised}
use Rattle.isa_terms.proofs.Heads.{IsRigid}
use Rattle.isa_terms.proofs.NormalForms.{height_pos, apply_head}
use Rattle.isa_terms.proofs.Renames.{rename, rename_same, raise_is}
use Rattle.isa_unify.proofs.Tests.{or_left, or_right, either_true, or_mono, number_self, number_true}
use Rattle.isa_unify.proofs.Deciding.{loose_eta}

-- ---- patterns, none of whose abstractions is applied

-- a bound variable that is not in f
abbrev pub IsNew : Tm → Tm → Type 0
IsNew f (Bound n) = loose n f ≡ false
IsNew f t = ⊥

-- an unknown on distinct bound variables
abbrev pub IsSpread : Tm → Type 0
IsSpread (Unknown x i T) = Unit {0}
IsSpread (App f a) = IsSpread f × IsNew f a
IsSpread t = ⊥

abbrev pub IsKept : Tm → Type 0
IsKept (Abs x T b) = IsKept b
IsKept (App f a) = IsSpread (App f a) ⊎ (IsRigid f × (IsKept f × IsKept a))
IsKept t = Unit {0}

pub spread_kept : (t : Tm) → IsSpread t → IsKept t
spread_kept (Const x T) h = tt
spread_kept (Free x T) h = tt
spread_kept (Unknown x i T) h = tt
spread_kept (Bound n) h = tt
spread_kept (Abs x T b) h = absurd h
spread_kept (App f a) h = inl h

pub spread_head : (t : Tm) → IsSpread t → IsHead t
spread_head (Const x T) h = tt
spread_head (Free x T) h = tt
spread_head (Unknown x i T) h = tt
spread_head (Bound n) h = tt
spread_head (Abs x T b) h = absurd h
spread_head (App f a) h = tt

pub rigid_head : (t : Tm) → IsRigid t → IsHead t
rigid_head (Const x T) h = tt
rigid_head (Free x T) h = tt
rigid_head (Unknown x i T) h = tt
rigid_head (Bound n) h = tt
rigid_head (Abs x T b) h = absurd h
rigid_head (App f a) h = tt

-- the function and the argument of an application
pub parts_kept : (f a : Tm) → IsKept (App f a) → IsHead f × (IsKept f × IsKept a)
parts_kept f a (inl s) = (spread_head f s.0, (spread_kept f s.0, new_kept a s.1))
  where
    new_kept : (a : Tm) → IsNew f a → IsKept a
    new_kept (Const x T) h = tt
    new_kept (Free x T) h = tt
    new_kept (Unknown x i T) h = tt
    new_kept (Bound n) h = tt
    new_kept (Abs x T b) h = absurd h
    new_kept (App g b) h = absurd h
parts_kept f a (inr r) = (rigid_head f r.0, r.1)

-- ---- other numbers for the loose variables
one_more : (n : ℕ) → suc n ≡ n + 1
one_more n = omega arith

pub test_false : (b : Bool) → (b ≡ true → ⊥) → b ≡ false
test_false true h = absurd (h refl)
test_false false h = refl

-- the variable comes from one of the term
abbrev pub ComesFrom : (ℕ → ℕ) → ℕ → Tm → Type 0
ComesFrom r j t = (i : ℕ) × ((loose i t ≡ true) × (r i ≡ j))

pub loose_from : (r : ℕ → ℕ) (t : Tm) (j : ℕ) → loose j (rename r t) ≡ true → ComesFrom r j t
loose_from r (Const x T) j h = absurd (cc)
loose_from r (Free x T) j h = absurd (cc)
loose_from r (Unknown x i T) j h = absurd (cc)
loose_from r (Bound n) j h = (n, (number_self n, number_true (r n) j h))
loose_from r (Abs x T b) j h = go (loose_from (up r) b (j + 1) h)
  where
    go : ComesFrom (up r) (j + 1) b → ComesFrom r j (Abs x T b)
    go (zero, p) = absurd (omega (arith, p.1))
    go (suc i, p) = (i, (ap (λ n. loose n b) (sym (one_more i)) ∙ p.0, let e : suc (r i) ≡ j + 1 = p.1 in omega (arith, e)))
loose_from r (App f a) j h = go (either_true (loose j (rename r f)) (loose j (rename r a)) h) (loose_from r f j) (loose_from r a j)
  where
    go : (loose j (rename r f) ≡ true) ⊎ (loose j (rename r a) ≡ true) → (loose j (rename r f) ≡ true → ComesFrom r j f) → (loose j (rename r a) ≡ true → ComesFrom r j a) → ComesFrom r j (App f a)
    go (inl p) m n = let q = m p in (q.0, (or_left (loose q.0 f) (loose q.0 a) q.1.0, q.1.1))
    go (inr p) m n = let q = n p in (q.0, (or_right (loose q.0 f) (loose q.0 a) q.1.0, q.1.1))

pub loose_to : (r : ℕ → ℕ) (t : Tm) (i : ℕ) → loose i t ≡ true → loose (r i) (rename r t) ≡ true
loose_to r (Const x T) i h = absurd (cc)
loose_to r (Free x T) i h = absurd (cc)
loose_to r (Unknown x m T) i h = absurd (cc)
loose_to r (Bound n) i h = let e : n ≡ i = number_true n i h in ap (λ m. nat_eq (r m) (r i)) e ∙ number_self (r i)
loose_to r (Abs x T b) i h =
    let e : suc i ≡ i + 1 = one_more i in
    let k : loose (suc (r i)) (rename (up r) b) ≡ true = loose_to (up r) b (suc i) (ap (λ n. loose n b) e ∙ h) in
    ap (λ n. loose n (rename (up r) b)) (sym (one_more (r i))) ∙ k
loose_to r (App f a) i h = or_mono (loose i f) (loose i a) (loose (r i) (rename r f)) (loose (r i) (rename r a)) (loose_to r f i) (loose_to r a i) h

-- no two loose variables of the term get one number
abbrev pub Apart : (ℕ → ℕ) → Tm → Type 0
Apart r t = (i j : ℕ) → loose i t ≡ true → loose j t ≡ true → r i ≡ r j → i ≡ j

apart_up : (r : ℕ → ℕ) (x : List ℕ) (T : Ty) (b : Tm) → Apart r (Abs x T b) → Apart (up r) b
apart_up r x T b h zero zero p q e = refl
apart_up r x T b h zero (suc j) p q e = absurd (omega (arith, e))
apart_up r x T b h (suc i) zero p q e = absurd (omega (arith, e))
apart_up r x T b h (suc i) (suc j) p q e =
    let s : r i ≡ r j = omega (arith, e) in
    ap (λ n. suc n) (h i j (ap (λ n. loose n b) (sym (one_more i)) ∙ p) (ap (λ n. loose n b) (sym (one_more j)) ∙ q) s)

rigid_renamed : (r : ℕ → ℕ) (t : Tm) → IsRigid t → IsRigid (rename r t)
rigid_renamed r (Const x T) h = tt
rigid_renamed r (Free x T) h = tt
rigid_renamed r (Unknown x i T) h = absurd h
rigid_renamed r (Bound n) h = tt
rigid_renamed r (Abs x T b) h = absurd h
rigid_renamed r (App f a) h = rigid_renamed r f h

apart_fun : (r : ℕ → ℕ) (f a : Tm) → Apart r (App f a) → Apart r f
apart_fun r f a h i j p q e = h i j (or_left (loose i f) (loose i a) p) (or_left (loose j f) (loose j a) q) e

apart_arg : (r : ℕ → ℕ) (f a : Tm) → Apart r (App f a) → Apart r a
apart_arg r f a h i j p q e = h i j (or_right (loose i f) (loose i a) p) (or_right (loose j f) (loose j a) q) e

new_renamed : (r : ℕ → ℕ) (f a : Tm) → Apart r (App f a) → IsNew f a → IsNew (rename r f) (rename r a)
new_renamed r f (Bound n) h k = test_false (loose (r n) (rename r f)) (λ p. go (loose_from r f (r n) p))
  where
    go : ComesFrom r (r n) f → ⊥
    go (i, p) =
        let e : i ≡ n = h i n (or_left (loose i f) (nat_eq n i) p.0) (or_right (loose n f) (nat_eq n n) (number_self n)) p.1 in
        let t : loose n f ≡ true = ap (λ m. loose m f) (sym e) ∙ p.0 in
        cc
new_renamed r f (Const x T) h k = absurd k
new_renamed r f (Free x T) h k = absurd k
new_renamed r f (Unknown x i T) h k = absurd k
new_renamed r f (Abs x T b) h k = absurd k
new_renamed r f (App g b) h k = absurd k

spread_renamed : (r : ℕ → ℕ) (t : Tm) → Apart r t → IsSpread t → IsSpread (rename r t)
spread_renamed r (Const x T) h s = absurd s
spread_renamed r (Free x T) h s = absurd s
spread_renamed r (Unknown x i T) h s = tt
spread_renamed r (Bound n) h s = absurd s
spread_renamed r (Abs x T b) h s = absurd s
spread_renamed r (App f a) h s = (spread_renamed r f (apart_fun r f a h) s.0, new_renamed r f a h s.1)

pub kept_renamed : (r : ℕ → ℕ) (t : Tm) → Apart r t → IsKept t → IsKept (rename r t)
kept_renamed r (Const x T) h k = tt
kept_renamed r (Free x T) h k = tt
kept_renamed r (Unknown x i T) h k = tt
kept_renamed r (Bound n) h k = tt
kept_renamed r (Abs x T b) h k = kept_renamed (up r) b (apart_up r x T b h) k
kept_renamed r (App f a) h (inl s) = inl (spread_renamed r (App f a) h s)
kept_renamed r (App f a) h (inr k) = inr (rigid_renamed r f k.0, (kept_renamed r f (apart_fun r f a h) k.1.0, kept_renamed r a (apart_arg r f a h) k.1.1))

-- ---- and back
rigid_before : (r : ℕ → ℕ) (t : Tm) → IsRigid (rename r t) → IsRigid t
rigid_before r (Const x T) h = tt
rigid_before r (Free x T) h = tt
rigid_before r (Unknown x i T) h = absurd h
rigid_before r (Bound n) h = tt
rigid_before r (Abs x T b) h = absurd h
rigid_before r (App f a) h = rigid_before r f h

new_before : (r : ℕ → ℕ) (f a : Tm) → IsNew (rename r f) (rename r a) → IsNew f a
new_before r f (Bound n) k = test_false (loose n f) (λ p. let t = loose_to r f n p in cc)
new_before r f (Const x T) k = absurd k
new_before r f (Free x T) k = absurd k
new_before r f (Unknown x i T) k = absurd k
new_before r f (Abs x T b) k = absurd k
new_before r f (App g b) k = absurd k

spread_before : (r : ℕ → ℕ) (t : Tm) → IsSpread (rename r t) → IsSpread t
spread_before r (Const x T) s = absurd s
spread_before r (Free x T) s = absurd s
spread_before r (Unknown x i T) s = tt
spread_before r (Bound n) s = absurd s
spread_before r (Abs x T b) s = absurd s
spread_before r (App f a) s = (spread_before r f s.0, new_before r f a s.1)

kept_before : (r : ℕ → ℕ) (t : Tm) → IsKept (rename r t) → IsKept t
kept_before r (Const x T) k = tt
kept_before r (Free x T) k = tt
kept_before r (Unknown x i T) k = tt
kept_before r (Bound n) k = tt
kept_before r (Abs x T b) k = kept_before (up r) b k
kept_before r (App f a) (inl s) = inl (spread_before r (App f a) s)
kept_before r (App f a) (inr k) = inr (rigid_before r f k.0, (kept_before r f k.1.0, kept_before r a k.1.1))

-- ---- abstractions that are made eta short
kept_lowered : (f : Tm) → loose 0 f ≡ false → IsKept f → IsKept (replace f (Bound 0))
kept_lowered f l k =
    let v = put (Bound 0) 0 f in
    kept_before (raised 1 0) v (subst IsKept (sym (unloose (Bound 0) 0 f l) ∙ raise_is 1 0 v) k)

eta_last : (x : List ℕ) (S : Ty) (f : Tm) (i : ℕ) (b c : Bool) → nat_eq i 0 ≡ b → loose 0 f ≡ c → IsKept (App f (Bound i)) → IsKept (cond b (cond c (Abs x S (App f (Bound i))) (replace f (Bound 0))) (Abs x S (App f (Bound i))))
eta_last x S f i true true h l k = k
eta_last x S f i true false h l k = kept_lowered f l (parts_kept f (Bound i) k).1.0
eta_last x S f i false c h l k = k

pub eta_kept : (x : List ℕ) (S : Ty) (b : Tm) → IsKept b → IsKept (eta x S b)
eta_kept x S (App f (Bound i)) k = eta_last x S f i (nat_eq i 0) (loose 0 f) refl refl k
eta_kept x S (App f (Const y T)) k = k
eta_kept x S (App f (Free y T)) k = k
eta_kept x S (App f (Unknown y i T)) k = k
eta_kept x S (App f (Abs y T b)) k = k
eta_kept x S (App f (App g a)) k = k
eta_kept x S (Const y T) k = tt
eta_kept x S (Free y T) k = tt
eta_kept x S (Unknown y i T) k = tt
eta_kept x S (Bound i) k = tt
eta_kept x S (Abs y T b) k = k

-- the term with all its abstractions eta short
abbrev pub short : Tm → Tm
short (Const x T) = Const x T
short (Free x T) = Free x T
short (Unknown x i T) = Unknown x i T
short (Bound n) = Bound n
short (Abs x T b) = eta x T (short b)
short (App f a) = App (short f) (short a)

pub short_loose : (t : Tm) (j : ℕ) → loose j (short t) ≡ loose j t
short_loose (Const x T) j = refl
short_loose (Free x T) j = refl
short_loose (Unknown x i T) j = refl
short_loose (Bound n) j = refl
short_loose (Abs x T b) j = loose_eta x T (short b) j ∙ short_loose b (j + 1)
short_loose (App f a) j = λ i. short_loose f j i || short_loose a j i

short_head : (t : Tm) → IsHead t → IsHead (short t)
short_head (Const x T) h = tt
short_head (Free x T) h = tt
short_head (Unknown x i T) h = tt
short_head (Bound n) h = tt
short_head (Abs x T b) h = absurd h
short_head (App f a) h = tt

short_rigid : (t : Tm) → IsRigid t → IsRigid (short t)
short_rigid (Const x T) h = tt
short_rigid (Free x T) h = tt
short_rigid (Unknown x i T) h = absurd h
short_rigid (Bound n) h = tt
short_rigid (Abs x T b) h = absurd h
short_rigid (App f a) h = short_rigid f h

short_new : (f a : Tm) → IsNew f a → IsNew (short f) (short a)
short_new f (Bound n) k = short_loose f n ∙ k
short_new f (Const x T) k = absurd k
short_new f (Free x T) k = absurd k
short_new f (Unknown x i T) k = absurd k
short_new f (Abs x T b) k = absurd k
short_new f (App g b) k = absurd k

short_spread : (t : Tm) → IsSpread t → IsSpread (short t)
short_spread (Const x T) s = absurd s
short_spread (Free x T) s = absurd s
short_spread (Unknown x i T) s = tt
short_spread (Bound n) s = absurd s
short_spread (Abs x T b) s = absurd s
short_spread (App f a) s = (short_spread f s.0, short_new f a s.1)

pub short_kept : (t : Tm) → IsKept t → IsKept (short t)
short_kept (Const x T) k = tt
short_kept (Free x T) k = tt
short_kept (Unknown x i T) k = tt
short_kept (Bound n) k = tt
short_kept (Abs x T b) k = eta_kept x T (short b) (short_kept b k)
short_kept (App f a) (inl s) = inl (short_spread (App f a) s)
short_kept (App f a) (inr k) = inr (short_rigid f k.0, (short_kept f k.1.0, short_kept a k.1.1))

pub norm_short : (t : Tm) → IsKept t → norm t ≡ short t
norm_short (Const x T) k = refl
norm_short (Free x T) k = refl
norm_short (Unknown x i T) k = refl
norm_short (Bound n) k = refl
norm_short (Abs x T b) k = ap (eta x T) (norm_short b k)
norm_short (App f a) k =
    let p = parts_kept f a k in
    (λ i. apply (levels (norm_short f p.1.0 i)) (norm_short f p.1.0 i) (norm_short a p.1.1 i)) ∙ apply_head (levels (short f)) (short f) (short a) (short_head f p.0)

-- ---- a variable in the place of another
-- the number that the variable i gets, where the variable m takes the place of the variable of k binders
abbrev moved_to : ℕ → ℕ → ℕ → ℕ
moved_to m k i = cond (nat_eq i k) (m + k) (cond (nat_lt k i) (i - 1) i)

moved_up_by : (m k i : ℕ) (a b c d : Bool) → nat_eq i k ≡ a → nat_eq (suc i) (k + 1) ≡ b → nat_lt k i ≡ c → nat_lt (k + 1) (suc i) ≡ d → suc (cond a (m + k) (cond c (i - 1) i)) ≡ cond b (m + (k + 1)) (cond d (suc i - 1) (suc i))
moved_up_by m k i true true c d e f g h = omega arith
moved_up_by m k i true false c d e f g h = absurd (grind (arith, nat_tests))
moved_up_by m k i false true c d e f g h = absurd (grind (arith, nat_tests))
moved_up_by m k i false false true true e f g h = let lt : k < i = grind (arith, nat_tests) in omega arith
moved_up_by m k i false false true false e f g h = absurd (grind (arith, nat_tests))
moved_up_by m k i false false false true e f g h = absurd (grind (arith, nat_tests))
moved_up_by m k i false false false false e f g h = refl

moved_up : (m k i : ℕ) → up (moved_to m k) i ≡ moved_to m (k + 1) i
moved_up m k zero =
    let e : nat_eq 0 (k + 1) ≡ false = grind (arith, nat_tests) in
    let l : nat_lt (k + 1) 0 ≡ false = grind (arith, nat_tests) in
    sym (ap (λ b. cond b (m + (k + 1)) (cond (nat_lt (k + 1) 0) (0 - 1) 0)) e ∙ ap (λ b. cond b (0 - 1) 0) l)
moved_up m k (suc i) = moved_up_by m k i (nat_eq i k) (nat_eq (suc i) (k + 1)) (nat_lt k i) (nat_lt (k + 1) (suc i)) refl refl refl refl

put_bound : (m k i : ℕ) (b c : Bool) → cond b (raise k 0 (Bound m)) (cond c (Bound (i - 1)) (Bound i)) ≡ Bound (cond b (m + k) (cond c (i - 1) i))
put_bound m k i true c = let l : nat_lt m 0 ≡ false = grind (arith, nat_tests) in ap (λ b. cond b (Bound m) (Bound (m + k))) l
put_bound m k i false true = refl
put_bound m k i false false = refl

put_short : (n m k : ℕ) (b : Tm) → IsKept b → put_normal (apply n) (Bound m) k b ≡ short (rename (moved_to m k) b)
put_short n m k (Const x T) h = refl
put_short n m k (Free x T) h = refl
put_short n m k (Unknown x i T) h = refl
put_short n m k (Bound i) h = put_bound m k i (nat_eq i k) (nat_lt k i)
put_short n m k (Abs x T b) h = ap (eta x T) (put_short n m (k + 1) b h) ∙ ap (λ t. eta x T (short t)) (sym (rename_same (up (moved_to m k)) (moved_to m (k + 1)) (moved_up m k) b))
put_short n m k (App f a) h =
    let p = parts_kept f a h in
    let r = moved_to m k in
    (λ i. apply n (put_short n m k f p.1.0 i) (put_short n m k a p.1.1 i)) ∙ apply_head n (short (rename r f)) (short (rename r a)) (short_head (rename r f) (renamed_head r f p.0))
  where
    renamed_head : (r : ℕ → ℕ) (t : Tm) → IsHead t → IsHead (rename r t)
    renamed_head r (Const x T) h = tt
    renamed_head r (Free x T) h = tt
    renamed_head r (Unknown x i T) h = tt
    renamed_head r (Bound n) h = tt
    renamed_head r (Abs x T b) h = absurd h
    renamed_head r (App f a) h = tt

-- ---- a pattern applied to a variable that it has not
pub record Applied (g : Tm) (m : ℕ) (t : Tm) : Type 0 where
  pub kept : IsKept t
  pub loose : (j : ℕ) → loose j t ≡ true → (loose j g ≡ true) ⊎ (m ≡ j)

moved_first : (m : ℕ) → moved_to m 0 0 ≡ m
moved_first m = let e : nat_eq 0 0 ≡ true = grind (arith, nat_tests) in let z : m + 0 ≡ m = omega arith in ap (λ b. cond b (m + 0) (cond (nat_lt 0 0) (0 - 1) 0)) e ∙ z

moved_later : (m j : ℕ) → moved_to m 0 (suc j) ≡ j
moved_later m j =
    let e : nat_eq (suc j) 0 ≡ false = grind (arith, nat_tests) in
    let l : nat_lt 0 (suc j) ≡ true = grind (arith, nat_tests) in
    let z : suc j - 1 ≡ j = omega arith in
    ap (λ b. cond b (m + 0) (cond (nat_lt 0 (suc j)) (suc j - 1) (suc j))) e ∙ ap (λ b. cond b (suc j - 1) (suc j)) l ∙ z

moved_apart : (m : ℕ) (b : Tm) → loose (m + 1) b ≡ false → Apart (moved_to m 0) b
moved_apart m b l zero zero p q e = refl
moved_apart m b l zero (suc j) p q e =
    let s : m ≡ j = sym (moved_first m) ∙ e ∙ moved_later m j in
    let t : loose (m + 1) b ≡ true = ap (λ n. loose n b) (let z : m + 1 ≡ suc j = omega (arith, s) in z) ∙ q in
    absurd (cc)
moved_apart m b l (suc i) zero p q e =
    let s : i ≡ m = sym (moved_later m i) ∙ e ∙ moved_first m in
    let t : loose (m + 1) b ≡ true = ap (λ n. loose n b) (let z : m + 1 ≡ suc i = omega (arith, s) in z) ∙ p in
    absurd (cc)
moved_apart m b l (suc i) (suc j) p q e = ap (λ n. suc n) (sym (moved_later m i) ∙ e ∙ moved_later m j)

opened_kept : (n m : ℕ) (x : List ℕ) (T : Ty) (b : Tm) → IsKept b → loose m (Abs x T b) ≡ false → Applied (Abs x T b) m (put_normal (apply n) (Bound m) 0 b)
opened_kept n m x T b k l = record {
  kept = subst IsKept (sym (put_short n m 0 b k)) (short_kept (rename (moved_to m 0) b) (kept_renamed (moved_to m 0) b (moved_apart m b l) k));
  loose = λ j h. go j (loose_from (moved_to m 0) b j (sym (short_loose (rename (moved_to m 0) b) j) ∙ ap (loose j) (sym (put_short n m 0 b k)) ∙ h));
}
  where
    go : (j : ℕ) → ComesFrom (moved_to m 0) j b → (loose (j + 1) b ≡ true) ⊎ (m ≡ j)
    go j (zero, p) = inr (sym (moved_first m) ∙ p.1)
    go j (suc i, p) = let e : i ≡ j = sym (moved_later m i) ∙ p.1 in inl (ap (λ n. loose n b) (let z : j + 1 ≡ suc i = omega (arith, e) in z) ∙ p.0)

headed_kept : (g : Tm) (m : ℕ) → IsKept (App g (Bound m)) → Applied g m (App g (Bound m))
headed_kept g m k = record { kept = k; loose = λ j h. go j (either_true (loose j g) (nat_eq m j) h) }
  where
    go : (j : ℕ) → (loose j g ≡ true) ⊎ (nat_eq m j ≡ true) → (loose j g ≡ true) ⊎ (m ≡ j)
    go j (inl p) = inl p
    go j (inr p) = inr (number_true m j p)

abs_kept : (h m : ℕ) → 0 < h → (x : List ℕ) (T : Ty) (b : Tm) → IsKept b → loose m (Abs x T b) ≡ false → Applied (Abs x T b) m (apply h (Abs x T b) (Bound m))
abs_kept zero m p x T b k l = absurd (omega arith)
abs_kept (suc n) m p x T b k l = opened_kept n m x T b k l

app_kept : (f a : Tm) (m : ℕ) → IsKept (App f a) → loose m (App f a) ≡ false → IsKept (App (App f a) (Bound m))
app_kept f a m (inl s) l = inl (s, l)
app_kept f a m (inr r) l = inr (r.0, (inr r, tt))

pub on_new : (g : Tm) (m : ℕ) → IsHead g → IsKept g → loose m g ≡ false → IsKept (App g (Bound m))
on_new (Const x T) m h k l = inr (tt, (tt, tt))
on_new (Free x T) m h k l = inr (tt, (tt, tt))
on_new (Unknown x i T) m h k l = inl (tt, refl)
on_new (Bound n) m h k l = inr (tt, (tt, tt))
on_new (Abs x T b) m h k l = absurd h
on_new (App f a) m h k l = app_kept f a m k l

pub applied_kept : (g : Tm) (m : ℕ) → IsKept g → loose m g ≡ false → Applied g m (apply (levels g) g (Bound m))
applied_kept (Abs x T b) m k l = abs_kept (ty_height T) m (height_pos T) x T b k l
applied_kept (Const x T) m k l = headed_kept (Const x T) m (on_new (Const x T) m tt k l)
applied_kept (Free x T) m k l = headed_kept (Free x T) m (on_new (Free x T) m tt k l)
applied_kept (Unknown x i T) m k l = headed_kept (Unknown x i T) m (on_new (Unknown x i T) m tt k l)
applied_kept (Bound n) m k l = headed_kept (Bound n) m (on_new (Bound n) m tt k l)
applied_kept (App f a) m k l = headed_kept (App f a) m (on_new (App f a) m tt k l)

-- ---- closed patterns for unknowns
abbrev pub AreClosed : List TermEntry → Type 0
AreClosed [] = Unit {0}
AreClosed (e ∷ es) = (IsKept e.term × ((j : ℕ) → loose j e.term ≡ false)) × AreClosed es

found_closed : (s : List TermEntry) → AreClosed s → (x : List ℕ) (i : ℕ) (T : Ty) (u : Tm) → find_term x i T s ≡ Some u → IsKept u × ((j : ℕ) → loose j u ≡ false)
found_closed [] c x i T u e = absurd (cc)
found_closed (d ∷ s) c x i T u e = go (name_eq x d.name && (nat_eq i d.number && ty_eq T d.typ)) e (found_closed s c.1 x i T u)
  where
    go : (b : Bool) → cond b (Some d.term) (find_term x i T s) ≡ Some u → (find_term x i T s ≡ Some u → IsKept u × ((j : ℕ) → loose j u ≡ false)) → IsKept u × ((j : ℕ) → loose j u ≡ false)
    go true p r = let q : d.term ≡ u = cc in subst (λ t. IsKept t × ((j : ℕ) → loose j t ≡ false)) q c.0
    go false p r = r p

-- the term is a pattern, with no other loose variables than t
pub record KeptFrom (t u : Tm) : Type 0 where
  pub kept : IsKept u
  pub loose : (j : ℕ) → loose j u ≡ true → loose j t ≡ true

module _ (s : List TermEntry) (closed : AreClosed s) where
  unknown_kept : (x : List ℕ) (i : ℕ) (T : Ty) (o : Option Tm) → find_term x i T s ≡ o → KeptFrom (Unknown x i T) (norm (unwrap_or o (Unknown x i (inst_ty [] T))))
  unknown_kept x i T None e = record { kept = tt; loose = λ j h. absurd (cc) }
  unknown_kept x i T (Some u) e =
      let c = found_closed s closed x i T u e in
      record {
        kept = subst IsKept (sym (norm_short u c.0)) (short_kept u c.0);
        loose = λ j h. let f : loose j (norm u) ≡ false = ap (loose j) (norm_short u c.0) ∙ short_loose u j ∙ c.1 j in absurd (cc);
      }

  rigid_stays : (t : Tm) → IsRigid t → IsKept t → IsRigid (norm (inst_tm [] s t))
  rigid_stays (Const x T) r k = tt
  rigid_stays (Free x T) r k = tt
  rigid_stays (Unknown x i T) r k = absurd r
  rigid_stays (Bound n) r k = tt
  rigid_stays (Abs x T b) r k = absurd r
  rigid_stays (App f a) r k =
      let g = norm (inst_tm [] s f) in
      let q = rigid_stays f r (parts_kept f a k).1.0 in
      subst IsRigid (sym (apply_head (levels g) g (norm (inst_tm [] s a)) (rigid_head g q))) q

  spread_stays : (f a : Tm) → IsNew f a → KeptFrom f (norm (inst_tm [] s f)) → KeptFrom (App f a) (norm (inst_tm [] s (App f a)))
  spread_stays f (Bound m) n h =
      let g = norm (inst_tm [] s f) in
      let l : loose m g ≡ false = test_false (loose m g) (λ p. let t = h.loose m p in cc) in
      let p = applied_kept g m h.kept l in
      record { kept = p.kept; loose = λ j q. go j (p.loose j q) }
    where
      go : (j : ℕ) → (loose j (norm (inst_tm [] s f)) ≡ true) ⊎ (m ≡ j) → (loose j f || nat_eq m j) ≡ true
      go j (inl q) = or_left (loose j f) (nat_eq m j) (h.loose j q)
      go j (inr q) = or_right (loose j f) (nat_eq m j) (ap (λ i. nat_eq i j) q ∙ number_self j)
  spread_stays f (Const x T) n h = absurd n
  spread_stays f (Free x T) n h = absurd n
  spread_stays f (Unknown x i T) n h = absurd n
  spread_stays f (Abs x T b) n h = absurd n
  spread_stays f (App g b) n h = absurd n

  rigid_applied : (f a : Tm) → IsRigid f → IsKept f → KeptFrom f (norm (inst_tm [] s f)) → KeptFrom a (norm (inst_tm [] s a)) → KeptFrom (App f a) (norm (inst_tm [] s (App f a)))
  rigid_applied f a r k p q =
      let g = norm (inst_tm [] s f) in
      let b = norm (inst_tm [] s a) in
      let t = rigid_stays f r k in
      subst (KeptFrom (App f a)) (sym (apply_head (levels g) g b (rigid_head g t))) (record {
        kept = inr (t, (p.kept, q.kept));
        loose = λ j h. go j (either_true (loose j g) (loose j b) h);
      })
    where
      go : (j : ℕ) → (loose j (norm (inst_tm [] s f)) ≡ true) ⊎ (loose j (norm (inst_tm [] s a)) ≡ true) → (loose j f || loose j a) ≡ true
      go j (inl h) = or_left (loose j f) (loose j a) (p.loose j h)
      go j (inr h) = or_right (loose j f) (loose j a) (q.loose j h)

  pub filled_from : (t : Tm) → IsKept t → KeptFrom t (norm (inst_tm [] s t))
  filled_from (Const x T) k = record { kept = tt; loose = λ j h. h }
  filled_from (Free x T) k = record { kept = tt; loose = λ j h. h }
  filled_from (Unknown x i T) k = unknown_kept x i T (find_term x i T s) refl
  filled_from (Bound n) k = record { kept = tt; loose = λ j h. h }
  filled_from (Abs x T b) k =
      let p = filled_from b k in
      let c = norm (inst_tm [] s b) in
      record {
        kept = eta_kept x (inst_ty [] T) c p.kept;
        loose = λ j h. p.loose (j + 1) (sym (loose_eta x (inst_ty [] T) c j) ∙ h);
      }
  filled_from (App f a) (inl h) = spread_stays f a h.1 (filled_from f (spread_kept f h.0))
  filled_from (App f a) (inr h) = rigid_applied f a h.0 h.1.0 (filled_from f h.1.0) (filled_from a h.1.1)

pub filled_kept : (s : List TermEntry) → AreClosed s → (t : Tm) → IsKept t → IsKept (norm (inst_tm [] s t))
filled_kept s c t k = (filled_from s c t k).kept
