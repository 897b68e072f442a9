-- Loose variables of convertible and of closed terms.
use Rattle.std.proofs.Common.{◌≡◌, ℕ, zero, suc, ◌+◌, ◌<◌, ◌≤◌, List, [], ◌∷◌, ◌++◌, length, Bool, true, false, cond, ◌||◌, nat_eq, nat_lt, Some, refl, sym, ap, ◌∙◌, subst, arith}
use Rattle.std.specs.List.{slice_get}
use Rattle.std.proofs.lemmas.Bool.Decides.{nat_tests}
use Rattle.isa_terms.specs.Types.{Ty}
use Rattle.isa_terms.specs.Terms.{Tm, Const, Free, Unknown, Bound, Abs, App, bare}
use Rattle.isa_terms.specs.Replace.{raise, put}
use Rattle.isa_terms.specs.Norm.{loose, norm}
use Rattle.isa_terms.specs.Normal.{IsNormal}
use Rattle.isa_terms.specs.Typed.{Typed, TConst, TFree, TUnknown, TBound, TAbs, TApp}
use Rattle.isa_terms.specs.Conversion.{Conv, CSym, CTrans}
use Rattle.isa_terms.proofs.Typed.{drop_typed, raise_typed, unloose, get_before, get_shift}
use Rattle.isa_terms.proofs.Conv.{left_typed, right_typed, norm_conv}
use Rattle.isa_terms.proofs.NormalForms.{norm_normal, raise_normal}
use Rattle.isa_terms.proofs.Unique.{normal_unique}
use Rattle.isa_terms.proofs.Erasing.{raised}
use Rattle.isa_terms.proofs.Renames.{rename, raise_is}
use Rattle.isa_terms.proofs.Opening.{IsRenaming, rename_conv}

pub one_more : (n : ℕ) → suc n ≡ n + 1
one_more n = omega arith

pub or_false : (a b : Bool) → (a || b) ≡ false → (a ≡ false) × (b ≡ false)
or_false true b e = cc
or_false false b e = (refl, e)

pub neither : (a b : Bool) → a ≡ false → b ≡ false → (a || b) ≡ false
neither true b h k = cc
neither false b h k = k

pub loose_bare : (k : ℕ) (t : Tm) → loose k (bare t) ≡ loose k t
loose_bare k (Const x T) = refl
loose_bare k (Free x T) = refl
loose_bare k (Unknown x i T) = refl
loose_bare k (Bound n) = refl
loose_bare k (Abs x T b) = loose_bare (k + 1) b
loose_bare k (App f a) = λ i. loose_bare k f i || loose_bare k a i

pub raised_bound : (k i : ℕ) (b : Bool) → nat_lt i k ≡ b → loose k (cond b (Bound i) (Bound (i + 1))) ≡ false
raised_bound k i true h = grind (arith, nat_tests)
raised_bound k i false h = grind (arith, nat_tests)

-- what is raised has not the variable
pub raised_misses : (k : ℕ) (t : Tm) → loose k (raise 1 k t) ≡ false
raised_misses k (Const x T) = refl
raised_misses k (Free x T) = refl
raised_misses k (Unknown x i T) = refl
raised_misses k (Bound i) = raised_bound k i (nat_lt i k) refl
raised_misses k (Abs x T b) = raised_misses (k + 1) b
raised_misses k (App f a) = neither (loose k (raise 1 k f)) (loose k (raise 1 k a)) (raised_misses k f) (raised_misses k a)

-- the variables of a term are those of its binders
pub beyond_misses : {G : List Ty} {t : Tm} {T : Ty} → Typed G t T → (k : ℕ) → length G ≤ k → loose k t ≡ false
beyond_misses TConst k h = refl
beyond_misses TFree k h = refl
beyond_misses TUnknown k h = refl
beyond_misses (TBound {G} {n} {T} g) k h = let lt = below G n T g in grind (arith, nat_tests)
  where
    below : (G : List Ty) (n : ℕ) (T : Ty) → slice_get G n ≡ Some T → n < length G
    below [] n T e = cc
    below (S ∷ G) zero T e = omega arith
    below (S ∷ G) (suc n) T e = let lt = below G n T e in omega arith
beyond_misses (TAbs d) k h = beyond_misses d (k + 1) (omega arith)
beyond_misses (TApp {f} {a} d e) k h = neither (loose k f) (loose k a) (beyond_misses d k h) (beyond_misses e k h)

-- raising keeps conversion
pub raised_renaming : (P D Q : List Ty) → IsRenaming (raised (length D) (length P)) (P ++ Q) (P ++ (D ++ Q))
raised_renaming P D Q n T e = choice (nat_lt n (length P)) refl
  where
    choice : (b : Bool) → nat_lt n (length P) ≡ b → slice_get (P ++ (D ++ Q)) (cond b n (n + length D)) ≡ Some T
    choice true h = let lt : n < length P = grind (arith, nat_tests) in get_before P (D ++ Q) Q n lt ∙ e
    choice false h = let le : length P ≤ n = grind (arith, nat_tests) in get_shift P D Q n le ∙ e

pub raise_conv : (P D Q : List Ty) {T : Ty} {t u : Tm} → Conv (P ++ Q) T t u → Conv (P ++ (D ++ Q)) T (raise (length D) (length P) t) (raise (length D) (length P) u)
raise_conv P D Q {T} {t} {u} c =
    let r = raised (length D) (length P) in
    let d : Conv (P ++ (D ++ Q)) T (rename r t) (rename r u) = rename_conv r (P ++ (D ++ Q)) c (raised_renaming P D Q) in
    subst (λ v. Conv (P ++ (D ++ Q)) T v (raise (length D) (length P) u)) (sym (raise_is (length D) (length P) t)) (subst (λ v. Conv (P ++ (D ++ Q)) T (rename r t) v) (sym (raise_is (length D) (length P) u)) d)

-- binders round the variable
pub record Around (G : List Ty) (k : ℕ) : Type 0 where
  pub inner : List Ty
  pub own : Ty
  pub outer : List Ty
  pub whole : G ≡ inner ++ own ∷ outer
  pub place : length inner ≡ k

pub around : (G : List Ty) (k : ℕ) → k < length G → Around G k
around [] k h = absurd (omega arith)
around (S ∷ G) zero h = record { inner = []; own = S; outer = G; whole = refl; place = refl }
around (S ∷ G) (suc k) h =
    let r = around G k (omega arith) in
    record { inner = S ∷ r.inner; own = r.own; outer = r.outer; whole = ap (λ K. S ∷ K) r.whole; place = ap (λ n. suc n) r.place }

-- the normal form of a term has no variable that the term has not
module _ (P : List Ty) (S : Ty) (Q : List Ty) where
  pub norm_misses_at : {G : List Ty} {t : Tm} {T : Ty} → G ≡ P ++ S ∷ Q → Typed G t T → loose (length P) t ≡ false → loose (length P) (norm t) ≡ false
  norm_misses_at {G} {t} {T} e d l =
      let c = Bound 0 in
      let v = put c (length P) t in
      let v_typed : Typed (P ++ Q) v T = drop_typed P Q S c e l d in
      let w = norm v in
      let up_typed : Typed (P ++ (S ∷ Q)) (raise 1 (length P) w) T = raise_typed P (S ∷ []) Q refl (right_typed (norm_conv v_typed)) in
      let back : raise 1 (length P) v ≡ t = unloose c (length P) t l in
      let k : Conv (P ++ S ∷ Q) T (raise 1 (length P) v) (raise 1 (length P) w) = raise_conv P (S ∷ []) Q (norm_conv v_typed) in
      let k' : Conv (P ++ S ∷ Q) T t (raise 1 (length P) w) = subst (λ u. Conv (P ++ S ∷ Q) T u (raise 1 (length P) w)) back k in
      let d' : Typed (P ++ S ∷ Q) t T = subst (λ K. Typed K t T) e d in
      let same : bare (norm t) ≡ bare (raise 1 (length P) w) = normal_unique (CTrans (CSym (norm_conv d')) k') (norm_normal d') (raise_normal 1 (length P) w (norm_normal v_typed)) in
      sym (loose_bare (length P) (norm t)) ∙ ap (loose (length P)) same ∙ loose_bare (length P) (raise 1 (length P) w) ∙ raised_misses (length P) w

pub norm_misses : {G : List Ty} {t : Tm} {T : Ty} → Typed G t T → (k : ℕ) → loose k t ≡ false → loose k (norm t) ≡ false
norm_misses {G} {t} {T} d k l = choice (nat_lt k (length G)) refl
  where
    choice : (b : Bool) → nat_lt k (length G) ≡ b → loose k (norm t) ≡ false
    choice true h =
        let lt : k < length G = grind (arith, nat_tests) in
        let r = around G k lt in
        let m = norm_misses_at r.inner r.own r.outer r.whole d (ap (λ j. loose j t) r.place ∙ l) in
        ap (λ j. loose j (norm t)) (sym r.place) ∙ m
    choice false h = let le : length G ≤ k = grind (arith, nat_tests) in beyond_misses (right_typed (norm_conv d)) k le

-- a normal term has no variable that a term which converts to it has not
pub conv_misses : {G : List Ty} {T : Ty} {t u : Tm} → Conv G T t u → IsNormal u → (k : ℕ) → loose k t ≡ false → loose k u ≡ false
conv_misses {G} {T} {t} {u} c n k l =
    let s : bare (norm t) ≡ bare u = normal_unique (CTrans (CSym (norm_conv (left_typed c))) c) (norm_normal (left_typed c)) n in
    sym (loose_bare k u) ∙ ap (loose k) (sym s) ∙ loose_bare k (norm t) ∙ norm_misses (left_typed c) k l

-- ---- a term without loose variables has its type under no binders
pub closed_bound : (P Q : List Ty) (n : ℕ) (T : Ty) (b : Bool) → nat_lt n (length P) ≡ b → ((k : ℕ) → length P ≤ k → nat_eq n k ≡ false) → slice_get (P ++ Q) n ≡ Some T → Typed P (Bound n) T
closed_bound P Q n T true h m e = let lt : n < length P = grind (arith, nat_tests) in TBound (front P Q n lt ∙ e)
  where
    front : (P Q : List Ty) (n : ℕ) → n < length P → slice_get P n ≡ slice_get (P ++ Q) n
    front [] Q n lt = absurd (omega arith)
    front (S ∷ P) Q zero lt = refl
    front (S ∷ P) Q (suc n) lt = front P Q n (omega arith)
closed_bound P Q n T false h m e =
    let le : length P ≤ n = grind (arith, nat_tests) in
    let f : nat_eq n n ≡ false = m n le in
    let t : nat_eq n n ≡ true = grind (arith, nat_tests) in
    absurd (cc)

pub closed_typed : (P Q : List Ty) {G : List Ty} {t : Tm} {T : Ty} → G ≡ P ++ Q → Typed G t T → ((k : ℕ) → length P ≤ k → loose k t ≡ false) → Typed P t T
closed_typed P Q e TConst m = TConst
closed_typed P Q e TFree m = TFree
closed_typed P Q e TUnknown m = TUnknown
closed_typed P Q e (TBound {G} {n} {T} g) m = closed_bound P Q n T (nat_lt n (length P)) refl m (ap (λ K. slice_get K n) (sym e) ∙ g)
closed_typed P Q e (TAbs {G} {x} {S} {T} {b} d) m = TAbs (closed_typed (S ∷ P) Q (ap (λ K. S ∷ K) e) d (below (length P) b m))
  where
    below : (p : ℕ) (b : Tm) → ((k : ℕ) → p ≤ k → loose (k + 1) b ≡ false) → (k : ℕ) → suc p ≤ k → loose k b ≡ false
    below p b m zero h = absurd (omega arith)
    below p b m (suc k) h = let q : suc k ≡ k + 1 = omega arith in ap (λ j. loose j b) q ∙ m k (omega arith)
closed_typed P Q e (TApp {f} {a} d c) m =
    TApp (closed_typed P Q e d (λ k h. (or_false (loose k f) (loose k a) (m k h)).0)) (closed_typed P Q e c (λ k h. (or_false (loose k f) (loose k a) (m k h)).1))

pub closed_has_type : {G : List Ty} {t : Tm} {T : Ty} → Typed G t T → ((k : ℕ) → loose k t ≡ false) → Typed [] t T
closed_has_type {G} d m = closed_typed [] G refl d (λ k h. m k)
