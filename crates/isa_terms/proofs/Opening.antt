-- Conversion under renamings, and of abstractions that are opened and closed.
use Rattle.std.proofs.Common.{◌≡◌, ◌≢◌, ℕ, zero, suc, ◌+◌, ◌-◌, ◌<◌, ◌≤◌, List, [], ◌∷◌, length, Bool, true, false, cond, ◌||◌, nat_eq, nat_lt, Some, refl, sym, ap, ◌∙◌, subst, arith}
use Rattle.std.specs.List.{slice_get}
use Rattle.std.proofs.lemmas.Bool.Decides.{nat_tests}
use Rattle.isa_terms.specs.Types.{Ty}
use Rattle.isa_terms.specs.Terms.{Tm, Const, Free, Unknown, Bound, Abs, App}
use Rattle.isa_terms.specs.Typing.{function_of}
use Rattle.isa_terms.specs.Replace.{raise, put, replace}
use Rattle.isa_terms.specs.Norm.{loose}
use Rattle.isa_terms.specs.Instance.{inst_ty, inst_tm}
use Rattle.isa_terms.specs.declared.inst.TypeEntry.{TypeEntry}
use Rattle.isa_terms.specs.declared.inst.TermEntry.{TermEntry}
use Rattle.isa_terms.specs.Typed.{Typed, TConst, TFree, TUnknown, TBound, TAbs, TApp}
use Rattle.isa_terms.specs.Conversion.{Conv, CRefl, CSym, CTrans, CApp, CAbs, CBeta, CEta}
use Rattle.isa_terms.specs.Instances.{IsKept}
use Rattle.isa_terms.proofs.FreeNames.{put_back}
use Rattle.isa_terms.proofs.Unique.{abs_typed}
use Rattle.isa_terms.proofs.Erased.{up, next}
use Rattle.isa_terms.proofs.Instances.{unknown_typed}
use Rattle.isa_terms.proofs.Renames.{SameNumbers, rename, rename_same, rename_next, rename_replace, next_is}

-- ---- renaming keeps typing and conversion
-- r takes the variables of the binders G to variables of the same types of the binders K
abbrev pub IsRenaming : (ℕ → ℕ) → List Ty → List Ty → Type 0
IsRenaming r G K = (n : ℕ) (T : Ty) → slice_get G n ≡ Some T → slice_get K (r n) ≡ Some T

pub up_renaming : (r : ℕ → ℕ) (G K : List Ty) (S : Ty) → IsRenaming r G K → IsRenaming (up r) (S ∷ G) (S ∷ K)
up_renaming r G K S h zero T e = e
up_renaming r G K S h (suc n) T e = h n T e

pub rename_typed : (r : ℕ → ℕ) (K : List Ty) {G : List Ty} {t : Tm} {T : Ty} → Typed G t T → IsRenaming r G K → Typed K (rename r t) T
rename_typed r K TConst h = TConst
rename_typed r K TFree h = TFree
rename_typed r K TUnknown h = TUnknown
rename_typed r K (TBound {n} {T} g) h = TBound (h n T g)
rename_typed r K (TAbs {G} {S} d) h = TAbs (rename_typed (up r) (S ∷ K) d (up_renaming r G K S h))
rename_typed r K (TApp d e) h = TApp (rename_typed r K d h) (rename_typed r K e h)

pub rename_conv : (r : ℕ → ℕ) (K : List Ty) {G : List Ty} {T : Ty} {t u : Tm} → Conv G T t u → IsRenaming r G K → Conv K T (rename r t) (rename r u)
rename_conv r K (CRefl d) h = CRefl (rename_typed r K d h)
rename_conv r K (CSym c) h = CSym (rename_conv r K c h)
rename_conv r K (CTrans c d) h = CTrans (rename_conv r K c h) (rename_conv r K d h)
rename_conv r K (CApp c d) h = CApp (rename_conv r K c h) (rename_conv r K d h)
rename_conv r K (CAbs {G} {S} c) h = CAbs (rename_conv (up r) (S ∷ K) c (up_renaming r G K S h))
rename_conv r K (CBeta {G} {x} {S} {T} {b} {a} d e) h =
    subst (λ u. Conv K T (App (Abs x S (rename (up r) b)) (rename r a)) u) (sym (rename_replace r b a)) (CBeta (rename_typed (up r) (S ∷ K) d (up_renaming r G K S h)) (rename_typed r K e h))
rename_conv r K (CEta {G} {x} {S} {T} {f} d) h =
    subst (λ u. Conv K (function_of S T) (Abs x S (App u (Bound 0))) (rename r f)) (sym (rename_next r f)) (CEta (rename_typed r K d h))

pub next_renaming : (S : Ty) (G : List Ty) → IsRenaming next G (S ∷ G)
next_renaming S G n T e = e

-- one more binder
pub next_typed : (S : Ty) {G : List Ty} {t : Tm} {T : Ty} → Typed G t T → Typed (S ∷ G) (raise 1 0 t) T
next_typed S {G} {t} {T} d = subst (λ v. Typed (S ∷ G) v T) (sym (next_is t)) (rename_typed next (S ∷ G) d (next_renaming S G))

pub next_conv : (S : Ty) {G : List Ty} {T : Ty} {t u : Tm} → Conv G T t u → Conv (S ∷ G) T (raise 1 0 t) (raise 1 0 u)
next_conv S {G} {T} {t} {u} c = subst (λ v. Conv (S ∷ G) T v (raise 1 0 u)) (sym (next_is t)) (subst (λ v. Conv (S ∷ G) T (rename next t) v) (sym (next_is u)) (rename_conv next (S ∷ G) c (next_renaming S G)))

-- ---- opening and closing
-- an abstraction under one more binder, applied to its variable, is its body
pub body_conv : {G : List Ty} (x : List ℕ) {S T : Ty} {b : Tm} → Typed (S ∷ G) b T → Conv (S ∷ G) T (App (raise 1 0 (Abs x S b)) (Bound 0)) b
body_conv {G} x {S} {T} {b} d =
    let e : Typed (S ∷ G) (Abs x S (raise 1 1 b)) (function_of S T) = next_typed S (TAbs d) in
    let f = abs_typed e in
    let under : Typed (S ∷ (S ∷ G)) (raise 1 1 b) T = subst (λ U. Typed (S ∷ (S ∷ G)) (raise 1 1 b) U) (sym (second f.1)) f.2 in
    let c : Conv (S ∷ G) T (App (Abs x S (raise 1 1 b)) (Bound 0)) (replace (raise 1 1 b) (Bound 0)) = CBeta under (TBound refl) in
    subst (λ u. Conv (S ∷ G) T (App (Abs x S (raise 1 1 b)) (Bound 0)) u) (put_back 0 b) c
  where
    second : {A B C D : Ty} → function_of A B ≡ function_of C D → B ≡ D
    second e = cc (e)

-- what converts to an abstraction gives its body at the variable
pub open_conv : {G : List Ty} {x : List ℕ} {S T : Ty} {b u : Tm} → Typed (S ∷ G) b T → Conv G (function_of S T) (Abs x S b) u → Conv (S ∷ G) T b (App (raise 1 0 u) (Bound 0))
open_conv {G} {x} {S} {T} {b} {u} d c = CTrans (CSym (body_conv x d)) (CApp (next_conv S c) (CRefl (TBound refl)))

pub close_conv : {G : List Ty} (x : List ℕ) {S T : Ty} {b u : Tm} → Typed G u (function_of S T) → Conv (S ∷ G) T b (App (raise 1 0 u) (Bound 0)) → Conv G (function_of S T) (Abs x S b) u
close_conv x d c = CTrans (CAbs c) (CEta d)

-- abstractions convert where their bodies do, and nowhere else
pub bodies_conv : {G : List Ty} {x y : List ℕ} {S T : Ty} {b c : Tm} → Typed (S ∷ G) b T → Typed (S ∷ G) c T → Conv G (function_of S T) (Abs x S b) (Abs y S c) → Conv (S ∷ G) T b c
bodies_conv {y} d e c = CTrans (open_conv d c) (body_conv y e)

-- ---- a variable of the binders abstracted
-- t under one more binder, which takes the place of the variable n; here under k more
abbrev pub over : ℕ → ℕ → Tm → Tm
over n k (Const c T) = Const c T
over n k (Free x T) = Free x T
over n k (Unknown x i T) = Unknown x i T
over n k (Bound i) = cond (nat_lt i k) (Bound i) (cond (nat_eq i (n + k)) (Bound k) (Bound (i + 1)))
over n k (Abs x T b) = Abs x T (over n (k + 1) b)
over n k (App f a) = App (over n k f) (over n k a)

abbrev pub over_number : ℕ → ℕ → ℕ → ℕ
over_number n k i = cond (nat_lt i k) i (cond (nat_eq i (n + k)) k (i + 1))

pub over_up_by : (n k i : ℕ) (b c d e : Bool) → nat_lt i k ≡ b → nat_lt (suc i) (k + 1) ≡ c → nat_eq i (n + k) ≡ d → nat_eq (suc i) (n + (k + 1)) ≡ e → suc (cond b i (cond d k (i + 1))) ≡ cond c (suc i) (cond e (k + 1) (suc i + 1))
over_up_by n k i true true d e h l m o = refl
over_up_by n k i false false true true h l m o = omega arith
over_up_by n k i false false false false h l m o = omega arith
over_up_by n k i true false d e h l m o = let lt : i < k = grind (arith, nat_tests) in let ge : k + 1 ≤ suc i = grind (arith, nat_tests) in absurd (omega arith)
over_up_by n k i false true d e h l m o = let ge : k ≤ i = grind (arith, nat_tests) in let lt : suc i < k + 1 = grind (arith, nat_tests) in absurd (omega arith)
over_up_by n k i false false true false h l m o = let q : i ≡ n + k = grind (arith, nat_tests) in let r : suc i ≢ n + (k + 1) = grind (arith, nat_tests) in absurd (omega arith)
over_up_by n k i false false false true h l m o = let q : i ≢ n + k = grind (arith, nat_tests) in let r : suc i ≡ n + (k + 1) = grind (arith, nat_tests) in absurd (omega arith)

pub over_up : (n k : ℕ) → SameNumbers (up (over_number n k)) (over_number n (k + 1))
over_up n k zero = let t : nat_lt 0 (k + 1) ≡ true = grind (arith, nat_tests) in sym (ap (λ b. cond b 0 (cond (nat_eq 0 (n + (k + 1))) (k + 1) (0 + 1))) t)
over_up n k (suc i) = over_up_by n k i (nat_lt i k) (nat_lt (suc i) (k + 1)) (nat_eq i (n + k)) (nat_eq (suc i) (n + (k + 1))) refl refl refl refl

pub over_choice : (b c : Bool) (i j k : ℕ) → cond b (Bound i) (cond c (Bound j) (Bound k)) ≡ Bound (cond b i (cond c j k))
over_choice true c i j k = refl
over_choice false true i j k = refl
over_choice false false i j k = refl

pub over_is : (n k : ℕ) (t : Tm) → over n k t ≡ rename (over_number n k) t
over_is n k (Const c T) = refl
over_is n k (Free x T) = refl
over_is n k (Unknown x i T) = refl
over_is n k (Bound i) = over_choice (nat_lt i k) (nat_eq i (n + k)) i k (i + 1)
over_is n k (Abs x T b) = ap (Abs x T) (over_is n (k + 1) b ∙ sym (rename_same _ _ (over_up n k) b))
over_is n k (App f a) = λ i. App (over_is n k f i) (over_is n k a i)

pub over_renaming : (G : List Ty) (n : ℕ) (S : Ty) → slice_get G n ≡ Some S → IsRenaming (over_number n 0) G (S ∷ G)
over_renaming G n S g i T e =
    let z : nat_lt i 0 ≡ false = grind (arith, nat_tests) in
    ap (λ b. slice_get (S ∷ G) (cond b i (cond (nat_eq i (n + 0)) 0 (i + 1)))) z ∙ choice (nat_eq i (n + 0)) refl
  where
    choice : (b : Bool) → nat_eq i (n + 0) ≡ b → slice_get (S ∷ G) (cond b 0 (i + 1)) ≡ Some T
    choice true h = let q : n ≡ i = grind (arith, nat_tests) in sym g ∙ ap (slice_get G) q ∙ e
    choice false h = let q : i + 1 ≡ suc i = omega arith in ap (slice_get (S ∷ G)) q ∙ e

pub over_typed : {G : List Ty} (n : ℕ) {S T : Ty} {t : Tm} → slice_get G n ≡ Some S → Typed G t T → Typed (S ∷ G) (over n 0 t) T
over_typed {G} n {S} {T} {t} g d = subst (λ v. Typed (S ∷ G) v T) (sym (over_is n 0 t)) (rename_typed (over_number n 0) (S ∷ G) d (over_renaming G n S g))

pub over_conv : {G : List Ty} (n : ℕ) {S T : Ty} {t u : Tm} → slice_get G n ≡ Some S → Conv G T t u → Conv (S ∷ G) T (over n 0 t) (over n 0 u)
over_conv {G} n {S} {T} {t} {u} g c =
    subst (λ v. Conv (S ∷ G) T v (over n 0 u)) (sym (over_is n 0 t)) (subst (λ v. Conv (S ∷ G) T (rename (over_number n 0) t) v) (sym (over_is n 0 u)) (rename_conv (over_number n 0) (S ∷ G) c (over_renaming G n S g)))

-- the variable in the new binder's place gives the term again
pub over_back_bound : (n k i : ℕ) (b c : Bool) → nat_lt i k ≡ b → nat_eq i (n + k) ≡ c → put (Bound n) k (cond b (Bound i) (cond c (Bound k) (Bound (i + 1)))) ≡ Bound i
over_back_bound n k i true c h l =
    let e : nat_eq i k ≡ false = grind (arith, nat_tests) in
    let m : nat_lt k i ≡ false = grind (arith, nat_tests) in
    ap (λ v. cond v (raise k 0 (Bound n)) (cond (nat_lt k i) (Bound (i - 1)) (Bound i))) e ∙ ap (λ v. cond v (Bound (i - 1)) (Bound i)) m
over_back_bound n k i false true h l =
    let e : nat_eq k k ≡ true = grind (arith, nat_tests) in
    let z : nat_lt n 0 ≡ false = grind (arith, nat_tests) in
    let q : n + k ≡ i = grind (arith, nat_tests) in
    ap (λ v. cond v (raise k 0 (Bound n)) (cond (nat_lt k k) (Bound (k - 1)) (Bound k))) e ∙ ap (λ v. cond v (Bound n) (Bound (n + k))) z ∙ ap Bound q
over_back_bound n k i false false h l =
    let e : nat_eq (i + 1) k ≡ false = grind (arith, nat_tests) in
    let m : nat_lt k (i + 1) ≡ true = grind (arith, nat_tests) in
    let q : i + 1 - 1 ≡ i = omega arith in
    ap (λ v. cond v (raise k 0 (Bound n)) (cond (nat_lt k (i + 1)) (Bound (i + 1 - 1)) (Bound (i + 1)))) e ∙ ap (λ v. cond v (Bound (i + 1 - 1)) (Bound (i + 1))) m ∙ ap Bound q

pub over_back : (n k : ℕ) (t : Tm) → put (Bound n) k (over n k t) ≡ t
over_back n k (Const c T) = refl
over_back n k (Free x T) = refl
over_back n k (Unknown x i T) = refl
over_back n k (Bound i) = over_back_bound n k i (nat_lt i k) (nat_eq i (n + k)) refl refl
over_back n k (Abs x T b) = ap (Abs x T) (over_back n (k + 1) b)
over_back n k (App f a) = λ i. App (over_back n k f i) (over_back n k a i)

-- abstracting and applying: `(%x. t) x` is t
pub over_applied : {G : List Ty} (x : List ℕ) (n : ℕ) {S T : Ty} {t : Tm} → slice_get G n ≡ Some S → Typed G t T → Conv G T (App (Abs x S (over n 0 t)) (Bound n)) t
over_applied {G} x n {S} {T} {t} g d =
    let c : Conv G T (App (Abs x S (over n 0 t)) (Bound n)) (replace (over n 0 t) (Bound n)) = CBeta (over_typed n g d) (TBound g) in
    subst (λ u. Conv G T (App (Abs x S (over n 0 t)) (Bound n)) u) (over_back n 0 t) c

-- where the variable is not, the term is raised
pub over_missing_bound : (n k i : ℕ) (b c : Bool) → nat_eq i (n + k) ≡ c → c ≡ false → cond b (Bound i) (cond c (Bound k) (Bound (i + 1))) ≡ cond b (Bound i) (Bound (i + 1))
over_missing_bound n k i true c h e = refl
over_missing_bound n k i false true h e = cc
over_missing_bound n k i false false h e = refl

pub or_false : (a b : Bool) → (a || b) ≡ false → (a ≡ false) × (b ≡ false)
or_false true b e = cc
or_false false b e = (refl, e)

pub over_missing : (n k : ℕ) (t : Tm) → loose (n + k) t ≡ false → over n k t ≡ raise 1 k t
over_missing n k (Const c T) l = refl
over_missing n k (Free x T) l = refl
over_missing n k (Unknown x i T) l = refl
over_missing n k (Bound i) l = over_missing_bound n k i (nat_lt i k) (nat_eq i (n + k)) refl l
over_missing n k (Abs x T b) l = let e : n + (k + 1) ≡ n + k + 1 = omega arith in ap (Abs x T) (over_missing n (k + 1) b (ap (λ j. loose j b) e ∙ l))
over_missing n k (App f a) l = let o = or_false (loose (n + k) f) (loose (n + k) a) l in λ i. App (over_missing n k f o.0 i) (over_missing n k a o.1 i)

pub over_here : (n : ℕ) → over n 0 (Bound n) ≡ Bound 0
over_here n =
    let z : nat_lt n 0 ≡ false = grind (arith, nat_tests) in
    let e : nat_eq n (n + 0) ≡ true = grind (arith, nat_tests) in
    ap (λ b. cond b (Bound n) (cond (nat_eq n (n + 0)) (Bound 0) (Bound (n + 1)))) z ∙ ap (λ b. cond b (Bound 0) (Bound (n + 1))) e

-- applying and abstracting: `%x. v x`, x not in v, is v
pub over_application : {G : List Ty} (x : List ℕ) (n : ℕ) {S T : Ty} {v : Tm} → loose n v ≡ false → Typed G v (function_of S T) → Conv G (function_of S T) (Abs x S (over n 0 (App v (Bound n)))) v
over_application {G} x n {S} {T} {v} l d =
    let z : n + 0 ≡ n = omega arith in
    let e : over n 0 (App v (Bound n)) ≡ App (raise 1 0 v) (Bound 0) = λ i. App (over_missing n 0 v (ap (λ j. loose j v) z ∙ l) i) (over_here n i) in
    subst (λ u. Conv G (function_of S T) (Abs x S u) v) (sym e) (CEta d)

-- a term that gives t at the variable, and has not the variable itself, is `%x. t`
pub over_only : {G : List Ty} (x : List ℕ) (n : ℕ) {S T : Ty} {v t : Tm} → slice_get G n ≡ Some S → loose n v ≡ false → Typed G v (function_of S T) → Conv G T (App v (Bound n)) t → Conv G (function_of S T) v (Abs x S (over n 0 t))
over_only x n g l d c = CTrans (CSym (over_application x n l d)) (CAbs (over_conv n g c))

-- ---- closed terms and instances
pub rename_closed : {G : List Ty} {t : Tm} {T : Ty} → Typed G t T → (r : ℕ → ℕ) → ((i : ℕ) → i < length G → r i ≡ i) → rename r t ≡ t
rename_closed TConst r h = refl
rename_closed TFree r h = refl
rename_closed TUnknown r h = refl
rename_closed (TBound {G} {n} {T} g) r h = ap Bound (h n (below G n T g))
  where
    below : (G : List Ty) (n : ℕ) (T : Ty) → slice_get G n ≡ Some T → n < length G
    below [] n T e = cc
    below (S ∷ G) zero T e = omega arith
    below (S ∷ G) (suc n) T e = let lt = below G n T e in omega arith
rename_closed (TAbs {G} {x} {S} d) r h = ap (Abs x S) (rename_closed d (up r) (up_same r (length G) h))
  where
    up_same : (r : ℕ → ℕ) (m : ℕ) → ((i : ℕ) → i < m → r i ≡ i) → (i : ℕ) → i < suc m → up r i ≡ i
    up_same r m h zero lt = refl
    up_same r m h (suc i) lt = ap (λ j. suc j) (h i (omega arith))
rename_closed (TApp d e) r h = λ i. App (rename_closed d r h i) (rename_closed e r h i)

module _ (es : List TypeEntry) (fs : List TermEntry) (kept : IsKept es fs) where
  pub inst_rename : (r : ℕ → ℕ) (t : Tm) → inst_tm es fs (rename r t) ≡ rename r (inst_tm es fs t)
  inst_rename r (Const x T) = refl
  inst_rename r (Free x T) = refl
  inst_rename r (Unknown x i T) = sym (rename_closed (unknown_typed es fs [] x i T kept) r (λ j lt. absurd (omega arith)))
  inst_rename r (Bound n) = refl
  inst_rename r (Abs x T b) = ap (Abs x (inst_ty es T)) (inst_rename (up r) b)
  inst_rename r (App f a) = λ i. App (inst_rename r f i) (inst_rename r a i)

  pub inst_over : (n k : ℕ) (t : Tm) → inst_tm es fs (over n k t) ≡ over n k (inst_tm es fs t)
  inst_over n k t = ap (inst_tm es fs) (over_is n k t) ∙ inst_rename (over_number n k) t ∙ sym (over_is n k (inst_tm es fs t))
