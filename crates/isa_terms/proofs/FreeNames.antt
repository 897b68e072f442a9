-- Terms that differ in the names of their binders only are convertible.
use Rattle.std.proofs.Common.{◌≡◌, ◌≢◌, ℕ, ◌+◌, ◌-◌, ◌<◌, ◌≤◌, List, [], ◌∷◌, Bool, true, false, cond, nat_eq, nat_lt, refl, sym, ap, ◌∙◌, subst, arith}
use Rattle.std.proofs.lemmas.Bool.Decides.{nat_tests}
use Rattle.isa_terms.specs.Types.{Ty}
use Rattle.isa_terms.specs.Terms.{Tm, Const, Free, Unknown, Bound, Abs, App, bare}
use Rattle.isa_terms.specs.Typing.{function_of}
use Rattle.isa_terms.specs.Replace.{raise, put, replace}
use Rattle.isa_terms.specs.Norm.{norm}
use Rattle.isa_terms.specs.Typed.{Typed, TConst, TFree, TUnknown, TBound, TAbs, TApp}
use Rattle.isa_terms.specs.Conversion.{Conv, CRefl, CSym, CTrans, CApp, CAbs, CBeta, CEta}
use Rattle.isa_terms.proofs.Typed.{raise_typed}
use Rattle.isa_terms.proofs.Conv.{right_typed, norm_conv}

-- ---- the innermost variable in its own place
pub back_below : (k i : ℕ) (b c : Bool) → nat_eq i k ≡ b → nat_lt k i ≡ c → i < k + 1 → cond b (raise k 0 (Bound 0)) (cond c (Bound (i - 1)) (Bound i)) ≡ Bound i
back_below k i true c h l lt =
    let e : i ≡ k = grind (arith, nat_tests) in
    let z : nat_lt 0 0 ≡ false = grind (arith, nat_tests) in
    let s : 0 + k ≡ i = omega arith in
    ap (λ v. cond v (Bound 0) (Bound (0 + k))) z ∙ ap Bound s
back_below k i false true h l lt = let n : i ≢ k = grind (arith, nat_tests) in let m : k < i = grind (arith, nat_tests) in absurd (omega arith)
back_below k i false false h l lt = refl

pub back_above : (k i : ℕ) → k + 1 ≤ i → put (Bound 0) k (Bound (i + 1)) ≡ Bound i
back_above k i le =
    let e : nat_eq (i + 1) k ≡ false = grind (arith, nat_tests) in
    let l : nat_lt k (i + 1) ≡ true = grind (arith, nat_tests) in
    let m : i + 1 - 1 ≡ i = omega arith in
    ap (λ v. cond v (raise k 0 (Bound 0)) (cond (nat_lt k (i + 1)) (Bound (i + 1 - 1)) (Bound (i + 1)))) e ∙ ap (λ v. cond v (Bound (i + 1 - 1)) (Bound (i + 1))) l ∙ ap Bound m

pub back_bound : (k i : ℕ) (b : Bool) → nat_lt i (k + 1) ≡ b → put (Bound 0) k (cond b (Bound i) (Bound (i + 1))) ≡ Bound i
back_bound k i true h = let lt : i < k + 1 = grind (arith, nat_tests) in back_below k i (nat_eq i k) (nat_lt k i) refl refl lt
back_bound k i false h = let le : k + 1 ≤ i = grind (arith, nat_tests) in back_above k i le

pub put_back : (k : ℕ) (t : Tm) → put (Bound 0) k (raise 1 (k + 1) t) ≡ t
put_back k (Const x T) = refl
put_back k (Free x T) = refl
put_back k (Unknown x i T) = refl
put_back k (Bound i) = back_bound k i (nat_lt i (k + 1)) refl
put_back k (Abs x T b) = ap (Abs x T) (put_back (k + 1) b)
put_back k (App f a) = λ i. App (put_back k f i) (put_back k a i)

-- ---- an abstraction with another name
pub renamed_conv : (G : List Ty) (x y : List ℕ) (S T : Ty) (b : Tm) → Typed (S ∷ G) b T → Conv G (function_of S T) (Abs x S b) (Abs y S b)
renamed_conv G x y S T b d =
    let e : Conv G (function_of S T) (Abs y S (App (raise 1 0 (Abs x S b)) (Bound 0))) (Abs x S b) = CEta (TAbs d) in
    let under : Typed (S ∷ (S ∷ G)) (raise 1 1 b) T = raise_typed (S ∷ []) (S ∷ []) G refl d in
    let c : Conv (S ∷ G) T (App (Abs x S (raise 1 1 b)) (Bound 0)) (replace (raise 1 1 b) (Bound 0)) = CBeta under (TBound refl) in
    let c' : Conv (S ∷ G) T (App (Abs x S (raise 1 1 b)) (Bound 0)) b = subst (λ u. Conv (S ∷ G) T (App (Abs x S (raise 1 1 b)) (Bound 0)) u) (put_back 0 b) c in
    CTrans (CSym e) (CAbs c')

pub bare_conv : {G : List Ty} {t : Tm} {T : Ty} → Typed G t T → Conv G T t (bare t)
bare_conv TConst = CRefl TConst
bare_conv TFree = CRefl TFree
bare_conv TUnknown = CRefl TUnknown
bare_conv (TBound h) = CRefl (TBound h)
bare_conv (TAbs {G} {x} {S} {T} {b} d) = CTrans (renamed_conv G x [] S T b d) (CAbs (bare_conv d))
bare_conv (TApp d e) = CApp (bare_conv d) (bare_conv e)

-- terms that are equal but for the names of binders
pub same_conv : {G : List Ty} {t u : Tm} {T : Ty} → Typed G t T → Typed G u T → bare t ≡ bare u → Conv G T t u
same_conv {G} {t} {u} {T} d e s = CTrans (bare_conv d) (subst (λ v. Conv G T v u) (sym s) (CSym (bare_conv e)))

-- terms whose normal forms are
pub norm_same_conv : {G : List Ty} {t u : Tm} {T : Ty} → Typed G t T → Typed G u T → bare (norm t) ≡ bare (norm u) → Conv G T t u
norm_same_conv d e s =
    let c = norm_conv d in
    let k = norm_conv e in
    CTrans c (CTrans (same_conv (right_typed c) (right_typed k) s) (CSym k))
