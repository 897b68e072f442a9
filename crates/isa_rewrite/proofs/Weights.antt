-- What the weight of a term does.
use Rattle.std.proofs.Common.{◌≡◌, ℕ, zero, suc, ◌+◌, ◌-◌, ◌≤◌, ◌<◌, nat_eq, nat_lt, List, [], ◌∷◌, ◌++◌, length, Option, Some, None, true, false, cond, refl, sym, ap, ◌∙◌, arith}
use Rattle.std.specs.Prelude.{slice_get}
use Rattle.std.proofs.lemmas.Bool.Decides.{nat_tests}
use Rattle.isa_terms.specs.Types.{Ty, Tys, TyCon, TyFixed, TyUnknown, ty_depth}
use Rattle.isa_terms.specs.Terms.{Tm, Const, Free, Unknown, Bound, Abs, App}
use Rattle.isa_terms.specs.Replace.{raise, put, replace}
use Rattle.isa_terms.proofs.Typed.{get_before, get_at, get_after}
use Rattle.isa_rewrite.specs.Weight.{variable_weight, weight_at, weight}
use Rattle.isa_rewrite.specs.Opening.{fresh, opened}

pub depth_positive : (T : Ty) → 1 ≤ ty_depth T
depth_positive (TyCon x Ts) = omega arith
depth_positive (TyFixed x) = omega arith
depth_positive (TyUnknown x i) = omega arith

variable_positive : (o : Option Ty) → 1 ≤ variable_weight o
variable_positive None = omega arith
variable_positive (Some T) = depth_positive T

pub weight_positive : (G : List Ty) (t : Tm) → 1 ≤ weight_at G t
weight_positive G (Const x T) = depth_positive T
weight_positive G (Free x T) = depth_positive T
weight_positive G (Unknown x i T) = depth_positive T
weight_positive G (Bound n) = variable_positive (slice_get G n)
weight_positive G (Abs x T b) = omega arith
weight_positive G (App f a) = let e = weight_positive G f in omega (arith, e)

put_bound : (x : List ℕ) (T : Ty) (P Q : List Ty) (i : ℕ) (b c : _) → nat_eq i (length P) ≡ b → nat_lt (length P) i ≡ c → weight_at (P ++ Q) (cond b (raise (length P) 0 (Free x T)) (cond c (Bound (i - 1)) (Bound i))) ≡ variable_weight (slice_get (P ++ T ∷ Q) i)
put_bound x T P Q i true c d e =
    let same : i ≡ length P = grind (arith, nat_tests, d) in
    ap variable_weight (sym (ap (slice_get (P ++ T ∷ Q)) same ∙ get_at P Q T))
put_bound x T P Q zero false true d e = absurd (grind (arith, nat_tests, e))
put_bound x T P Q (suc i) false true d e =
    let past : length P ≤ i = grind (arith, nat_tests, e) in
    ap variable_weight (ap (slice_get (P ++ Q)) (omega arith) ∙ sym (get_after P Q T i past))
put_bound x T P Q i false false d e =
    let before : i < length P = grind (arith, nat_tests, d, e) in
    ap variable_weight (get_before P Q (T ∷ Q) i before)

one_more : (n : ℕ) → suc n ≡ n + 1
one_more n = omega arith

weight_put : (x : List ℕ) (T : Ty) (P Q : List Ty) (t : Tm) → weight_at (P ++ Q) (put (Free x T) (length P) t) ≡ weight_at (P ++ T ∷ Q) t
weight_put x T P Q (Const y S) = refl
weight_put x T P Q (Free y S) = refl
weight_put x T P Q (Unknown y i S) = refl
weight_put x T P Q (Bound i) = put_bound x T P Q i (nat_eq i (length P)) (nat_lt (length P) i) refl refl
weight_put x T P Q (Abs y S b) =
    ap (λ n. n + 1) (ap (λ k. weight_at (S ∷ (P ++ Q)) (put (Free x T) k b)) (sym (one_more (length P))) ∙ weight_put x T (S ∷ P) Q b)
weight_put x T P Q (App f a) = λ i. weight_put x T P Q f i + weight_put x T P Q a i + 1

pub weight_opened : (k : ℕ) (T : Ty) (b : Tm) → weight (opened k T b) ≡ weight_at (T ∷ []) b
weight_opened k T b = weight_put (fresh k) T [] [] b
