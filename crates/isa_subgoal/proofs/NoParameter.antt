-- Lifting over no parameter.
use Rattle.std.proofs.Common.{◌≡◌, ℕ, ◌+◌, List, [], ◌∷◌, map, refl, ap}
use Rattle.isa_terms.specs.Terms.{Tm, Const, Free, Unknown, Bound, Abs, App}
use Rattle.isa_subgoal.specs.Premises.{implies, premises, conclusion}
use Rattle.isa_subgoal.specs.Lift.{lift, lift_over, LiftedOverNoParameter}

lift_none : (d : ℕ) (t : Tm) → lift [] d t ≡ t
lift_none d (Const x T) = refl
lift_none d (Free x T) = refl
lift_none d (Unknown x i T) = refl
lift_none d (Bound i) = refl
lift_none d (Abs x T b) = ap (Abs x T) (lift_none (d + 1) b)
lift_none d (App f a) = λ i. App (lift_none d f i) (lift_none d a i)

over_none : (hs ts : List Tm) → map (lift_over [] hs) ts ≡ map (implies hs) ts
over_none hs [] = refl
over_none hs (t ∷ ts) = λ i. implies hs (lift_none 0 t i) ∷ over_none hs ts i

pub lifted_over_no_parameter : LiftedOverNoParameter
lifted_over_no_parameter hs th = λ i. implies (over_none hs (premises th.prop) i) (implies hs (lift_none 0 (conclusion th.prop) i))
