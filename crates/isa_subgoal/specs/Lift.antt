-- The lifting of a rule over the parameters and the assumptions of a subgoal.
-- Source: lifting (Paulson, "The foundation of a generic theorem prover", 1989; The Isabelle/Isar Implementation Manual, "Object-level rules", "Rule composition").
use Rattle.std.specs.Prelude.{◌≡◌, ℕ, zero, suc, ◌+◌, List, [], ◌∷◌, map, length, Some, Result}
use Rattle.isa_terms.specs.Types.{Ty}
use Rattle.isa_terms.specs.Terms.{Tm, Const, Free, Unknown, Bound, Abs, App}
use Rattle.isa_terms.specs.Typing.{function_of}
use Rattle.isa_terms.specs.Normal.{IsNormal}
use Rattle.isa_terms.specs.Typed.{Typed}
use Rattle.isa_terms.specs.Instances.{Each}
use Rattle.isa_kernel.specs.Logic.{prop, all}
use Rattle.isa_kernel.specs.declared.inference.InferenceError.{InferenceError}
use Rattle.isa_kernel.specs.Inferences.{Answers}
use Rattle.isa_kernel.specs.Theorem.{Theorem, IsDerived}
use Rattle.isa_subgoal.specs.declared.lift.Parameter.{Parameter}
use Rattle.isa_subgoal.specs.Premises.{implies, premises, conclusion}

-- `!!x1 .. xk. P`
abbrev pub quantified : List Parameter → Tm → Tm
quantified [] p = p
quantified (x ∷ xs) p = all x.name x.typ (quantified xs p)

-- `S1 => .. => Sk => T` for the types of the parameters
abbrev pub over_types : List Parameter → Ty → Ty
over_types [] T = T
over_types (x ∷ xs) T = function_of x.typ (over_types xs T)

-- f applied to k parameters, the outermost first, under d binders more
abbrev pub applied : Tm → ℕ → ℕ → Tm
applied f zero d = f
applied f (suc k) d = applied (App f (Bound (k + d))) k d

-- the term with each unknown applied to all parameters, under d binders more
abbrev pub lift : List Parameter → ℕ → Tm → Tm
lift xs d (Const x T) = Const x T
lift xs d (Free x T) = Free x T
lift xs d (Unknown x i T) = applied (Unknown x i (over_types xs T)) (length xs) d
lift xs d (Bound i) = Bound i
lift xs d (Abs x T b) = Abs x T (lift xs (d + 1) b)
lift xs d (App f a) = App (lift xs d f) (lift xs d a)

-- a premise or the conclusion of a rule under the parameters and the assumptions, which may hold the parameters
abbrev pub lift_over : List Parameter → List Tm → Tm → Tm
lift_over xs hs p = quantified xs (implies hs (lift xs 0 p))

abbrev pub lifted_prop : List Parameter → List Tm → Theorem → Tm
lifted_prop xs hs th = implies (map (lift_over xs hs) (premises th.prop)) (lift_over xs hs (conclusion th.prop))

-- over no parameter each premise and the conclusion stand under the assumptions, and nothing else changes
abbrev pub LiftedOverNoParameter : Type 0
LiftedOverNoParameter = (hs : List Tm) (th : Theorem) → lifted_prop [] hs th ≡ implies (map (implies hs) (premises th.prop)) (implies hs (conclusion th.prop))

-- the rule lifted over the parameters and the assumptions, as a theorem by the rule's axioms
abbrev pub lifted_rule : List Parameter → List Tm → Theorem → Theorem
lifted_rule xs hs th = record { hyps = []; prop = lifted_prop xs hs th; base = th.base }

-- the types of the parameters, the innermost first, before those of G
abbrev pub types_under : List Parameter → List Ty → List Ty
types_under [] G = G
types_under (x ∷ xs) G = types_under xs (x.typ ∷ G)

-- a normal rule without hypotheses, and assumptions that are propositions under the parameters
pub record IsLiftable (xs : List Parameter) (hs : List Tm) (th : Theorem) : Type 0 where
  pub hyps : th.hyps ≡ []
  pub normal : IsNormal th.prop
  pub assumptions : Each (λ h. Typed (types_under xs []) h prop) hs

-- no refusal comes for a normal rule without hypotheses and assumptions that are propositions under the parameters
abbrev pub Lifts : List Parameter → List Tm → Theorem → Result Theorem InferenceError → Type 0
Lifts xs hs th answer = th.hyps ≡ [] → IsNormal th.prop → Each (λ h. Typed (types_under xs []) h prop) hs → Answers answer (Some (lifted_rule xs hs th))

-- what is lifted has a derivation where the rule has one
abbrev pub LiftedIsDerived : Type 0
LiftedIsDerived = (xs : List Parameter) (hs : List Tm) (th : Theorem) → IsLiftable xs hs th → IsDerived th → IsDerived (lifted_rule xs hs th)
