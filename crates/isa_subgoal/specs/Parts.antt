-- The parts of a subgoal: its parameters, its assumptions and its conclusion.
-- Source: subgoals `!!x1 .. xk. H1 ==> .. ==> Hm ==> C` (The Isabelle/Isar Implementation Manual, "Tactical reasoning", "Goals"); the name of a parameter that no abstraction names is this project's.
use Rattle.std.specs.Prelude.{◌≡◌, List, [], ◌∷◌, Some, None}
use Rattle.isa_terms.specs.Terms.{Tm, Abs, App, bare}
use Rattle.isa_terms.specs.Norm.{norm}
use Rattle.isa_terms.specs.Normal.{IsNormal}
use Rattle.isa_kernel.specs.Logic.{IsProposition}
use Rattle.isa_kernel.specs.Forms.{quantifier_parts}
use Rattle.isa_subgoal.specs.declared.lift.Parameter.{Parameter}
use Rattle.isa_subgoal.specs.Premises.{implies, premises, conclusion}
use Rattle.isa_subgoal.specs.Shape.{spelled}
use Rattle.isa_subgoal.specs.Lift.{quantified}

-- the binders of the leading `!!`s, the outermost first
abbrev pub leading_binders : Tm → List Parameter
leading_binders (App f (Abs x T b)) = elim (quantifier_parts (App f (Abs x T b))) [ None ↦ [] | Some q ↦ record { name = x; typ = T } ∷ leading_binders b ]
leading_binders t = []

-- what stands behind them
abbrev pub behind_binders : Tm → Tm
behind_binders (App f (Abs x T b)) = elim (quantifier_parts (App f (Abs x T b))) [ None ↦ App f (Abs x T b) | Some q ↦ behind_binders b ]
behind_binders t = t

-- the parameters, the outermost first, and the assumptions and the conclusion, which stand under them
pub record Parts : Type 0 where
  pub parameters : List Parameter
  pub assumptions : List Tm
  pub conclusion : Tm

-- the parts of a subgoal, in which a `!!` over a predicate that is no abstraction has a parameter named x
abbrev pub parts_of : Tm → Parts
parts_of t = record {
  parameters = leading_binders (spelled t);
  assumptions = premises (behind_binders (spelled t));
  conclusion = conclusion (behind_binders (spelled t));
}

-- the subgoal that has these parts
abbrev pub subgoal_of : Parts → Tm
subgoal_of p = quantified p.parameters (implies p.assumptions p.conclusion)

-- the parts of a normal subgoal make it again, but for normal form and the names of binders
abbrev pub PartsMakeTheSubgoal : Type 0
PartsMakeTheSubgoal = (t : Tm) → IsProposition t → IsNormal t → bare (norm (subgoal_of (parts_of t))) ≡ bare t
