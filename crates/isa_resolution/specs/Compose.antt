-- Composition of two rules: the conclusion of the one meets a premise of the other.
-- Source: resolution of rules, as Isabelle's `compose` and `COMP` (Paulson, "The foundation of a generic theorem prover", 1989; The Isabelle/Isar Implementation Manual, "Rule composition"); the numbers of unknowns and the order of the premises are this project's.
use Rattle.std.specs.Prelude.{ℕ, List, [], ◌∷◌, ◌++◌, map, Bool, true, false, ◌&&◌, if◌then◌else◌, Option, Some, None}
use Rattle.isa_terms.specs.Terms.{Tm}
use Rattle.isa_terms.specs.Instance.{Instance, instance_of}
use Rattle.isa_kernel.specs.Axioms.{joined_bases}
use Rattle.isa_kernel.specs.Forms.{◌>>=◌}
use Rattle.isa_kernel.specs.Theorem.{Theorem}
use Rattle.isa_subgoal.specs.Premises.{premises, conclusion, rule_of}
use Rattle.isa_subgoal.specs.Renumbering.{renumbered_rule}
use Rattle.isa_unify.specs.Calls.{past_all}
use Rattle.isa_goal.specs.Goals.{around}
use Rattle.isa_resolution.specs.Ready.{normal, numbers_end}
use Rattle.isa_resolution.specs.Unifiers.{answer_of, instance_if_yes, pair}

-- the other premises of s in order, then those of r, and the conclusion of s, all under the instance
abbrev pub composed_under : Instance → Theorem → Theorem → (List Tm × Tm × List Tm) → Theorem
composed_under inst r s at = rule_of (map (instance_of inst) (at.0 ++ (at.2 ++ premises r.prop))) (instance_of inst (conclusion s.prop)) (joined_bases s.base r.base)

-- The conclusion of r, as the left side, is unified with that premise of s, counted from 1. New unknowns are numbered behind those of both.
abbrev pub composed_apart : Theorem → Theorem → ℕ → Option Theorem
composed_apart r s place = do
  at ← around place (premises s.prop)
  inst ← instance_if_yes (answer_of (pair (conclusion r.prop) at.1) (past_all (r.prop ∷ s.prop ∷ [])))
  Some (composed_under inst r s at)

-- The numbers of r are raised by one more than the greatest number of s. Rules count in normal form; a theorem with hypotheses is no rule.
abbrev pub composed : Theorem → Theorem → ℕ → Option Theorem
composed r s place = elim r.hyps [
  | [] ↦ elim s.hyps [
    | [] ↦ composed_apart (renumbered_rule (numbers_end (normal s).prop) (normal r)) (normal s) place
    | h ∷ hs ↦ None
  ]
  | h ∷ hs ↦ None
]
