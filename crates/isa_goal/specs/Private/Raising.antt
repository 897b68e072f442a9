-- The inferences that give the instance of a rule under assumptions.
-- Source: lifting over assumptions (Paulson, "The foundation of a generic theorem prover", 1989).
use Rattle.std.specs.Prelude.{ℕ, List, Option}
use Rattle.isa_terms.specs.Terms.{Tm}
use Rattle.isa_terms.specs.Instance.{Instance}
use Rattle.isa_kernel.specs.Forms.{◌>>=◌}
use Rattle.isa_kernel.specs.Theorem.{Theorem}
use Rattle.isa_kernel.specs.Inferences.{instantiated}
use Rattle.isa_subgoal.specs.Premises.{rule_form}
use Rattle.isa_subgoal.specs.Rules.{raised}

-- the instance of a rule of n premises, with these and the conclusion under the assumptions; none where the rule has no such instance, where that has hypotheses or fewer premises, or where an assumption is no proposition
abbrev pub raised_instance : List Tm → ℕ → Instance → Theorem → Option Theorem
raised_instance hs n inst th = do
  rule ← instantiated inst th
  parts ← rule_form n rule
  raised hs parts.0 rule
