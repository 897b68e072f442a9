use Rattle.isa_subgoal.proofs.SoundRules.{lifted_derived, renumbered_derived, elimination_derived}
use Rattle.isa_subgoal.proofs.laws.rules_stay_derived.Goals as goal

pub returns : goal.returns
returns c = record { lifted = lifted_derived; renumbered = renumbered_derived; elimination = elimination_derived }
