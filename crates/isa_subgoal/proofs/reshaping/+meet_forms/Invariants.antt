use Rattle.std.proofs.Common.{length}
use Rattle.isa_subgoal.proofs.reshaping.+meet_forms.Given as goal

abbrev pub decreases-meet_forms : goal.decreases-meet_forms
decreases-meet_forms l = length l.subgoals.now
