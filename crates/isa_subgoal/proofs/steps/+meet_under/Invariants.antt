use Rattle.std.proofs.Common.{length}
use Rattle.isa_subgoal.proofs.steps.+meet_under.Given as goal

abbrev pub decreases-meet_under : goal.decreases-meet_under
decreases-meet_under l = length l.premises.now
