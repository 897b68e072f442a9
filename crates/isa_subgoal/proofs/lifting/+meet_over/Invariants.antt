use Rattle.std.proofs.Common.{length}
use Rattle.isa_subgoal.proofs.lifting.+meet_over.Given as goal

abbrev pub decreases-meet_over : goal.decreases-meet_over
decreases-meet_over l = length l.props.now
