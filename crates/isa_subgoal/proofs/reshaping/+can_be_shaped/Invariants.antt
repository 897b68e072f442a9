use Rattle.std.proofs.Common.{length}
use Rattle.isa_subgoal.proofs.reshaping.+can_be_shaped.Given as goal

abbrev pub decreases-can_be_shaped : goal.decreases-can_be_shaped
decreases-can_be_shaped l = length l.subgoals.now
