use Rattle.std.proofs.Common.{length}
use Rattle.isa_subgoal.proofs.lift.+applied.Given as goal

abbrev pub decreases-applied : goal.decreases-applied
decreases-applied l = length l.parameters.now
