use Rattle.std.proofs.Common.{length}
use Rattle.isa_subgoal.proofs.lift.+over_types.Given as goal

abbrev pub decreases-over_types : goal.decreases-over_types
decreases-over_types l = length l.parameters.now
