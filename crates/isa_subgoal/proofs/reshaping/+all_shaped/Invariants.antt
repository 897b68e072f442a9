use Rattle.std.proofs.Common.{length}
use Rattle.isa_subgoal.proofs.reshaping.+all_shaped.Given as goal

abbrev pub decreases-all_shaped : goal.decreases-all_shaped
decreases-all_shaped l = length l.subgoals.now
