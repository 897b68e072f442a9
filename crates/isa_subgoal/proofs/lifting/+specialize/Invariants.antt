use Rattle.std.proofs.Common.{length}
use Rattle.isa_subgoal.proofs.lifting.+specialize.Given as goal

abbrev pub decreases-specialize : goal.decreases-specialize
decreases-specialize l = length l.terms.now
