use Rattle.std.proofs.Common.{length}
use Rattle.isa_subgoal.proofs.lift.+lift_all_over.Given as goal

abbrev pub decreases-lift_all_over : goal.decreases-lift_all_over
decreases-lift_all_over l = length l.terms.now
