use Rattle.std.proofs.Common.{length}
use Rattle.isa_unify.proofs.binders.+solution.Given as goal

abbrev pub decreases-solution : goal.decreases-solution
decreases-solution l = length l.args.now
