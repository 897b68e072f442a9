use Rattle.std.proofs.Common.{length}
use Rattle.isa_unify.proofs.abstractions.+bound_over.Given as goal

abbrev pub decreases-bound_over : goal.decreases-bound_over
decreases-bound_over l = length l.numbers.now
