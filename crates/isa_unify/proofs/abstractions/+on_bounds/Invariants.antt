use Rattle.std.proofs.Common.{length}
use Rattle.isa_unify.proofs.abstractions.+on_bounds.Given as goal

abbrev pub decreases-on_bounds : goal.decreases-on_bounds
decreases-on_bounds l = length l.numbers.now
