use Rattle.std.proofs.Common.{length}
use Rattle.isa_unify.proofs.abstractions.+arrows.Given as goal

abbrev pub decreases-arrows : goal.decreases-arrows
decreases-arrows l = length l.numbers.now
