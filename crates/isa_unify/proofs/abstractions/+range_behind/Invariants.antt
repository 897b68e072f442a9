use Rattle.std.proofs.Common.{length}
use Rattle.isa_unify.proofs.abstractions.+range_behind.Given as goal

abbrev pub decreases-range_behind : goal.decreases-range_behind
decreases-range_behind l = length l.numbers.now
