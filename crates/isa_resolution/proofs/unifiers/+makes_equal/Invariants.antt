use Rattle.std.proofs.Common.{length}
use Rattle.isa_resolution.proofs.unifiers.+makes_equal.Given as goal

abbrev pub decreases-makes_equal : goal.decreases-makes_equal
decreases-makes_equal l = length l.pairs.now
