use Rattle.std.proofs.Common.{length}
use Rattle.isa_unify.proofs.parts.+paired.Given as goal

abbrev pub decreases-paired : goal.decreases-paired
decreases-paired l = length l.left.now
