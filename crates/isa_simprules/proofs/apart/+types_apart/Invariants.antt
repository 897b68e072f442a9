use Rattle.std.proofs.Common.{length}
use Rattle.isa_simprules.proofs.apart.+types_apart.Given as goal

abbrev pub decreases-types_apart : goal.decreases-types_apart
decreases-types_apart l = length l.others.now
