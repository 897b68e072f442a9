use Rattle.std.proofs.Common.{length}
use Rattle.isa_simprules.proofs.apart.+terms_apart.Given as goal

abbrev pub decreases-terms_apart : goal.decreases-terms_apart
decreases-terms_apart l = length l.others.now
