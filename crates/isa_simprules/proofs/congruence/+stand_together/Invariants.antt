use Rattle.std.proofs.Common.{length}
use Rattle.isa_simprules.proofs.congruence.+stand_together.Given as goal

abbrev pub decreases-stand_together : goal.decreases-stand_together
decreases-stand_together l = length l.lefts.now
