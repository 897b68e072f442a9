use Rattle.std.proofs.Common.{length}
use Rattle.isa_simprules.proofs.congruence.+premises_in.Given as goal

abbrev pub decreases-premises_in : goal.decreases-premises_in
decreases-premises_in l = length l.premises.now
