use Rattle.std.proofs.Common.{length}
use Rattle.isa_simprules.proofs.congruence.+occurrences.Given as goal

abbrev pub decreases-occurrences : goal.decreases-occurrences
decreases-occurrences l = length l.terms.now
