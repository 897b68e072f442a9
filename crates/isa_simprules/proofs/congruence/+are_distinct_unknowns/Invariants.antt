use Rattle.std.proofs.Common.{length}
use Rattle.isa_simprules.proofs.congruence.+are_distinct_unknowns.Given as goal

abbrev pub decreases-are_distinct_unknowns : goal.decreases-are_distinct_unknowns
decreases-are_distinct_unknowns l = length l.terms.now
