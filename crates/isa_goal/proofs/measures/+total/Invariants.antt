use Rattle.std.proofs.Common.{length}
use Rattle.isa_goal.proofs.measures.+total.Given as goal

abbrev pub decreases-total_from : goal.decreases-total_from
decreases-total_from l = length l.terms.now
