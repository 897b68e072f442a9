use Rattle.std.proofs.Common.{length}
use Rattle.isa_goal.proofs.measures.+same.Given as goal

abbrev pub decreases-same_terms : goal.decreases-same_terms
decreases-same_terms l = length l.left.now
