use Rattle.std.proofs.Common.{length}
use Rattle.isa_unify.proofs.unification.+type_pairs.Given as goal

abbrev pub decreases-type_pairs : goal.decreases-type_pairs
decreases-type_pairs l = length l.pairs.now
