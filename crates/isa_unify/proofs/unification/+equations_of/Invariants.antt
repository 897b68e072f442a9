use Rattle.std.proofs.Common.{length}
use Rattle.isa_unify.proofs.unification.+equations_of.Given as goal

abbrev pub decreases-equations_of : goal.decreases-equations_of
decreases-equations_of l = length l.pairs.now
