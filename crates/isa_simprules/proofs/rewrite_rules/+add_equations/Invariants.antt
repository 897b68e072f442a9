use Rattle.std.proofs.Common.{length}
use Rattle.isa_simprules.proofs.rewrite_rules.+add_equations.Given as goal

abbrev pub decreases-add_equations : goal.decreases-add_equations
decreases-add_equations l = length l.theorems.now
