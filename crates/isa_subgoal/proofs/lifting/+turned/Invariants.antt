use Rattle.std.proofs.Common.{length}
use Rattle.isa_subgoal.proofs.lifting.+turned.Given as goal

abbrev pub decreases-turned : goal.decreases-turned
decreases-turned l = length l.terms.now
