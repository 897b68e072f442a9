use Rattle.std.proofs.Common.{length}
use Rattle.isa_theory.proofs.roles.+states.Given as goal

abbrev pub decreases-states : goal.decreases-states
decreases-states l = length l.thms.now
