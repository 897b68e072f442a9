use Rattle.std.proofs.Common.{length}
use Rattle.isa_kernel.proofs.thm.+make_implies.Given as goal

abbrev pub decreases-make_implies : goal.decreases-make_implies
decreases-make_implies l = length l.premises.now
