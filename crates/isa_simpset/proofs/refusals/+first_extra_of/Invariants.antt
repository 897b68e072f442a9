use Rattle.std.proofs.Common.{length}
use Rattle.isa_simpset.proofs.refusals.+first_extra_of.Given as goal

abbrev pub decreases-first_extra_of : goal.decreases-first_extra_of
decreases-first_extra_of l = length l.rules.now
