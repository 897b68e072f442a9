use Rattle.std.proofs.Common.{length}
use Rattle.isa_goal.proofs.resolving.+set_found.Given as goal

abbrev pub decreases-set_found : goal.decreases-set_found
decreases-set_found l = length l.found.now
