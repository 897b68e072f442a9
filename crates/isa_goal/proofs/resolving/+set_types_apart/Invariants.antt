use Rattle.std.proofs.Common.{length}
use Rattle.isa_goal.proofs.resolving.+set_types_apart.Given as goal

abbrev pub decreases-set_types_apart : goal.decreases-set_types_apart
decreases-set_types_apart l = length l.unknowns.now
