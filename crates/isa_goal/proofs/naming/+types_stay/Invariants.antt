use Rattle.std.proofs.Common.{length}
use Rattle.isa_goal.proofs.naming.+types_stay.Given as goal

abbrev pub decreases-types_stay : goal.decreases-types_stay
decreases-types_stay l = length l.entries.now
