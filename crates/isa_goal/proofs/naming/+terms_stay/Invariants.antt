use Rattle.std.proofs.Common.{length}
use Rattle.isa_goal.proofs.naming.+terms_stay.Given as goal

abbrev pub decreases-terms_stay : goal.decreases-terms_stay
decreases-terms_stay l = length l.entries.now
