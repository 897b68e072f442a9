use Rattle.std.proofs.Common.{length}
use Rattle.isaprove.proofs.plain.+is_notated.Given as goal

abbrev pub decreases-is_notated : goal.decreases-is_notated
decreases-is_notated l = length l.notated.now
