use Rattle.std.proofs.Common.{length}
use Rattle.isa_goal.proofs.resolutions.+all_first_order.Given as goal

abbrev pub decreases-all_first_order : goal.decreases-all_first_order
decreases-all_first_order l = length l.rules.now
