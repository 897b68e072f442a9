use Rattle.std.proofs.Common.{length}
use Rattle.isa_goal.proofs.counted.+rules_have_counted.Given as goal

abbrev pub decreases-rules_have_counted : goal.decreases-rules_have_counted
decreases-rules_have_counted l = length l.rules.now
