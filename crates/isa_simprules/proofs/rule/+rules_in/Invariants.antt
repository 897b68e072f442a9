use Rattle.std.proofs.Common.{length}
use Rattle.isa_simprules.proofs.rule.+rules_in.Given as goal

abbrev pub decreases-rules_in : goal.decreases-rules_in
decreases-rules_in l = length l.theorems.now
