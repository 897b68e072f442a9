use Rattle.std.proofs.Common.{length}
use Rattle.isa_simpset.proofs.rules.+add_rules.Given as goal

abbrev pub decreases-add_rules : goal.decreases-add_rules
decreases-add_rules l = length l.others.now
