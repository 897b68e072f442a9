use Rattle.std.proofs.Common.{length}
use Rattle.isa_simprules.proofs.roles.+by_facts.Given as goal

abbrev pub decreases-by_facts : goal.decreases-by_facts
decreases-by_facts l = length l.facts.now
