use Rattle.std.proofs.Common.{length}
use Rattle.isa_resolution.proofs.stating.+add_instances.Given as goal

abbrev pub decreases-add_instances : goal.decreases-add_instances
decreases-add_instances l = length l.terms.now
