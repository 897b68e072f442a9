use Rattle.std.proofs.Common.{length}
use Rattle.isa_theory.proofs.applying.+copy_attributes.Given as goal

abbrev pub decreases-copy_attributes : goal.decreases-copy_attributes
decreases-copy_attributes l = length l.attributes.now
