use Rattle.std.proofs.Common.{length}
use Rattle.isa_resolution.proofs.unifiers.+keeps.Given as goal

abbrev pub decreases-keeps : goal.decreases-keeps
decreases-keeps l = length l.terms.now
