use Rattle.std.proofs.Common.{length}
use Rattle.isa_theory.proofs.context.Context.+act.Given as goal

abbrev pub decreases-act : goal.decreases-act
decreases-act l = length l.attributes.now
