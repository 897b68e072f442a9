use Rattle.std.proofs.Common.{arith}
use Rattle.isa_inner_text.proofs.Lists.{under_last}
use Rattle.isa_inner_text.proofs.part.under.Goals as goal

pub loop-variable-preserved : goal.loop-variable-preserved
loop-variable-preserved c = grind (arith, under_last, c.in-Some.ensures.items)
