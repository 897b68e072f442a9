use Rattle.std.proofs.Common.{arith}
use Rattle.isa_inner_text.proofs.Lists.{implied_last}
use Rattle.isa_inner_text.proofs.part.implied.Goals as goal

pub loop-premise-preserved : goal.loop-premise-preserved
loop-premise-preserved c = grind (arith, implied_last, c.in-Some.ensures.items)
