use Rattle.std.proofs.Common.{◌≡◌, sym, ap, ◌∙◌, arith}
use Rattle.isa_inner_types.proofs.TypeSteps.{functions_last}
use Rattle.isa_inner_types.proofs.reading.functions.Goals as goal

pub loop-domain-preserved : goal.loop-domain-preserved
loop-domain-preserved c = grind (arith, functions_last, c.in-Some.ensures.items)
