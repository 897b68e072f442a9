use Rattle.std.proofs.Common.{ap, length, arith}
use Rattle.isa_inner_tokens.proofs.CuttingSteps.{close_rest}
use Rattle.isa_inner_tokens.proofs.cutting.to_close.Goals as goal

pub loop-first-preserved : goal.loop-first-preserved
loop-first-preserved c = (
  close_rest c.args.text.now c.loop-first.rest.now c.in-Some.after.now c.in-Some.first.now c.loop-first.count c.loop-first.invariant.0 c.in-Some.ensures.cases.0 c.if-first-eq62.false,
  omega (arith, c.loop-first.invariant.1, ap length c.in-Some.ensures.cases.0),
)
