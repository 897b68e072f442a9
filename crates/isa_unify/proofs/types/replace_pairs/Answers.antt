use Rattle.std.proofs.Common.{arith}
use Rattle.isa_unify.proofs.Stacks.{stack_replaced}
use Rattle.isa_unify.proofs.types.replace_pairs.Goals as goal

pub returns : goal.returns
returns c = stack_replaced c.args.by.now c.loop-pair.replaced.items c.args.pairs.now c.loop-pair.pair-index (omega arith) c.loop-pair.invariant
