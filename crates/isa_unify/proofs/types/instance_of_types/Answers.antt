use Rattle.std.proofs.Common.{arith}
use Rattle.isa_unify.proofs.TypeAnswers.{instance_made}
use Rattle.isa_unify.proofs.types.instance_of_types.Goals as goal

pub returns : goal.returns
returns c = instance_made c.loop-entry.inst c.loop-entry.entries.items c.args.entries.items (omega (arith, c.in_default.ensures {u = tt})) c.loop-entry.invariant.0 c.loop-entry.invariant.1
