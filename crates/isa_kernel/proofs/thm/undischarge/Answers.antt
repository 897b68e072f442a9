use Rattle.std.proofs.Common.{rules}
use Rattle.isa_kernel.proofs.thm.undischarge.Goals as goal

pub invariant_of-result : goal.invariant_of-result
invariant_of-result c = c.in_ok-log.ensures c.args.th.now _ c.in_ok-record.ensures (search rules)
