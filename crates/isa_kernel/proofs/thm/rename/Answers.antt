use Rattle.std.proofs.Common.{rules}
use Rattle.isa_kernel.proofs.Derived.{renamed_recorded}
use Rattle.isa_kernel.proofs.thm.rename.Goals as goal

pub invariant_of-result : goal.invariant_of-result
invariant_of-result c =
    renamed_recorded c.args.prop.now c.args.th.now _ _ _ _ _ _ _ c.in_ok-assumption.ensures c.in_ok-copy.ensures c.in_ok-implication.ensures c.in_ok-copy-2.ensures c.in_ok-log.ensures c.in_ok-record.ensures (search rules)
