use Rattle.std.proofs.Common.{rules}
use Rattle.isa_kernel.specs.Logic.{prop}
use Rattle.isa_kernel.proofs.NormalForm.{normal_form_of}
use Rattle.isa_kernel.proofs.thm.normal_form.Goals as goal

pub invariant_of-result : goal.invariant_of-result
invariant_of-result c =
    normal_form_of
    c.args.t.now _ _ _ _ _ c.in_ok-typ.ensures c.in_ok-normal.ensures c.in_ok-equation.ensures (search rules)
    (c.in_ok-log.ensures c.args.t.now _ _ c.in_ok-typ.ensures c.in_ok-normal.ensures c.in_ok-equation.ensures (search rules) (c.in_ok-name.ensures prop))
