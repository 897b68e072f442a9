use Rattle.isa_kernel.proofs.NormalForm.{normal_form_recorded}
use Rattle.isa_kernel.proofs.thm.normal_form_record.Goals as goal

pub returns : goal.returns
returns c = λ t T x typed hm he hc new.
    normal_form_recorded
    t c.args.normal.now c.args.equation.now c.args.anything.now c.in_ok-hidden.hidden T x c.in_ok-assumed.assumed c.in_ok-instance.instance c.in_ok-trivial.trivial c.in_ok-met.met c.in_ok-discharged.discharged c.in_ok-general.general c.in_ok-special.special
    c.in_ok-again.again c.in_ok-itself.itself c.in_ok-log.log c.new-nothing.result c.in_ok-copy.field-0 c.in_ok-copy-2.field-0 c.in_ok-copy-3.field-0 typed hm he hc c.in_ok-hidden.ensures new c.new-nothing.ensures c.in_ok-copy.ensures c.in_ok-copy-2.ensures
    c.in_ok-copy-3.ensures c.in_ok-assumed.ensures c.in_ok-instance.ensures c.in_ok-trivial.ensures c.in_ok-met.ensures c.in_ok-discharged.ensures c.in_ok-general.ensures c.in_ok-special.ensures c.in_ok-again.ensures c.in_ok-itself.ensures c.in_ok-log.ensures
