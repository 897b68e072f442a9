use Rattle.std.proofs.Common.{refl, sym}
use Rattle.isa_check.proofs.Printing.{refused_does, accepted_does}
use Rattle.isa_check.proofs.top.run_text.Goals as goal

pub returns-in-Ok : goal.returns-in-Ok
returns-in-Ok g c = accepted_does c.args.name.now c.args.text.now _ _ c.as_slice.result.now c.print_all.result _ _ c.in-Ok.ensures.answer c.as_slice.ensures c.print_all.ensures

pub returns-in-Err-Form : goal.returns-in-Err-Form
returns-in-Err-Form g c = refused_does c.args.name.now c.args.text.now _ _ _ c.refuse.result _ _ (rw c.in-Err-Form.field-0-is at c.in-Err-Form.ensures.answer) refl c.refuse.ensures

pub returns-in-Err-Typed : goal.returns-in-Err-Typed
returns-in-Err-Typed g c = refused_does c.args.name.now c.args.text.now _ _ _ c.refuse-in-Err-Typed.result _ _ (rw c.in-Err-Typed.field-0-is at c.in-Err-Typed.ensures.answer) refl c.refuse-in-Err-Typed.ensures

pub returns-in-Err-Step : goal.returns-in-Err-Step
returns-in-Err-Step g c = refused_does c.args.name.now c.args.text.now _ _ _ c.refuse-in-Err-Step.result _ _ (rw c.in-Err-Step.field-0-is at c.in-Err-Step.ensures.answer) refl c.refuse-in-Err-Step.ensures

pub returns-in-Err-NoEnd : goal.returns-in-Err-NoEnd
returns-in-Err-NoEnd g c = refused_does c.args.name.now c.args.text.now _ _ _ c.refuse-in-Err-NoEnd.result _ _ (rw c.in-Err-NoEnd.field-0-is at c.in-Err-NoEnd.ensures.answer) (sym c.line_count.ensures) c.refuse-in-Err-NoEnd.ensures
