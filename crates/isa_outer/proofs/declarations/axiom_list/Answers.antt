use Rattle.std.proofs.Common.{refl}
use Rattle.isa_outer.specs.declared.command.Axiom.{Axiom}
use Rattle.isa_outer.specs.Grammar.{◌▸◌, separated, w, axiom_form}
use Rattle.isa_outer.proofs.Lists.{list_start, separated_next, separated_end, separated_refused, fails}
use Rattle.isa_outer.proofs.declarations.axiom_list.Goals as goal

pub loop-after-init : goal.loop-after-init
loop-after-init c = list_start (axiom_form c.args.line) (w "and" ▸ (axiom_form c.args.line)) _ _ _ _ _ c.in_ok-first.ensures c.new-axioms.ensures c.in_ok-push.ensures.ok

pub returns-in_err-next : goal.returns-in_err-next
returns-in_err-next c =
    fails (separated (w "and") (axiom_form c.args.line)) _ _ c.in_err-next.field-0.0 c.from_residual-in_err-next.ensures.1
    (separated_refused Axiom (w "and") (axiom_form c.args.line) _ _ _ _ c.in_err-next.field-0.0 c.loop-after.invariant refl c.in-Some.ensures c.in_err-next.ensures)

pub loop-after-preserved : goal.loop-after-preserved
loop-after-preserved c =
    separated_next Axiom (w "and") (axiom_form c.args.line) _ _ _ _ _ _ c.in_ok-next.next c.loop-after.invariant refl c.in-Some.ensures c.in_ok-next.ensures c.in_ok-push-2.ensures.ok

pub returns : goal.returns
returns c = separated_end Axiom (w "and") (axiom_form c.args.line) _ _ _ c.loop-after.invariant refl c.in_default.ensures.0
