use Rattle.std.proofs.Common.{refl}
use Rattle.isa_outer.specs.declared.command.Declaration.{Declaration}
use Rattle.isa_outer.specs.Grammar.{◌▸◌, separated, w, declaration}
use Rattle.isa_outer.proofs.Lists.{list_start, separated_next, separated_end, separated_refused, fails}
use Rattle.isa_outer.proofs.declarations.declaration_list.Goals as goal

pub loop-after-init : goal.loop-after-init
loop-after-init c = list_start declaration (w "and" ▸ declaration) _ _ _ _ _ c.in_ok-first.ensures c.new-declarations.ensures c.in_ok-push.ensures.ok

pub returns-in_err-next : goal.returns-in_err-next
returns-in_err-next c =
    fails (separated (w "and") declaration) _ _ c.in_err-next.field-0.0 c.from_residual-in_err-next.ensures.1
    (separated_refused Declaration (w "and") declaration _ _ _ _ c.in_err-next.field-0.0 c.loop-after.invariant refl c.in-Some.ensures c.in_err-next.ensures)

pub loop-after-preserved : goal.loop-after-preserved
loop-after-preserved c =
    separated_next Declaration (w "and") declaration _ _ _ _ _ _ c.in_ok-next.next c.loop-after.invariant refl c.in-Some.ensures c.in_ok-next.ensures c.in_ok-push-2.ensures.ok

pub returns : goal.returns
returns c = separated_end Declaration (w "and") declaration _ _ _ c.loop-after.invariant refl c.in_default.ensures.0
