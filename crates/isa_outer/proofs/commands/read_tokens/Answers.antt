use Rattle.std.proofs.Common.{sym, ◌∙◌}
use Rattle.isa_outer.proofs.TextSoFar.{text_start, text_next, text_end, text_refused}
use Rattle.isa_outer.proofs.commands.read_tokens.Goals as goal

pub loop-rest-init : goal.loop-rest-init
loop-rest-init c = text_start _ _ _ _ c.at_start-last.ensures.last c.at_start-last.ensures.rest c.new-commands.ensures

pub loop-rest-preserved : goal.loop-rest-preserved
loop-rest-preserved c =
    text_next _ _ _ _ _ _ c.in_ok-next.next c.first_line.result c.loop-rest.invariant (sym c.is_end.ensures ∙ c.loop-rest-test.true) c.first_line.ensures c.in_ok-next.ensures
    c.in_ok-push.ensures.ok

pub returns-in_err-next : goal.returns-in_err-next
returns-in_err-next c =
    text_refused _ _ _ _ _ c.in_err-next.field-0.0 c.loop-rest.invariant (sym c.is_end.ensures ∙ c.loop-rest-test.true) c.in_err-next.ensures c.from_residual.ensures.1

pub returns : goal.returns
returns c = text_end _ _ _ _ c.loop-rest.invariant (sym c.is_end.ensures ∙ c.loop-rest-test.false)
