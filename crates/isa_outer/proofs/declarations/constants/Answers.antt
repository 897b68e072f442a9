use Rattle.std.proofs.Common.{sym, ◌∙◌}
use Rattle.isa_outer.specs.Grammar.{constant, constants_form, name, unless, command_stands}
use Rattle.isa_outer.proofs.Lists.{list_next, list_end, list_refused, fails}
use Rattle.isa_outer.proofs.HeadBegins.{constant_begins}
use Rattle.isa_outer.proofs.declarations.constants.Goals as goal

pub loop-alloc-preserved : goal.loop-alloc-preserved
unfolding constant
loop-alloc-preserved c =
    list_next (constant c.args.line name) (constant c.args.line (unless command_stands name)) _ _ _ _ _ c.in_ok-next.next c.loop-alloc.invariant
    (constant_begins c.args.line _ ∙ sym c.more_constants.ensures ∙ c.loop-alloc-test.true) c.in_ok-next.ensures.0 c.in_ok-next.ensures.1 c.in_ok-push-2.ensures.ok

pub returns-in_err-next : goal.returns-in_err-next
unfolding constant constants_form
returns-in_err-next c =
    fails (constants_form c.args.line) _ _ c.in_err-next.field-0.0 c.from_residual-in_err-next.ensures.1
    (λ n. list_refused (constant c.args.line name) (constant c.args.line (unless command_stands name)) _ _ _ c.in_err-next.field-0.0 c.loop-alloc.invariant
    (constant_begins c.args.line _ ∙ sym c.more_constants.ensures ∙ c.loop-alloc-test.true) (c.in_err-next.ensures n))

pub returns : goal.returns
unfolding constants_form
returns c = list_end (constant c.args.line name) (constant c.args.line (unless command_stands name)) _ _ _ c.loop-alloc.invariant (constant_begins c.args.line _ ∙ sym c.more_constants.ensures ∙ c.loop-alloc-test.false)
