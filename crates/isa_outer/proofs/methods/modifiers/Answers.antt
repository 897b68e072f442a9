use Rattle.std.proofs.Common.{sym, ◌∙◌}
use Rattle.isa_outer.specs.declared.method.Modifier.{Modifier}
use Rattle.isa_outer.specs.Grammar.{modifier, modifier_list}
use Rattle.isa_outer.specs.Private.Heads.{head_of, stops_in}
use Rattle.isa_outer.proofs.Lists.{so_far_none, so_far_first, so_far_more, so_far_end, so_far_start, so_far_fails, fails_part}
use Rattle.isa_outer.proofs.methods.modifiers.Goals as goal

pub returns-then-not-begins_modifier : goal.returns-then-not-begins_modifier
returns-then-not-begins_modifier c = so_far_none Modifier (modifier (head_of c.args.heads) (stops_in c.args.inside)) _ _ c.new-modifiers.ensures (sym c.begins_modifier.ensures ∙ c.if-not-begins_modifier.true)

pub loop-alloc-init : goal.loop-alloc-init
loop-alloc-init c =
    so_far_first Modifier (modifier (head_of c.args.heads) (stops_in c.args.inside)) _ _ c.in_ok-first.first _ _ c.new-modifiers.ensures
    (sym c.begins_modifier.ensures ∙ c.if-not-begins_modifier.false) c.in_ok-first.ensures c.in_ok-push.ensures.ok

pub loop-alloc-preserved : goal.loop-alloc-preserved
loop-alloc-preserved c =
    so_far_more Modifier (modifier (head_of c.args.heads) (stops_in c.args.inside)) _ _ _ c.in_ok-next.next _ _ c.loop-alloc.invariant
    (sym c.begins_modifier-in-loop-alloc.ensures ∙ c.loop-alloc-test.true) c.in_ok-next.ensures c.in_ok-push-2.ensures.ok

pub returns : goal.returns
returns c = (so_far_end Modifier (modifier (head_of c.args.heads) (stops_in c.args.inside)) _ _ _ c.loop-alloc.invariant.0 (sym c.begins_modifier-in-loop-alloc.ensures ∙ c.loop-alloc-test.false), c.loop-alloc.invariant.1)

pub returns-in_err-first : goal.returns-in_err-first
returns-in_err-first c =
    fails_part (modifier_list (head_of c.args.heads) (stops_in c.args.inside)) _ _ c.in_err-first.field-0.0 c.from_residual.ensures.1
    (so_far_fails Modifier (modifier (head_of c.args.heads) (stops_in c.args.inside)) _ _ _ c.in_err-first.field-0.0 (so_far_start Modifier (modifier (head_of c.args.heads) (stops_in c.args.inside)) c.args.tokens.now)
    (sym c.begins_modifier.ensures ∙ c.if-not-begins_modifier.false) c.in_err-first.ensures)

pub returns-in_err-next : goal.returns-in_err-next
returns-in_err-next c =
    fails_part (modifier_list (head_of c.args.heads) (stops_in c.args.inside)) _ _ c.in_err-next.field-0.0 c.from_residual-in_err-next.ensures.1
    (so_far_fails Modifier (modifier (head_of c.args.heads) (stops_in c.args.inside)) _ _ _ c.in_err-next.field-0.0 c.loop-alloc.invariant.0
    (sym c.begins_modifier-in-loop-alloc.ensures ∙ c.loop-alloc-test.true) c.in_err-next.ensures)
