use Rattle.std.proofs.Common.{rules, sym, ◌∙◌}
use Rattle.isa_simprules.proofs.Granting.{match_is_granted}
use Rattle.isa_simprules.proofs.roles.by_match.Goals as goal

pub returns : goal.returns
returns c =
    match_is_granted c.args.fact.now c.args.th.now c.in-Some-3.made c.in-Some.pattern.now c.in-Some.field-0-1.now c.in_ok-form.form.conclusion c.as_slice-2.result.now c.in-Some-2.found c.in_ok-s.s c.in_ok-made.field-0
    c.instantiate_thm-instance.result c.cut-answer.result c.if_granted-2.result (search rules) (sym c.in_ok-found.ensures.answer ∙ c.in-Some-2.is) (search rules) (search rules) c.instantiate_thm-instance.ensures c.in_ok-made.ensures c.in-Some-3.is
    (search rules) c.cut-answer.ensures.defined c.if_granted-2.ensures
