use Rattle.std.proofs.Common.{ap, sym, ◌∙◌, arith, ◌<◌, length}
use Rattle.isa_theory.specs.Applying.{all_known}
use Rattle.isa_theory.specs.MethodFacts.{modifiers_facts}
use Rattle.isa_theory.proofs.Steps.{answers_refused}
use Rattle.isa_theory.proofs.Loops.{modifiers_passed, modifiers_refused, modifiers_end}
use Rattle.isa_theory.proofs.context.Context.check_modifiers.Goals as goal

pub returns-in_err-check_facts : goal.returns-in_err-check_facts
returns-in_err-check_facts c =
    let inside : c.loop-modifier.modifier-index < length c.args.modifiers.now = omega arith in
    answers_refused (all_known c.args.self.now (modifiers_facts c.args.modifiers.now)) _ _ c.from_residual.ensures.1
    (λ n. modifiers_refused c.args.self.now c.args.modifiers.now c.loop-modifier.modifier-index c.modifier-item.result _ inside c.modifier-item.is c.loop-modifier.invariant
    (ap (λ fs. all_known c.args.self.now fs) (sym (c.as_slice.ensures ∙ c.modifier_facts.ensures)) ∙ c.in_err-check_facts.ensures n))

pub loop-modifier-preserved : goal.loop-modifier-preserved
loop-modifier-preserved c =
    let inside : c.loop-modifier.modifier-index < length c.args.modifiers.now = omega arith in
    modifiers_passed c.args.self.now c.args.modifiers.now c.loop-modifier.modifier-index c.modifier-item.result inside c.modifier-item.is c.loop-modifier.invariant
    (ap (λ fs. all_known c.args.self.now fs) (sym (c.as_slice.ensures ∙ c.modifier_facts.ensures)) ∙ c.in_ok-check_facts.ensures)

pub returns : goal.returns
returns c = modifiers_end c.args.self.now c.args.modifiers.now c.loop-modifier.modifier-index (omega arith) c.loop-modifier.invariant
