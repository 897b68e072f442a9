use Rattle.isa_theory.specs.Applying.{all_known}
use Rattle.isa_theory.specs.MethodFacts.{method_facts}
use Rattle.isa_theory.proofs.Steps.{answers_refused, answers_same}
use Rattle.isa_theory.proofs.Loops.{part_unknown, part_known}
use Rattle.isa_theory.proofs.context.Context.+check_method.Goals as goal

pub returns-in_err-check_method-in-Then : goal.returns-in_err-check_method-in-Then
returns-in_err-check_method-in-Then t c =
    answers_refused (all_known c.args.self.now (method_facts c.args.method.now)) _ _ c.from_residual-in_err-check_method-in-Then.ensures.1
    (λ n. part_unknown c.args.self.now c.args.method.now c.in-Then.first c.in-Then.second _ c.view.result.now _ c.view.ensures c.in-Then.is (c.in_err-check_method-in-Then.ensures n))

pub returns-in_ok-check_method-in-Then : goal.returns-in_ok-check_method-in-Then
returns-in_ok-check_method-in-Then t c =
    answers_same _ (all_known c.args.self.now (method_facts c.args.method.now)) (all_known c.args.self.now (method_facts c.in-Then.second))
    (part_known c.args.self.now c.args.method.now c.in-Then.first c.in-Then.second _ c.view.result.now c.view.ensures c.in-Then.is c.in_ok-check_method-in-Then.ensures)
    c.check_method-in-Then-2.ensures
