use Rattle.std.proofs.Common.{arith, ◌<◌, length}
use Rattle.isa_theory.specs.Applying.{all_known}
use Rattle.isa_theory.proofs.Steps.{answers_refused}
use Rattle.isa_theory.proofs.Loops.{known_passed, known_refused, known_end}
use Rattle.isa_theory.proofs.context.Context.check_facts.Goals as goal

pub returns-in_err-known_fact : goal.returns-in_err-known_fact
returns-in_err-known_fact c =
    let inside : c.loop-fact.fact-index < length c.args.facts.now = omega arith in
    answers_refused (all_known c.args.self.now c.args.facts.now) _ _ c.from_residual.ensures.1
    (λ n. known_refused c.args.self.now c.args.facts.now c.loop-fact.fact-index c.fact-item.result _ inside c.fact-item.is c.loop-fact.invariant (c.in_err-known_fact.ensures n))

pub loop-fact-preserved : goal.loop-fact-preserved
loop-fact-preserved c =
    let inside : c.loop-fact.fact-index < length c.args.facts.now = omega arith in
    known_passed c.args.self.now c.args.facts.now c.loop-fact.fact-index c.fact-item.result _ inside c.fact-item.is c.loop-fact.invariant c.in_ok-known_fact.ensures

pub returns : goal.returns
returns c = known_end c.args.self.now c.args.facts.now c.loop-fact.fact-index (omega arith) c.loop-fact.invariant
