use Rattle.std.proofs.Common.{arith, ◌<◌, length}
use Rattle.isa_theory.specs.Applying.{known_facts}
use Rattle.isa_theory.proofs.Steps.{answers_refused}
use Rattle.isa_theory.proofs.Loops.{facts_start, facts_next, facts_refused, facts_end}
use Rattle.isa_theory.proofs.context.Context.known_facts.Goals as goal

pub loop-fact-init : goal.loop-fact-init
loop-fact-init c = facts_start c.args.self.now c.args.facts.now _ c.new-all.ensures

pub returns-in_err-known_fact : goal.returns-in_err-known_fact
returns-in_err-known_fact c =
    let inside : c.loop-fact.fact-index < length c.args.facts.now = omega arith in
    answers_refused (known_facts c.args.self.now c.args.facts.now) _ _ c.from_residual.ensures.1
    (λ n. facts_refused c.args.self.now c.args.facts.now c.loop-fact.fact-index c.fact-item.result _ _ inside c.fact-item.is c.loop-fact.invariant (c.in_err-known_fact.ensures n))

pub loop-fact-preserved : goal.loop-fact-preserved
loop-fact-preserved c =
    let inside : c.loop-fact.fact-index < length c.args.facts.now = omega arith in
    facts_next c.args.self.now c.args.facts.now c.loop-fact.fact-index c.fact-item.result _ _ _ inside c.fact-item.is c.loop-fact.invariant c.in_ok-known_fact.ensures c.in_ok-push_all.ensures

pub returns : goal.returns
returns c = facts_end c.args.self.now c.args.facts.now c.loop-fact.fact-index _ (omega arith) c.loop-fact.invariant
