use Rattle.std.proofs.Common.{arith, ◌<◌, length}
use Rattle.isa_theory.specs.Applying.{with_labels}
use Rattle.isa_theory.proofs.Growing.{grows_on}
use Rattle.isa_theory.proofs.Steps.{becomes_refused}
use Rattle.isa_theory.proofs.Loops.{each_start, each_next, each_refused, each_end}
use Rattle.isa_theory.proofs.context.Context.declare_labels.Goals as goal

pub loop-axiom-init : goal.loop-axiom-init
loop-axiom-init c = each_start _ c.args.self.now c.args.axioms.now

pub returns-in_err-declare_fact-clause-becomes : goal.returns-in_err-declare_fact-clause-becomes
returns-in_err-declare_fact-clause-becomes c =
    let inside : c.loop-axiom.axiom-index < length c.args.axioms.now = omega arith in
    becomes_refused _ (with_labels c.args.self.now c.args.axioms.now) _ _ c.from_residual.ensures.1
    (λ n. each_refused _ c.args.self.now _ c.args.axioms.now c.loop-axiom.axiom-index c.axiom-item.result _ inside c.axiom-item.is c.loop-axiom.invariant (c.in_err-declare_fact.ensures.becomes n))

pub returns-in_err-declare_fact-clause-grows : goal.returns-in_err-declare_fact-clause-grows
returns-in_err-declare_fact-clause-grows c = grows_on _ _ _ c.loop-axiom.invariant.grows c.in_err-declare_fact.ensures.grows

pub loop-axiom-preserved : goal.loop-axiom-preserved
loop-axiom-preserved c =
    let inside : c.loop-axiom.axiom-index < length c.args.axioms.now = omega arith in
    each_next _ c.args.self.now _ _ c.args.axioms.now c.loop-axiom.axiom-index c.axiom-item.result inside c.axiom-item.is c.loop-axiom.invariant c.in_ok-declare_fact.ensures.becomes c.in_ok-declare_fact.ensures.grows

pub returns-clause-becomes : goal.returns-clause-becomes
returns-clause-becomes c = each_end _ c.args.self.now _ c.args.axioms.now c.loop-axiom.axiom-index (omega arith) c.loop-axiom.invariant

pub returns-clause-grows : goal.returns-clause-grows
returns-clause-grows c = c.loop-axiom.invariant.grows
