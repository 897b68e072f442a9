use Rattle.std.proofs.Common.{arith, ◌<◌, length}
use Rattle.isa_theory.specs.Applying.{WithAxiom, WithAxioms}
use Rattle.isa_theory.proofs.Growing.{grows_on}
use Rattle.isa_theory.proofs.Steps.{may_become_refused}
use Rattle.isa_theory.proofs.Loops.{told_start, told_next, told_refused, told_end}
use Rattle.isa_theory.proofs.context.Context.add_axioms.Goals as goal

pub loop-axiom-init : goal.loop-axiom-init
loop-axiom-init c = told_start WithAxiom c.args.self.now c.args.axioms.now

pub returns-in_err-declare_axiom_of-clause-becomes : goal.returns-in_err-declare_axiom_of-clause-becomes
returns-in_err-declare_axiom_of-clause-becomes c =
    let inside : c.loop-axiom.axiom-index < length c.args.axioms.now = omega arith in
    may_become_refused _ (WithAxioms c.args.self.now c.args.axioms.now) _ _ c.from_residual.ensures.1
    (λ n. told_refused WithAxiom c.args.self.now _ c.args.axioms.now c.loop-axiom.axiom-index c.axiom-item.result _ inside c.axiom-item.is c.loop-axiom.invariant (c.in_err-declare_axiom_of.ensures.becomes n))

pub returns-in_err-declare_axiom_of-clause-grows : goal.returns-in_err-declare_axiom_of-clause-grows
returns-in_err-declare_axiom_of-clause-grows c = grows_on _ _ _ c.loop-axiom.invariant.grows c.in_err-declare_axiom_of.ensures.grows

pub loop-axiom-preserved : goal.loop-axiom-preserved
loop-axiom-preserved c =
    let inside : c.loop-axiom.axiom-index < length c.args.axioms.now = omega arith in
    told_next WithAxiom c.args.self.now _ _ c.args.axioms.now c.loop-axiom.axiom-index c.axiom-item.result inside c.axiom-item.is c.loop-axiom.invariant c.in_ok-declare_axiom_of.ensures.becomes c.in_ok-declare_axiom_of.ensures.grows

pub returns-clause-becomes : goal.returns-clause-becomes
returns-clause-becomes c = told_end WithAxiom c.args.self.now _ c.args.axioms.now c.loop-axiom.axiom-index (omega arith) c.loop-axiom.invariant

pub returns-clause-grows : goal.returns-clause-grows
returns-clause-grows c = c.loop-axiom.invariant.grows
