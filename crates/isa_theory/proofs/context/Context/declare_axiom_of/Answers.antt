use Rattle.std.specs.Prelude.{false}
use Rattle.isa_theory.specs.Reading.{IsPropOf}
use Rattle.isa_theory.specs.Applying.{WithAxiom, new_fact, axiom_of}
use Rattle.isa_theory.specs.Told.{FailsCheck, IsUnread}
use Rattle.isa_theory.proofs.Steps.{may_become_refused, reading_becomes, new_fact_none}
use Rattle.isa_theory.proofs.context.Context.declare_axiom_of.Goals as goal

pub returns-in_err-new_fact-clause-becomes : goal.returns-in_err-new_fact-clause-becomes
returns-in_err-new_fact-clause-becomes c =
    may_become_refused _ (WithAxiom c.args.self.now c.args.axiom.now) _ _ c.from_residual.ensures.1 (λ n. FailsCheck _ (c.in_err-new_fact.ensures n))

pub returns-in_err-prop-clause-becomes : goal.returns-in_err-prop-clause-becomes
returns-in_err-prop-clause-becomes c =
    may_become_refused _ (WithAxiom c.args.self.now c.args.axiom.now) _ _ c.from_residual-in_err-prop.ensures.1 (λ n. IsUnread _ c.in_ok-new_fact.ensures (c.in_err-prop.ensures n))

pub returns-clause-becomes : goal.returns-clause-becomes
returns-clause-becomes c = reading_becomes (new_fact c.args.self.now c.args.axiom.now.label.name) (IsPropOf c.args.self.now false c.args.axiom.now.prop) (axiom_of c.args.self.now c.args.axiom.now.label.name) _ c.add_axiom.new.self c.add_axiom.result c.in_ok-new_fact.ensures c.in_ok-prop.ensures c.add_axiom.ensures.becomes

pub add_axiom-requires : goal.add_axiom-requires
add_axiom-requires c = new_fact_none c.args.self.now _ c.in_ok-new_fact.ensures
