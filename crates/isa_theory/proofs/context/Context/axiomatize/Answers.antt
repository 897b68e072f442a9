use Rattle.isa_theory.proofs.Growing.{grows_on}
use Rattle.isa_theory.specs.Applying.{WithAxioms, WithAxiomatization, with_labels}
use Rattle.isa_theory.specs.Told.{IsRefused}
use Rattle.isa_theory.proofs.Steps.{may_become_refused, then_becomes}
use Rattle.isa_theory.proofs.context.Context.axiomatize.Goals as goal

pub returns-in_err-add_axioms-clause-becomes : goal.returns-in_err-add_axioms-clause-becomes
returns-in_err-add_axioms-clause-becomes c =
    may_become_refused _ (WithAxiomatization c.args.self.now c.args.axioms.now) _ _ c.from_residual.ensures.1 (λ n. IsRefused _ (c.in_err-add_axioms.ensures.becomes n))

pub returns-clause-becomes : goal.returns-clause-becomes
returns-clause-becomes c =
    then_becomes (WithAxioms c.args.self.now c.args.axioms.now) (λ d. with_labels d c.args.axioms.now) c.add_axioms.new.self c.declare_labels.new.self c.declare_labels.result c.in_ok-add_axioms.ensures.becomes c.declare_labels.ensures.becomes

pub returns-clause-grows : goal.returns-clause-grows
returns-clause-grows c = grows_on _ _ _ c.in_ok-add_axioms.ensures.grows c.declare_labels.ensures.grows
