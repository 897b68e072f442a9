use Rattle.std.specs.Option.{option_copied}
use Rattle.isa_theory.specs.Applying.{IsLemmaOf, label_name, label_attributes}
use Rattle.isa_theory.specs.Told.{IsRefused, Leads}
use Rattle.isa_theory.proofs.Steps.{may_refused, begun}
use Rattle.isa_theory.proofs.context.Context.lemma.Goals as goal

pub returns-in_err-goal : goal.returns-in_err-goal
returns-in_err-goal c =
    may_refused (IsLemmaOf c.args.self.now c.args.schematic (option_copied c.args.label) c.args.text.now) _ _ c.from_residual.ensures.1 (λ n. IsRefused _ (c.in_err-goal.ensures n))

pub returns : goal.returns
returns c =
    Leads c.in_ok-goal.goal _ c.in_ok-goal.ensures
    (begun c.args.text.now.line (label_name (option_copied c.args.label)) c.in_ok-label_name.field-0 (label_attributes (option_copied c.args.label)) c.in_ok-label_attributes.field-0 c.in_ok-goal.goal c.in_ok-label_name.ensures c.in_ok-label_attributes.ensures)
