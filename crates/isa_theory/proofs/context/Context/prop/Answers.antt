use Rattle.std.specs.Option.{option_copied}
use Rattle.isa_theory.specs.Applying.{IsGoalOf, new_label}
use Rattle.isa_theory.specs.Reading.{IsPropOf}
use Rattle.isa_theory.specs.Told.{FailsCheck}
use Rattle.isa_theory.proofs.Steps.{may_refused, reading_may}
use Rattle.isa_theory.proofs.context.Context.prop.Goals as goal

pub returns-in_err-new_label : goal.returns-in_err-new_label
returns-in_err-new_label c =
    may_refused (IsGoalOf c.args.self.now c.args.schematic (option_copied c.args.label) c.args.text.now) _ _ c.from_residual.ensures.1 (λ n. FailsCheck _ (c.in_err-new_label.ensures n))

pub returns : goal.returns
returns c =
    reading_may (new_label c.args.self.now (option_copied c.args.label)) (IsPropOf c.args.self.now c.args.schematic c.args.text.now) c.read_prop.result c.in_ok-new_label.ensures c.read_prop.ensures
