use Rattle.std.proofs.Common.{refl}
use Rattle.std.specs.Option.{option_copied}
use Rattle.isa_theory.specs.Applying.{WithGoal}
use Rattle.isa_theory.specs.Told.{IsRefused, Leads}
use Rattle.isa_theory.proofs.Steps.{may_become_refused}
use Rattle.isa_theory.proofs.context.Context.check_goal.Goals as goal

pub returns-in_err-prop : goal.returns-in_err-prop
returns-in_err-prop c =
    may_become_refused _ (WithGoal c.args.self.now c.args.schematic (option_copied c.args.label) c.args.text.now) _ _ c.from_residual.ensures.1 (λ n. IsRefused _ (c.in_err-prop.ensures n))

pub returns : goal.returns
returns c = Leads c.in_ok-prop.field-0 _ c.in_ok-prop.ensures refl
