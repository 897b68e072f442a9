use Rattle.isa_theory.specs.Reading.{IsTypeOf}
use Rattle.isa_theory.specs.Applying.{WithNewConstant, new_constant, constant_of}
use Rattle.isa_theory.specs.Told.{FailsCheck, IsUnread}
use Rattle.isa_theory.proofs.Steps.{may_become_refused, reading_becomes}
use Rattle.isa_theory.proofs.context.Context.declare_new_constant.Goals as goal

pub returns-in_err-new_constant-clause-becomes : goal.returns-in_err-new_constant-clause-becomes
returns-in_err-new_constant-clause-becomes c =
    may_become_refused _ (WithNewConstant c.args.self.now c.args.constant.now) _ _ c.from_residual.ensures.1 (λ n. FailsCheck _ (c.in_err-new_constant.ensures n))

pub returns-in_err-typ-clause-becomes : goal.returns-in_err-typ-clause-becomes
returns-in_err-typ-clause-becomes c =
    may_become_refused _ (WithNewConstant c.args.self.now c.args.constant.now) _ _ c.from_residual-in_err-typ.ensures.1 (λ n. IsUnread _ c.in_ok-new_constant.ensures (c.in_err-typ.ensures n))

pub returns-clause-becomes : goal.returns-clause-becomes
returns-clause-becomes c = reading_becomes (new_constant c.args.self.now c.args.constant.now.name) (IsTypeOf c.args.self.now c.args.constant.now.typ) (constant_of c.args.self.now c.args.constant.now) _ c.declare_typed.new.self c.declare_typed.result c.in_ok-new_constant.ensures c.in_ok-typ.ensures c.declare_typed.ensures.becomes
