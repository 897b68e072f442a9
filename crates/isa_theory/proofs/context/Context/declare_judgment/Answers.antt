use Rattle.isa_theory.specs.Reading.{IsTypeOf}
use Rattle.isa_theory.specs.Applying.{WithJudgment, new_judgment, judgment_of}
use Rattle.isa_theory.specs.Told.{FailsCheck, IsUnread}
use Rattle.isa_theory.proofs.Steps.{may_become_refused, reading_becomes}
use Rattle.isa_theory.proofs.context.Context.declare_judgment.Goals as goal

pub returns-in_err-new_judgment-clause-becomes : goal.returns-in_err-new_judgment-clause-becomes
returns-in_err-new_judgment-clause-becomes c =
    may_become_refused _ (WithJudgment c.args.self.now c.args.name.now c.args.text.now) _ _ c.from_residual.ensures.1 (λ n. FailsCheck _ (c.in_err-new_judgment.ensures n))

pub returns-in_err-typ-clause-becomes : goal.returns-in_err-typ-clause-becomes
returns-in_err-typ-clause-becomes c =
    may_become_refused _ (WithJudgment c.args.self.now c.args.name.now c.args.text.now) _ _ c.from_residual-in_err-typ.ensures.1 (λ n. IsUnread _ c.in_ok-new_judgment.ensures (c.in_err-typ.ensures n))

pub returns-clause-becomes : goal.returns-clause-becomes
returns-clause-becomes c = reading_becomes (new_judgment c.args.self.now c.args.name.now) (IsTypeOf c.args.self.now c.args.text.now) (judgment_of c.args.self.now c.args.name.now) _ c.declare_judging.new.self c.declare_judging.result c.in_ok-new_judgment.ensures c.in_ok-typ.ensures c.declare_judging.ensures.becomes
