use Rattle.std.proofs.Common.{rules, ◌≡◌, ◌<◌, length, arith, ap}
use Rattle.std.specs.Prelude.{Err}
use Rattle.isa_kernel.specs.declared.inference.InferenceError.TheVariants.{Shape}
use Rattle.isa_subgoal.proofs.LiftingSteps.{IsLifting, lifts_err, lifts_none, lifts_ok, lifts_theorem}
use Rattle.isa_subgoal.proofs.lifting.lift_checked.Goals as goal

pub returns-in_err-lifted-clause-given : goal.returns-in_err-lifted-clause-given
returns-in_err-lifted-clause-given c =
    let i : IsLifting c.args.parameters.now c.args.assumptions.now c.args.rule.now c.in_ok-length.length c.in_ok-outer.outer c.in_ok-inner.inner c.in_ok-premises.premises c.in_ok-whole.whole = record { outer_is = search rules; inner_is = search rules; premises_are = search rules; whole = search rules; longer = search rules } in
    lifts_err c.args.parameters.now c.args.assumptions.now c.args.rule.now c.in_ok-length.length c.in_ok-outer.outer c.in_ok-inner.inner c.in_ok-premises.premises c.in_ok-whole.whole c.in_err-lifted.field-0.0 c.from_residual-in_err-lifted.result i c.is_derived.ensures (search rules) (search rules)

pub returns-then-len-gt0-clause-given : goal.returns-then-len-gt0-clause-given
returns-then-len-gt0-clause-given c =
    let i : IsLifting c.args.parameters.now c.args.assumptions.now c.args.rule.now c.in_ok-length.length c.in_ok-outer.outer c.in_ok-inner.inner c.in_ok-premises.premises c.in_ok-whole.whole = record { outer_is = search rules; inner_is = search rules; premises_are = search rules; whole = search rules; longer = search rules } in
    let l : 0 < length c.in_ok-lifted.lifted.hyps = search rules in
    lifts_none c.args.parameters.now c.args.assumptions.now c.args.rule.now c.in_ok-length.length c.in_ok-outer.outer c.in_ok-inner.inner c.in_ok-premises.premises c.in_ok-whole.whole c.in_ok-lifted.lifted (Err Shape) i c.is_derived.ensures (search rules) l

pub returns-clause-theorem : goal.returns-clause-theorem
returns-clause-theorem c =
    let e : c.hyps.result.now ≡ c.in_ok-lifted.lifted.hyps = search rules in
    let l : length c.in_ok-lifted.lifted.hyps ≡ 0 = omega (arith, ap length e) in
    lifts_theorem c.args.parameters.now c.args.assumptions.now c.in_ok-outer.outer c.in_ok-inner.inner c.in_ok-premises.premises c.in_ok-whole.whole c.args.rule.now c.in_ok-lifted.lifted (search rules) (search rules) l

pub returns-clause-given : goal.returns-clause-given
returns-clause-given c =
    let i : IsLifting c.args.parameters.now c.args.assumptions.now c.args.rule.now c.in_ok-length.length c.in_ok-outer.outer c.in_ok-inner.inner c.in_ok-premises.premises c.in_ok-whole.whole = record { outer_is = search rules; inner_is = search rules; premises_are = search rules; whole = search rules; longer = search rules } in
    lifts_ok c.args.parameters.now c.args.assumptions.now c.args.rule.now c.in_ok-length.length c.in_ok-outer.outer c.in_ok-inner.inner c.in_ok-premises.premises c.in_ok-whole.whole c.in_ok-lifted.lifted i c.is_derived.ensures (search rules)
