use Rattle.std.proofs.Common.{rules, ◌≡◌, length, arith, ap}
use Rattle.isa_kernel.proofs.Derived.{none_left}
use Rattle.isa_subgoal.proofs.LiftingSteps.{lifted_assumptions}
use Rattle.isa_subgoal.proofs.lifting.lift_rule.Goals as goal

pub returns-clause-refused : goal.returns-clause-refused
returns-clause-refused c =
    let e : c.hyps.result.now ≡ c.args.rule.now.hyps = search rules in
    let l : length c.args.rule.now.hyps ≡ 0 = omega (arith, ap length e) in
    record {
      hyps = none_left c.args.rule.now.hyps l;
      normal = search rules;
      assumptions = lifted_assumptions c.args.parameters.now c.args.assumptions.now c.args.rule.now c.in_ok-lifted.lifted c.is_derived.ensures c.in_ok-lifted.ensures.theorem;
    }
