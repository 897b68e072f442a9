use Rattle.std.proofs.Common.{rules, ◌≡◌, length, arith, ap}
use Rattle.isa_subgoal.proofs.Renumbered.{renumbers, renumbered_theorem}
use Rattle.isa_subgoal.proofs.renumbering.renumber_checked.Goals as goal

pub returns-clause-theorem : goal.returns-clause-theorem
returns-clause-theorem c =
    let e : c.hyps.result.now ≡ c.args.rule.now.hyps = search rules in
    let l : length c.args.rule.now.hyps ≡ 0 = omega (arith, ap length e) in
    renumbered_theorem c.args.by c.args.rule.now c.renumber_by_inferences.result c.renumber_by_inferences.ensures l

pub returns-clause-given : goal.returns-clause-given
returns-clause-given c = renumbers c.args.by c.args.rule.now c.renumber_by_inferences.result c.renumber_by_inferences.ensures
