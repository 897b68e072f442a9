use Rattle.isa_subgoal.proofs.Answering.{cuts, cut_answers}
use Rattle.isa_subgoal.proofs.steps.cut.Goals as goal

pub returns-clause-defined : goal.returns-clause-defined
returns-clause-defined c = cut_answers c.args.before.now c.args.premises.now c.args.th.now c.args.rule.now c.cut_by_inferences.result c.is_derived.ensures c.is_derived-2.ensures c.cut_by_inferences.ensures

pub returns-clause-theorem : goal.returns-clause-theorem
returns-clause-theorem c = cuts c.args.before.now c.args.premises.now c.args.th.now c.args.rule.now c.cut_by_inferences.result c.is_derived.ensures c.is_derived-2.ensures c.cut_by_inferences.ensures
