use Rattle.isa_subgoal.proofs.Answering.{rotates, rotate_answers}
use Rattle.isa_subgoal.proofs.steps.rotate.Goals as goal

pub returns-clause-defined : goal.returns-clause-defined
returns-clause-defined c = rotate_answers c.args.first.now c.args.second.now c.args.th.now c.rotate_by_inferences.result c.is_derived.ensures c.rotate_by_inferences.ensures

pub returns-clause-theorem : goal.returns-clause-theorem
returns-clause-theorem c = rotates c.args.first.now c.args.second.now c.args.th.now c.rotate_by_inferences.result c.is_derived.ensures c.rotate_by_inferences.ensures
