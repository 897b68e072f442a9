use Rattle.isa_subgoal.proofs.Answering.{raises, raise_answers}
use Rattle.isa_subgoal.proofs.steps.raise_rule.Goals as goal

pub returns-clause-defined : goal.returns-clause-defined
returns-clause-defined c = raise_answers c.args.assumptions.now c.args.premises.now c.args.rule c.raise_by_inferences.result c.is_derived.ensures c.raise_by_inferences.ensures

pub returns-clause-theorem : goal.returns-clause-theorem
returns-clause-theorem c = raises c.args.assumptions.now c.args.premises.now c.args.rule c.raise_by_inferences.result c.is_derived.ensures c.raise_by_inferences.ensures
