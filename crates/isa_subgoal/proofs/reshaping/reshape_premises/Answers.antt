use Rattle.isa_subgoal.proofs.Answering.{reshape_answers}
use Rattle.isa_subgoal.proofs.reshaping.reshape_premises.Goals as goal

pub returns : goal.returns
returns c =
    reshape_answers c.args.subgoals.now c.args.th.now c.args.conclusion.now c.reshape_by_inferences.result c.is_derived.ensures c.requires.there c.requires.shapable c.reshape_by_inferences.ensures
