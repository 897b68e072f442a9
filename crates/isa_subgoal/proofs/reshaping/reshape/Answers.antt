use Rattle.isa_subgoal.proofs.Answering.{reshapes}
use Rattle.isa_subgoal.proofs.reshaping.reshape.Goals as goal

pub returns-clause-theorem : goal.returns-clause-theorem
returns-clause-theorem c = reshapes c.args.subgoals.now c.args.th.now c.reshape_checked.result c.reshape_checked.ensures
