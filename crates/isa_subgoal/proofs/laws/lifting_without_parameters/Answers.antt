use Rattle.isa_subgoal.proofs.NoParameter.{lifted_over_no_parameter}
use Rattle.isa_subgoal.proofs.laws.lifting_without_parameters.Goals as goal

pub returns : goal.returns
returns c = lifted_over_no_parameter
