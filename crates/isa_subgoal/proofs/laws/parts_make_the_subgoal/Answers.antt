use Rattle.isa_subgoal.proofs.Parting.{parts_make}
use Rattle.isa_subgoal.proofs.laws.parts_make_the_subgoal.Goals as goal

pub returns : goal.returns
returns c = parts_make
