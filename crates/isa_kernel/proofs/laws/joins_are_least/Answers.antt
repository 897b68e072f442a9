use Rattle.isa_kernel.proofs.Bases.{first_among, second_among, joined_among}
use Rattle.isa_kernel.proofs.laws.joins_are_least.Goals as goal

pub returns : goal.returns
returns c = λ bs cs. (first_among bs cs, second_among bs cs, joined_among bs cs)
