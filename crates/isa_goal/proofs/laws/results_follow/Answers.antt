use Rattle.isa_goal.proofs.Sound.{results_follow}
use Rattle.isa_goal.proofs.laws.results_follow.Goals as goal

pub returns : goal.returns
returns c = results_follow
