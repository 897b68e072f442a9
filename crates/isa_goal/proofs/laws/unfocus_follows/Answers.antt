use Rattle.isa_goal.proofs.Unfocusing.{unfocus_follows}
use Rattle.isa_goal.proofs.laws.unfocus_follows.Goals as goal

pub returns : goal.returns
returns c = unfocus_follows
