use Rattle.isa_syntax.proofs.Growing.{takes_back}
use Rattle.isa_syntax.proofs.laws.undoing_takes_back.Goals as goal

pub returns : goal.returns
returns c = takes_back
