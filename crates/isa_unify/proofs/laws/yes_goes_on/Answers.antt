use Rattle.isa_unify.proofs.GoingOn.{goes_on}
use Rattle.isa_unify.proofs.laws.yes_goes_on.Goals as goal

pub returns : goal.returns
returns c = λ typ n es g ts fs m e. goes_on typ n es g ts fs m e
