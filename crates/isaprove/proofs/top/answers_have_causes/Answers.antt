use Rattle.isaprove.proofs.CauseLemmas.{causes}
use Rattle.isaprove.proofs.top.answers_have_causes.Goals as goal

pub returns : goal.returns
returns c = causes
