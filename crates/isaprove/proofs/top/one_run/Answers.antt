use Rattle.isaprove.proofs.OneStep.{one_run}
use Rattle.isaprove.proofs.top.one_run.Goals as goal

pub returns : goal.returns
returns c = one_run
