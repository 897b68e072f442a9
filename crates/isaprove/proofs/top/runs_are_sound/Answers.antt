use Rattle.isaprove.proofs.Soundness.{runs_sound}
use Rattle.isaprove.proofs.top.runs_are_sound.Goals as goal

pub returns : goal.returns
returns c = runs_sound
