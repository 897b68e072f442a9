use Rattle.isaprove.proofs.Soundness.{runs_sound}
use Rattle.isaprove.proofs.WordLemmas.{any_ended, any_stopped}
use Rattle.isaprove.proofs.top.answer.Goals as goal

pub returns-in-Ok-clause-any : goal.returns-in-Ok-clause-any
returns-in-Ok-clause-any g c = any_ended _ _ _ _ _ _ runs_sound c.in-Ok.ensures.runs

pub returns-in-Err-clause-any : goal.returns-in-Err-clause-any
returns-in-Err-clause-any g c = any_stopped _ _ _ _ _ _ _ runs_sound c.in-Err.ensures.runs c.code.ensures
