use Rattle.isa_check.proofs.Reading.{words_passed, words_stopped}
use Rattle.isa_check.proofs.top.check_run.Goals as goal

pub returns-in-Ok : goal.returns-in-Ok
returns-in-Ok g c = words_passed _ _ _ _ _ _ c.in-Ok.ensures

pub returns-in-Err : goal.returns-in-Err
returns-in-Err g c = words_stopped _ _ _ _ c.in-Err.stop c.code.result _ _ c.code.ensures c.in-Err.ensures
