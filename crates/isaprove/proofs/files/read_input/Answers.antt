use Rattle.isaprove.proofs.InputLemmas.{read_whole, read_long, read_failed}
use Rattle.isaprove.proofs.files.read_input.Goals as goal

pub returns-in-Ok-clause-answer : goal.returns-in-Ok-clause-answer
returns-in-Ok-clause-answer g c = read_whole _ _ _ _ c.in-Ok.ensures.answer

pub returns-in-Err-TooLong-clause-answer : goal.returns-in-Err-TooLong-clause-answer
returns-in-Err-TooLong-clause-answer g c = read_long _ _ _ (rw c.in-Err-TooLong.field-0-is at c.in-Err-TooLong.ensures.answer)

pub returns-in-Err-Failed-clause-answer : goal.returns-in-Err-Failed-clause-answer
returns-in-Err-Failed-clause-answer g c = read_failed _ _ _ (rw c.in-Err-Failed.field-0-is at c.in-Err-Failed.ensures.answer)
