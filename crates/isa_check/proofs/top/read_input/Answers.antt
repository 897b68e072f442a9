use Rattle.isa_check.proofs.Reading.{read_whole, read_long, read_failed}
use Rattle.isa_check.proofs.top.read_input.Goals as goal

pub returns-in-Ok : goal.returns-in-Ok
returns-in-Ok g c = read_whole _ _ _ _ c.in-Ok.ensures.answer

pub returns-in-Err-TooLong : goal.returns-in-Err-TooLong
returns-in-Err-TooLong g c = read_long _ _ _ (rw c.in-Err-TooLong.field-0-is at c.in-Err-TooLong.ensures.answer)

pub returns-in-Err-Failed : goal.returns-in-Err-Failed
returns-in-Err-Failed g c = read_failed _ _ _ (rw c.in-Err-Failed.field-0-is at c.in-Err-Failed.ensures.answer)
