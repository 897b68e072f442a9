use Rattle.isa_cert.proofs.Reading.{number_more, number_fails, passed_on_all}
use Rattle.isa_cert.proofs.reader.numbers.Goals as goal

pub loop-word-preserved : goal.loop-word-preserved
loop-word-preserved c = number_more _ _ _ _ _ _ _ c.in-Some.ensures.some c.loop-word.invariant c.in_ok-item.ensures c.in_ok-push.ensures

pub returns-in_err-item : goal.returns-in_err-item
returns-in_err-item c = passed_on_all _ _ _ c.from_residual.ensures.1 (number_fails _ _ _ _ _ _ c.in-Some.ensures.some c.loop-word.invariant c.in_err-item.ensures)
