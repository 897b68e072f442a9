use Rattle.isa_cert.proofs.Reading.{number_some, number_none}
use Rattle.isa_cert.proofs.reader.number.Goals as goal

pub returns-in-Some : goal.returns-in-Some
returns-in-Some c = number_some c.args.word.now c.in-Some.value c.in-Some.ensures.some.0 c.in-Some.ensures.some.1

pub returns-in-None : goal.returns-in-None
returns-in-None c = number_none c.args.word.now c.in-None.ensures.none
