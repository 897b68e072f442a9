use Rattle.isa_cert.proofs.Citing.{cites_none, cites_made}
use Rattle.isa_cert.proofs.inferring.citation.Goals as goal

pub returns-in-None : goal.returns-in-None
returns-in-None c = cites_none c.args.table.now c.args.digits.now c.as_bytes.result.now c.as_bytes.ensures c.in-None.ensures.none

pub returns-in-Some : goal.returns-in-Some
returns-in-Some c = cites_made c.args.table.now c.args.digits.now c.as_bytes.result.now c.in-Some.place c.get.result.now c.theorem_of.result c.as_bytes.ensures c.in-Some.ensures.some.0 c.get.ensures c.theorem_of.ensures
