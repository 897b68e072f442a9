use Rattle.isa_cert.proofs.CertLines.{proved_of}
use Rattle.isa_cert.proofs.checking.check_cert.Goals as goal

pub returns-clause-proved : goal.returns-clause-proved
returns-clause-proved c = proved_of c.args.text.now c.check_text.result c.check_text.ensures
