use Rattle.isa_seq.proofs.Beginnings.{then-associative}
use Rattle.isa_seq.proofs.theorems.then_is_associative.Goals as goal

pub returns : goal.returns
returns g c = then-associative (g.R.Prims.meaning c.args._prims.now).primitives
