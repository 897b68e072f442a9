use Rattle.isa_seq.proofs.Beginnings.{shows-beginnings}
use Rattle.isa_seq.proofs.theorems.fewer_ticks_show_the_beginning.Goals as goal

pub returns : goal.returns
returns g c = shows-beginnings (g.R.Prims.meaning c.args._prims.now).primitives (g.met.R.Prims.is_meaning c.args._prims.now).primitives
