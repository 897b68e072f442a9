use Rattle.isa_seq.proofs.Beginnings.{are-traces}
use Rattle.isa_seq.proofs.theorems.expressions_give_traces.Goals as goal

pub returns : goal.returns
returns g c = are-traces (g.R.Prims.meaning c.args._prims.now).primitives (g.met.R.Prims.is_meaning c.args._prims.now).primitives
