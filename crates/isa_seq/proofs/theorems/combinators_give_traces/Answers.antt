use Rattle.isa_seq.proofs.Beginnings.{give-traces}
use Rattle.isa_seq.proofs.theorems.combinators_give_traces.Goals as goal

pub returns : goal.returns
returns g c = give-traces _
