use Rattle.isa_seq.proofs.Beginnings.{resumed-gives-the-rest}
use Rattle.isa_seq.proofs.theorems.resumed_gives_the_rest.Goals as goal

pub returns : goal.returns
returns g c = resumed-gives-the-rest _
