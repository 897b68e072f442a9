use Rattle.isa_outer.proofs.Totality.{each_is_read}
use Rattle.isa_outer.proofs.each_is_read.Goals as goal

pub returns : goal.returns
returns c = λ text. each_is_read text
