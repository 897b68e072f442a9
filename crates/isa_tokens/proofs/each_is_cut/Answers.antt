use Rattle.isa_tokens.proofs.Totality.{each_is_cut}
use Rattle.isa_tokens.proofs.each_is_cut.Goals as goal

pub returns : goal.returns
returns c = λ text. each_is_cut text
