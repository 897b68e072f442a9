use Rattle.isa_inner_types.proofs.TypePhrases.{reads_types}
use Rattle.isa_inner_types.proofs.laws.reads_types.Goals as goal

pub returns : goal.returns
returns c = reads_types
