use Rattle.isa_inner_text.proofs.Phrases.{reads_phrases}
use Rattle.isa_inner_text.proofs.laws.reads_phrases.Goals as goal

pub returns : goal.returns
returns c = reads_phrases
