use Rattle.isa_theory.proofs.OneAnswer.{one_lemma}
use Rattle.isa_theory.proofs.laws.texts_begin_one_lemma.Goals as goal

pub returns : goal.returns
returns c = one_lemma
