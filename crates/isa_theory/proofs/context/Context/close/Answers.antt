use Rattle.isa_theory.proofs.Growing.{grows_if_refused}
use Rattle.isa_theory.proofs.context.Context.close.Goals as goal

pub returns-in_err-push_lemma-clause-grows : goal.returns-in_err-push_lemma-clause-grows
returns-in_err-push_lemma-clause-grows c = grows_if_refused _ _ _ _ c.in_ok-store_named.ensures.grows c.in_err-push_lemma.ensures.err
