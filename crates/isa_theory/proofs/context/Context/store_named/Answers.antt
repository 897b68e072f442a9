use Rattle.isa_theory.proofs.Growing.{grows_on, grows_named}
use Rattle.isa_theory.proofs.context.Context.store_named.Goals as goal

pub returns-clause-grows : goal.returns-clause-grows
returns-clause-grows c = grows_on _ _ _ (grows_named _ _ _ _ c.in_ok-put_named.ensures.ok) c.act.ensures.grows
