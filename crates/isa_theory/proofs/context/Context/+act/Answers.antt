use Rattle.isa_theory.proofs.Growing.{grows_on}
use Rattle.isa_theory.proofs.context.Context.+act.Goals as goal

pub returns-clause-grows : goal.returns-clause-grows
returns-clause-grows t c = grows_on _ _ _ c.in_ok-act_on_each.ensures.grows c.act.ensures.grows
