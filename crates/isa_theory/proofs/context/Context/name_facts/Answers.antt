use Rattle.std.proofs.Common.{refl}
use Rattle.isa_theory.proofs.Growing.{grows_on, grows_fact}
use Rattle.isa_theory.proofs.Steps.{new_fact_none, still_none}
use Rattle.isa_theory.proofs.context.Context.name_facts.Goals as goal

pub push_fact-requires : goal.push_fact-requires
push_fact-requires c = record { new = still_none c.args.self.now c.args.self.now _ c.in_ok-copy.field-0 (new_fact_none c.args.self.now _ c.in_ok-new_fact.ensures) refl c.in_ok-copy.ensures }

pub returns-clause-grows : goal.returns-clause-grows
returns-clause-grows c = grows_on _ _ _ (grows_fact _ _ _ _ c.in_ok-push_fact.ensures.ok) c.act.ensures.grows
