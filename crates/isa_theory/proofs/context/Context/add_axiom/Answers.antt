use Rattle.isa_theory.proofs.Steps.{still_none}
use Rattle.isa_theory.proofs.context.Context.add_axiom.Goals as goal

pub push_fact-requires : goal.push_fact-requires
push_fact-requires c = record { new = still_none c.args.self.now c.declare_axiom.new.self c.args.name.now c.in_ok-copy.field-0 c.requires c.in_ok-declare_axiom.ensures.facts c.in_ok-copy.ensures }
