use Rattle.std.proofs.Common.{ap, ◌∙◌}
use Rattle.isa_theory.specs.Contexts.{ContextSeen}
use Rattle.isa_theory.proofs.Steps.{fact_put}
use Rattle.isa_theory.proofs.context.Context.push_fact.Goals as goal

pub returns-in-Ok-clause-ok : goal.returns-in-Ok-clause-ok
returns-in-Ok-clause-ok c =
    let put = fact_put c.args.self.now c.args.name c.args.thms c.self.inside.facts.entries c.insert.new.self.entries (ap (λ (d : ContextSeen). d.facts) c.self.view_is) c.requires.new c.in-Ok.ensures.entries in
    ap (λ (d : ContextSeen). record d { facts = c.insert.new.self.entries }) c.self.view_is ∙ put
