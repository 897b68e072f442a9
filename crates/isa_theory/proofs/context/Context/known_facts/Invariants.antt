use Rattle.isa_theory.proofs.Loops.{FactsSoFar}
use Rattle.isa_theory.proofs.context.Context.known_facts.Given as goal

abbrev pub invariant-loop-fact : goal.invariant-loop-fact
invariant-loop-fact l = FactsSoFar l.self l.facts l.fact-index l.all
