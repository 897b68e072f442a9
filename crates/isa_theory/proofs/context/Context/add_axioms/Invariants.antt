use Rattle.isa_theory.specs.Applying.{WithAxiom}
use Rattle.isa_theory.proofs.Loops.{ToldSoFar}
use Rattle.isa_theory.proofs.context.Context.add_axioms.Given as goal

abbrev pub invariant-loop-axiom : goal.invariant-loop-axiom
invariant-loop-axiom l = ToldSoFar WithAxiom l.initial.self l.self l.axioms l.axiom-index
