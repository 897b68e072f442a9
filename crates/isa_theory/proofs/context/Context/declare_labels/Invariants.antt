use Rattle.isa_theory.specs.Applying.{with_declared}
use Rattle.isa_theory.proofs.Loops.{EachSoFar}
use Rattle.isa_theory.proofs.context.Context.declare_labels.Given as goal

abbrev pub invariant-loop-axiom : goal.invariant-loop-axiom
invariant-loop-axiom l = EachSoFar (λ d a. with_declared d a.label.name a.label.attributes) l.initial.self l.self l.axioms l.axiom-index
