use Rattle.isa_theory.specs.Applying.{with_declared}
use Rattle.isa_theory.proofs.Loops.{EachSoFar}
use Rattle.isa_theory.proofs.context.Context.declare_each.Given as goal

abbrev pub invariant-loop-declaration : goal.invariant-loop-declaration
invariant-loop-declaration l = EachSoFar (λ e d. with_declared e d.fact d.attributes) l.initial.self l.self l.declarations l.declaration-index
