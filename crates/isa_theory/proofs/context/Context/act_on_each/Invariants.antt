use Rattle.isa_theory.specs.Applying.{with_attribute}
use Rattle.isa_theory.proofs.Loops.{EachSoFar}
use Rattle.isa_theory.proofs.context.Context.act_on_each.Given as goal

abbrev pub invariant-loop-thm : goal.invariant-loop-thm
invariant-loop-thm l = EachSoFar (λ d th. with_attribute d l.attribute th) l.initial.self l.self l.thms l.thm-index
