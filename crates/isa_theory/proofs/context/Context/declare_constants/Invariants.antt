use Rattle.isa_theory.specs.Applying.{WithNewConstant}
use Rattle.isa_theory.proofs.Loops.{ToldSoFar}
use Rattle.isa_theory.proofs.context.Context.declare_constants.Given as goal

abbrev pub invariant-loop-constant : goal.invariant-loop-constant
invariant-loop-constant l = ToldSoFar WithNewConstant l.initial.self l.self l.constants l.constant-index
