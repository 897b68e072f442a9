use Rattle.std.proofs.Common.{length}
use Rattle.isa_outer.specs.declared.command.Constant.{Constant}
use Rattle.isa_outer.specs.Grammar.{constant, name, unless, command_stands}
use Rattle.isa_outer.proofs.Lists.{ListSoFar}
use Rattle.isa_outer.proofs.declarations.constants.Given as goal

abbrev pub invariant-loop-alloc : goal.invariant-loop-alloc
invariant-loop-alloc l = ListSoFar Constant (constant l.line name) (constant l.line (unless command_stands name)) l.tokens l.rest l.constants

abbrev pub decreases-loop-alloc : goal.decreases-loop-alloc
decreases-loop-alloc l = length l.rest
