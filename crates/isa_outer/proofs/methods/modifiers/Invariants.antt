use Rattle.std.proofs.Common.{◌≤◌, length}
use Rattle.isa_outer.specs.declared.method.Modifier.{Modifier}
use Rattle.isa_outer.specs.Grammar.{modifier}
use Rattle.isa_outer.specs.Private.Heads.{head_of, stops_in}
use Rattle.isa_outer.proofs.Lists.{SoFar}
use Rattle.isa_outer.proofs.methods.modifiers.Given as goal

abbrev pub invariant-loop-alloc : goal.invariant-loop-alloc
invariant-loop-alloc l = SoFar Modifier (modifier (head_of l.heads) (stops_in l.inside)) l.tokens l.rest l.modifiers × (length l.rest ≤ length l.tokens)

abbrev pub decreases-loop-alloc : goal.decreases-loop-alloc
decreases-loop-alloc l = length l.rest
