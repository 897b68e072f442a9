use Rattle.std.proofs.Common.{ℕ, List, length}
use Rattle.isa_outer.specs.Grammar.{◌▸◌, variable, comma}
use Rattle.isa_outer.proofs.Lists.{ListSoFar}
use Rattle.isa_outer.proofs.declarations.variable_list.Given as goal

abbrev pub invariant-loop-after : goal.invariant-loop-after
invariant-loop-after l = ListSoFar (List ℕ) variable (comma ▸ variable) l.tokens l.rest l.names

abbrev pub decreases-loop-after : goal.decreases-loop-after
decreases-loop-after l = length l.rest
