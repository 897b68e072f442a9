use Rattle.std.proofs.Common.{◌≡◌, length}
use Rattle.isa_unify.specs.TypeStacks.{resolved_before, resolved}
use Rattle.isa_unify.proofs.types.resolve.Given as goal

-- what is left, before what is found, makes all
abbrev pub invariant-loop-entry : goal.invariant-loop-entry
invariant-loop-entry l = resolved_before l.found.items l.entries.items ≡ resolved l.fn.entries.items

abbrev pub decreases-loop-entry : goal.decreases-loop-entry
decreases-loop-entry l = length l.entries.items
