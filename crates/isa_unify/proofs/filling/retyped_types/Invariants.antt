use Rattle.std.proofs.Common.{◌≡◌, take}
use Rattle.isa_unify.proofs.filling.retyped_types.Given as goal
use Rattle.isa_unify.specs.TypeUnification.{entries_under}

-- those so far
abbrev pub invariant-loop-entry : goal.invariant-loop-entry
invariant-loop-entry l = l.done ≡ entries_under l.types (take l.entry-index l.entries)
