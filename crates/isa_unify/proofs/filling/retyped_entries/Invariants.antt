use Rattle.std.proofs.Common.{◌≡◌, map, take}
use Rattle.isa_unify.proofs.filling.retyped_entries.Given as goal
use Rattle.isa_unify.specs.Unification.{retyped_entry}

-- those so far
abbrev pub invariant-loop-entry : goal.invariant-loop-entry
invariant-loop-entry l = l.done ≡ map (retyped_entry l.types) (take l.entry-index l.entries)
