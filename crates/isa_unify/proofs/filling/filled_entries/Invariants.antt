use Rattle.std.proofs.Common.{◌≡◌, map, take}
use Rattle.isa_unify.proofs.filling.filled_entries.Given as goal
use Rattle.isa_unify.specs.Unification.{filled_entry}

-- those so far
abbrev pub invariant-loop-entry : goal.invariant-loop-entry
invariant-loop-entry l = l.done ≡ map (filled_entry l.terms) (take l.entry-index l.entries)
