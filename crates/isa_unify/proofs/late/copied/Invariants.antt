use Rattle.std.proofs.Common.{◌≡◌, take}
use Rattle.isa_unify.proofs.late.copied.Given as goal

-- those so far
abbrev pub invariant-loop-entry : goal.invariant-loop-entry
invariant-loop-entry l = l.done ≡ take l.entry-index l.types
