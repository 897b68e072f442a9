use Rattle.std.proofs.Common.{◌≡◌, ◌++◌, drop, filter}
use Rattle.isa_unify.specs.Spines.{has_number}
use Rattle.isa_unify.proofs.places.shared_of.Given as goal

-- the numbers so far, before those of the rest
abbrev pub invariant-loop-number : goal.invariant-loop-number
invariant-loop-number l = l.kept ++ filter (has_number l.others) (drop l.number-index l.numbers) ≡ filter (has_number l.others) l.numbers
