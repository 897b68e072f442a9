use Rattle.std.proofs.Common.{◌≡◌, ◌++◌, drop, filter}
use Rattle.isa_unify.specs.Unification.{allowed}
use Rattle.isa_unify.proofs.places.allowed_of.Given as goal

-- the numbers so far, before those of the rest
abbrev pub invariant-loop-number : goal.invariant-loop-number
invariant-loop-number l = l.kept ++ filter (allowed l.variables l.depth) (drop l.number-index l.numbers) ≡ filter (allowed l.variables l.depth) l.numbers
