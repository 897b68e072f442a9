use Rattle.std.proofs.Common.{◌≡◌, ◌++◌, drop}
use Rattle.std.specs.Prelude.{option_map}
use Rattle.isa_unify.specs.Spines.{bounds_of}
use Rattle.isa_unify.proofs.spines.bounds_of.Given as goal

-- the numbers so far, before those of the rest
abbrev pub invariant-loop-t : goal.invariant-loop-t
invariant-loop-t l = option_map (λ ms. l.numbers ++ ms) (bounds_of (drop l.t-index l.terms)) ≡ bounds_of l.terms
