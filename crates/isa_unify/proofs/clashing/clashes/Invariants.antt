use Rattle.std.proofs.Common.{◌≡◌}
use Rattle.isa_unify.specs.Unification.{weight, clashes}
use Rattle.isa_unify.proofs.clashing.clashes.Given as goal

-- the rest clashes where all do
abbrev pub invariant-places : goal.invariant-places
invariant-places l = clashes l.rest ≡ clashes l.fn.equations

abbrev pub decreases-places : goal.decreases-places
decreases-places l = weight l.rest
