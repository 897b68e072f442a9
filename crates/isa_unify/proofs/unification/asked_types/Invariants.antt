use Rattle.std.proofs.Common.{◌≡◌, drop, []}
use Rattle.isa_unify.specs.Calls.{equations_of}
use Rattle.isa_unify.specs.Unification.{asked_types}
use Rattle.isa_unify.proofs.unification.asked_types.Given as goal

-- those so far, with those of the rest
abbrev pub invariant-loop-pair : goal.invariant-loop-pair
invariant-loop-pair l = asked_types l.types (equations_of (drop l.pair-index l.pairs)) ≡ asked_types [] (equations_of l.pairs)
