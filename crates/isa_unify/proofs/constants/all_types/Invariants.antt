use Rattle.std.proofs.Common.{◌≡◌, drop, []}
use Rattle.isa_unify.specs.Constants.{with_all_types}
use Rattle.isa_unify.proofs.constants.all_types.Given as goal

-- those so far, with those of the rest
abbrev pub invariant-loop-t : goal.invariant-loop-t
invariant-loop-t l = with_all_types l.types (drop l.t-index l.terms) ≡ with_all_types [] l.terms
