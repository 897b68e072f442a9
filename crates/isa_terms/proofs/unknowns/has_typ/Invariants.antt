use Rattle.std.proofs.Common.{◌≡◌, drop}
use Rattle.isa_terms.specs.Unknowns.{has_ty}
use Rattle.isa_terms.proofs.unknowns.has_typ.Given as goal

abbrev pub invariant-loop-other : goal.invariant-loop-other
invariant-loop-other l = has_ty (drop l.other-index l.types) l.typ ≡ has_ty l.types l.typ
