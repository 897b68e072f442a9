use Rattle.std.proofs.Common.{◌≡◌, drop}
use Rattle.isa_terms.specs.Types.{tys_of}
use Rattle.isa_terms.specs.Facts.{tys_named}
use Rattle.isa_terms.proofs.typ.are_named.Given as goal

abbrev pub invariant-loop-arg : goal.invariant-loop-arg
invariant-loop-arg l = tys_named (tys_of (drop l.arg-index l.args)) ≡ tys_named (tys_of l.args)
