use Rattle.std.proofs.Common.{◌≡◌, drop, max}
use Rattle.isa_terms.specs.Types.{tys_of}
use Rattle.isa_terms.specs.Norm.{tys_height}
use Rattle.isa_terms.proofs.typ.greatest_height.Given as goal

abbrev pub invariant-loop-arg : goal.invariant-loop-arg
invariant-loop-arg l = max l.greatest (tys_height (tys_of (drop l.arg-index l.args))) ≡ tys_height (tys_of l.args)
