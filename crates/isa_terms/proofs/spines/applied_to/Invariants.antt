use Rattle.std.proofs.Common.{◌≡◌, drop}
use Rattle.isa_terms.specs.Spines.{applied_to}
use Rattle.isa_terms.proofs.spines.applied_to.Given as goal

abbrev pub invariant-loop-arg : goal.invariant-loop-arg
invariant-loop-arg l = applied_to l.t (drop l.arg-index l.args) ≡ applied_to l.head l.args
