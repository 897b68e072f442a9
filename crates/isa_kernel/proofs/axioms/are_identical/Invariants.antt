use Rattle.std.proofs.Common.{◌≡◌, List, ◌++◌, drop}
use Rattle.isa_kernel.specs.declared.axioms.NamedProp.{NamedProp}
use Rattle.isa_kernel.proofs.axioms.are_identical.Given as goal

abbrev pub invariant-loop-one : goal.invariant-loop-one
invariant-loop-one l = (behind : List NamedProp) → l.rest ≡ drop l.one-index l.first ++ behind → l.second ≡ l.first ++ behind
