use Rattle.std.proofs.Common.{◌≡◌, ◌+◌, ◌≤◌, drop, length}
use Rattle.isa_kernel.specs.Theories.{types_in, constants_in, axioms_in}
use Rattle.isa_kernel.proofs.theory.counts.Given as goal

abbrev pub invariant-loop-declaration : goal.invariant-loop-declaration
invariant-loop-declaration l = (l.types ≤ l.declaration-index) × (l.constants ≤ l.declaration-index) × (l.axioms ≤ l.declaration-index)
    × (l.types + length (types_in (drop l.declaration-index l.declarations)) ≡ length (types_in l.declarations))
    × (l.constants + length (constants_in (drop l.declaration-index l.declarations)) ≡ length (constants_in l.declarations))
    × (l.axioms + length (axioms_in (drop l.declaration-index l.declarations)) ≡ length (axioms_in l.declarations))
