use Rattle.std.proofs.Common.{◌≡◌, map, take}
use Rattle.isa_unify.proofs.filling.retyped_equations.Given as goal
use Rattle.isa_unify.specs.Unification.{retyped_equation}

-- those so far
abbrev pub invariant-loop-equation : goal.invariant-loop-equation
invariant-loop-equation l = l.done.items ≡ map (retyped_equation l.types) (take l.equation-index l.equation-items)
