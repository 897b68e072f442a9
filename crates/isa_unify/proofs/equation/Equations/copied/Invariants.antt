use Rattle.std.proofs.Common.{◌≡◌, take}
use Rattle.isa_unify.proofs.equation.Equations.copied.Given as goal

-- those so far
abbrev pub invariant-loop-equation : goal.invariant-loop-equation
invariant-loop-equation l = l.stack.items ≡ take l.equation-index l.equation-items
