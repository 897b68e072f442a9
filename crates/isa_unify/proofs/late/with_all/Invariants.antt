use Rattle.std.proofs.Common.{◌≡◌, drop}
use Rattle.isa_unify.specs.Late.{with_all}
use Rattle.isa_unify.proofs.late.with_all.Given as goal

-- what is left makes what all make
abbrev pub invariant-loop-solution : goal.invariant-loop-solution
invariant-loop-solution l = with_all (drop l.solution-index l.log) l.current ≡ with_all l.log l.fn.equation
