use Rattle.std.proofs.Common.{◌≡◌, ◌++◌, drop}
use Rattle.isa_kernel.proofs.axioms.copied.Given as goal

abbrev pub invariant-loop-one : goal.invariant-loop-one
invariant-loop-one l = l.all.items ++ drop l.one-index l.axioms ≡ l.axioms
