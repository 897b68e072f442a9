use Rattle.std.proofs.Common.{◌≡◌, ◌++◌, drop}
use Rattle.isa_kernel.proofs.thms.Thms.copy.Given as goal

abbrev pub invariant-loop-th : goal.invariant-loop-th
invariant-loop-th l = l.all ++ drop l.th-index l.self ≡ l.self
