use Rattle.std.proofs.Common.{◌≡◌, ◌≤◌, length, drop}
use Rattle.isa_kernel.specs.Axioms.{axioms_of}
use Rattle.isa_cert.specs.Checking.{by_name}
use Rattle.isa_cert.proofs.accepting.sorted.Given as goal

abbrev pub invariant-loop-left : goal.invariant-loop-left
invariant-loop-left l = (l.all.items ≡ by_name (axioms_of (drop l.left l.base))) × (l.left ≤ length l.base)

abbrev pub decreases-loop-left : goal.decreases-loop-left
decreases-loop-left l = l.left
