use Rattle.std.proofs.Common.{◌≡◌, drop}
use Rattle.isa_kernel.specs.Axioms.{missing_entries}
use Rattle.isa_kernel.proofs.base.behind_common.Given as goal

abbrev pub invariant-loop-place : goal.invariant-loop-place
invariant-loop-place l = missing_entries l.known (drop l.place l.entries) ≡ missing_entries l.known l.entries
