use Rattle.std.proofs.Common.{◌≡◌, ◌++◌, drop}
use Rattle.isa_kernel.specs.Axioms.{missing_entries}
use Rattle.isa_kernel.proofs.base.few_missing.Given as goal

abbrev pub invariant-loop-one : goal.invariant-loop-one
invariant-loop-one l = l.missing ++ missing_entries l.known (drop l.one-index l.entries) ≡ missing_entries l.known l.entries
