use Rattle.std.proofs.Common.{drop}
use Rattle.isa_kernel.proofs.Indexes.{Noted}
use Rattle.isa_kernel.proofs.index.Index.of.Given as goal

abbrev pub invariant-loop-place : goal.invariant-loop-place
invariant-loop-place l = Noted l.index.axioms.entries l.index.cites.entries (drop l.place l.entries) l.entries
