use Rattle.std.proofs.Common.{take}
use Rattle.isa_typing.specs.Found.{found_in}
use Rattle.isa_typing.specs.Indexes.{IndexesEntries}
use Rattle.isa_typing.proofs.indexing.index_of.Given as goal

abbrev pub invariant-loop-entry : goal.invariant-loop-entry
invariant-loop-entry l = IndexesEntries (found_in l.index.entries) (take l.entry-index l.entries)
