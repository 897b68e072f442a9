use Rattle.std.proofs.Common.{length}
use Rattle.isa_typing.proofs.naming.+entries_behind.Given as goal

abbrev pub decreases-entries_behind : goal.decreases-entries_behind
decreases-entries_behind l = length l.unknowns.now
