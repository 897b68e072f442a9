use Rattle.std.proofs.Common.{length}
use Rattle.isa_goal.proofs.counted.+entries_have_counted.Given as goal

abbrev pub decreases-entries_have_counted : goal.decreases-entries_have_counted
decreases-entries_have_counted l = length l.entries.now
