use Rattle.std.proofs.Common.{length}
use Rattle.isa_subgoal.proofs.lifting.+all_opened.Given as goal

abbrev pub decreases-all_opened : goal.decreases-all_opened
decreases-all_opened l = length l.terms.now
