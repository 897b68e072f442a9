use Rattle.std.proofs.Common.{length}
use Rattle.isa_subgoal.proofs.premises.+conclusion_behind.Given as goal

abbrev pub decreases-conclusion_behind : goal.decreases-conclusion_behind
decreases-conclusion_behind l = length l.premises.now
