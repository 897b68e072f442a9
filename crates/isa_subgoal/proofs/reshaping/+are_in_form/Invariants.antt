use Rattle.std.proofs.Common.{length}
use Rattle.isa_subgoal.proofs.reshaping.+are_in_form.Given as goal

abbrev pub decreases-are_in_form : goal.decreases-are_in_form
decreases-are_in_form l = length l.subgoals.now
