use Rattle.std.proofs.Common.{length}
use Rattle.isa_unify.proofs.steps.+agreeing.Given as goal

abbrev pub decreases-agreeing : goal.decreases-agreeing
decreases-agreeing l = length l.left.now
