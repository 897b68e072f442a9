use Rattle.std.proofs.Common.{length}
use Rattle.isa_unify.proofs.late.Late.+put_all_first.Given as goal

abbrev pub decreases-put_all_first : goal.decreases-put_all_first
decreases-put_all_first l = length l.equations
