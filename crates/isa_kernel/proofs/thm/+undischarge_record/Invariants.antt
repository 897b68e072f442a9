use Rattle.std.proofs.Common.{length}
use Rattle.isa_kernel.proofs.thm.+undischarge_record.Given as goal

abbrev pub decreases-undischarge_record : goal.decreases-undischarge_record
decreases-undischarge_record l = length l.premises.now
