use Rattle.std.proofs.Common.{length}
use Rattle.isa_kernel.proofs.thm.+discharge_record.Given as goal

abbrev pub decreases-discharge_record : goal.decreases-discharge_record
decreases-discharge_record l = length l.premises.now
