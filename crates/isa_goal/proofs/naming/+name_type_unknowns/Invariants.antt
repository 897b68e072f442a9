use Rattle.std.proofs.Common.{length}
use Rattle.isa_goal.proofs.naming.+name_type_unknowns.Given as goal

abbrev pub decreases-name_type_unknowns : goal.decreases-name_type_unknowns
decreases-name_type_unknowns l = length l.unknowns.now
