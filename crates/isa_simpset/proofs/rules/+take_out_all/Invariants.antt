use Rattle.std.proofs.Common.{length}
use Rattle.isa_simpset.proofs.rules.+take_out_all.Given as goal

abbrev pub decreases-take_out_all : goal.decreases-take_out_all
decreases-take_out_all l = length l.others.now
