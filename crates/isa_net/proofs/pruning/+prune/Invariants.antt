use Rattle.std.proofs.Common.{length}
use Rattle.isa_net.proofs.pruning.+prune.Given as goal

abbrev pub decreases-prune : goal.decreases-prune
decreases-prune l = length l.word.now
