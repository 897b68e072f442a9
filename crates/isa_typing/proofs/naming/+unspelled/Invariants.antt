use Rattle.std.proofs.Common.{length}
use Rattle.isa_typing.proofs.naming.+unspelled.Given as goal

abbrev pub decreases-unspelled : goal.decreases-unspelled
decreases-unspelled l = length l.bytes.now
