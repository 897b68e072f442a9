use Rattle.std.proofs.Common.{length}
use Rattle.isa_outer.proofs.TextSoFar.{TextSoFar}
use Rattle.isa_outer.proofs.commands.read_tokens.Given as goal

abbrev pub invariant-loop-rest : goal.invariant-loop-rest
invariant-loop-rest l = TextSoFar l.tokens l.rest l.last l.commands

abbrev pub decreases-loop-rest : goal.decreases-loop-rest
decreases-loop-rest l = length l.rest
