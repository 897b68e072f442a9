use Rattle.std.proofs.Common.{◌≡◌, ◌++◌, drop}
use Rattle.isa_simprules.proofs.congruence.copied_premises.Given as goal

abbrev pub invariant-loop-premise : goal.invariant-loop-premise
invariant-loop-premise l = l.all.items ++ drop l.premise-index l.premises ≡ l.premises
