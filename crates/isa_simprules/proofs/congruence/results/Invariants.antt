use Rattle.std.proofs.Common.{◌≡◌, ◌++◌, drop}
use Rattle.isa_simprules.specs.Congruences.{results}
use Rattle.isa_simprules.proofs.congruence.results.Given as goal

abbrev pub invariant-loop-premise : goal.invariant-loop-premise
invariant-loop-premise l = l.all ++ results (drop l.premise-index l.premises) ≡ results l.premises
