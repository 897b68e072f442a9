use Rattle.std.proofs.Common.{◌≡◌, drop}
use Rattle.isa_simprules.specs.Congruences.{are_of}
use Rattle.isa_simprules.proofs.congruence.are_of.Given as goal

abbrev pub invariant-loop-premise : goal.invariant-loop-premise
invariant-loop-premise l = are_of l.lefts l.rights (drop l.premise-index l.premises) ≡ are_of l.lefts l.rights l.premises
