use Rattle.std.proofs.Common.{◌≡◌, ◌++◌, drop}
use Rattle.isa_simprules.proofs.congruence.copied_parameters.Given as goal

abbrev pub invariant-loop-parameter : goal.invariant-loop-parameter
invariant-loop-parameter l = l.all.items ++ drop l.parameter-index l.parameters ≡ l.parameters
