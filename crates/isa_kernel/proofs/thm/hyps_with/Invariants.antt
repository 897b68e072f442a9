use Rattle.std.proofs.Common.{◌≡◌, drop}
use Rattle.isa_kernel.specs.Derived.{with_premises}
use Rattle.isa_kernel.proofs.thm.hyps_with.Given as goal

abbrev pub invariant-loop-premise : goal.invariant-loop-premise
invariant-loop-premise l = with_premises l.all (drop l.premise-index l.premises) ≡ with_premises l.hyps.value l.premises
