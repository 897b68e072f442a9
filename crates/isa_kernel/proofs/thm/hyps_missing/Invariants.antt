use Rattle.std.proofs.Common.{◌≡◌, ◌++◌, drop}
use Rattle.isa_terms.specs.Sets.{missing}
use Rattle.isa_kernel.proofs.thm.hyps_missing.Given as goal

abbrev pub invariant-loop-place : goal.invariant-loop-place
invariant-loop-place l = l.rest ++ missing l.premises (drop l.place l.hyps.value) ≡ missing l.premises l.hyps.value
