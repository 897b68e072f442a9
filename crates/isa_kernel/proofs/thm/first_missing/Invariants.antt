use Rattle.std.proofs.Common.{◌≡◌, drop}
use Rattle.isa_terms.specs.Sets.{missing}
use Rattle.isa_kernel.proofs.thm.first_missing.Given as goal

abbrev pub invariant-loop-place : goal.invariant-loop-place
invariant-loop-place l = missing l.known (drop l.place l.terms) ≡ missing l.known l.terms
