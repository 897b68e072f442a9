use Rattle.std.proofs.Common.{◌≡◌, ◌++◌, ◌∷◌, drop}
use Rattle.isa_terms.specs.Sets.{missing}
use Rattle.isa_kernel.proofs.thm.with_missing.Given as goal

abbrev pub invariant-loop-place : goal.invariant-loop-place
invariant-loop-place l = l.all ++ missing l.first (drop l.place l.others) ≡ l.first ++ l.lacking ∷ missing l.first l.others
