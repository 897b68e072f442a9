use Rattle.std.proofs.Common.{◌≡◌, ◌∷◌, ◌++◌, drop}
use Rattle.isa_simprules.proofs.roles.stated.Given as goal

abbrev pub invariant-loop-hyp : goal.invariant-loop-hyp
invariant-loop-hyp l = l.all ++ drop l.hyp-index l.hyps ≡ l.th.prop ∷ l.hyps
