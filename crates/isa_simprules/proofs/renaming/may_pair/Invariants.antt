use Rattle.std.proofs.Common.{◌≡◌, drop}
use Rattle.isa_simprules.specs.Renamings.{may_pair}
use Rattle.isa_simprules.proofs.renaming.may_pair.Given as goal

abbrev pub invariant-loop-pair : goal.invariant-loop-pair
invariant-loop-pair l = may_pair (drop l.pair-index l.pairs) l.from l.to ≡ may_pair l.pairs l.from l.to
