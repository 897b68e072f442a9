use Rattle.std.proofs.Common.{◌≡◌, drop}
use Rattle.isa_simpset.specs.Lists.{has_some}
use Rattle.isa_simpset.proofs.rules.has_some.Given as goal

abbrev pub invariant-loop-other : goal.invariant-loop-other
invariant-loop-other l = has_some l.rules (drop l.other-index l.others) ≡ has_some l.rules l.others
