use Rattle.std.proofs.Common.{◌≡◌, drop}
use Rattle.isa_simpset.specs.Lists.{is_stated_by}
use Rattle.isa_simpset.proofs.congs.is_stated_by.Given as goal

abbrev pub invariant-loop-cong : goal.invariant-loop-cong
invariant-loop-cong l = is_stated_by (drop l.cong-index l.congs) l.prop ≡ is_stated_by l.congs l.prop
