use Rattle.std.proofs.Common.{◌≡◌, ◌++◌, drop}
use Rattle.isa_simpset.proofs.congs.copied_congs.Given as goal

abbrev pub invariant-loop-cong : goal.invariant-loop-cong
invariant-loop-cong l = l.all.items ++ drop l.cong-index l.congs ≡ l.congs
