use Rattle.std.proofs.Common.{◌≡◌, drop}
use Rattle.isa_simpset.specs.Lists.{place_of_cong}
use Rattle.isa_simpset.proofs.congs.place_of_cong.Given as goal

abbrev pub invariant-loop-place : goal.invariant-loop-place
invariant-loop-place l = place_of_cong l.prop l.place (drop l.place l.congs) ≡ place_of_cong l.prop 0 l.congs
