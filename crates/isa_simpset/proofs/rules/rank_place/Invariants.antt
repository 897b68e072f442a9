use Rattle.std.proofs.Common.{◌≡◌, ◌+◌, drop}
use Rattle.isa_simpset.specs.Lists.{rank_place}
use Rattle.isa_simpset.proofs.rules.rank_place.Given as goal

abbrev pub invariant-loop-place : goal.invariant-loop-place
invariant-loop-place l = rank_place l.conditions l.rules ≡ l.place + rank_place l.conditions (drop l.place l.rules)
