use Rattle.std.proofs.Common.{◌≡◌, drop}
use Rattle.isa_simpset.specs.Lists.{place_of}
use Rattle.isa_simpset.proofs.rules.place_of.Given as goal

abbrev pub invariant-loop-place : goal.invariant-loop-place
invariant-loop-place l = place_of l.prop l.place (drop l.place l.rules) ≡ place_of l.prop 0 l.rules
