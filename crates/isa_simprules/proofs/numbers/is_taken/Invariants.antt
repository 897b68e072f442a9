use Rattle.std.proofs.Common.{◌≡◌, drop}
use Rattle.isa_simprules.specs.Numbers.{is_taken}
use Rattle.isa_simprules.proofs.numbers.is_taken.Given as goal

abbrev pub invariant-loop-unknown : goal.invariant-loop-unknown
invariant-loop-unknown l = is_taken (drop l.unknown-index l.unknowns) l.name l.number ≡ is_taken l.unknowns l.name l.number
