use Rattle.std.proofs.Common.{◌≡◌, drop}
use Rattle.isa_terms.specs.Order.{are_digits}
use Rattle.isa_goal.proofs.counted.are_digits.Given as goal

abbrev pub invariant-loop-byte : goal.invariant-loop-byte
invariant-loop-byte l = are_digits (drop l.byte-index l.bytes) ≡ are_digits l.bytes
