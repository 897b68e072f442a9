use Rattle.std.proofs.Common.{◌≡◌, ℕ, drop, is_some}
use Rattle.isa_cert.specs.Lines.{value_from}
use Rattle.isa_cert.proofs.reader.are_digits.Given as goal

abbrev pub invariant-loop-byte : goal.invariant-loop-byte
invariant-loop-byte l = (n : ℕ) → is_some (value_from n l.digits) ≡ is_some (value_from 0 (drop l.byte-index l.digits))
