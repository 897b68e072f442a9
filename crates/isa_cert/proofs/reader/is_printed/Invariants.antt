use Rattle.std.proofs.Common.{◌≡◌, drop}
use Rattle.isa_cert.specs.Lines.{is_printed}
use Rattle.isa_cert.proofs.reader.is_printed.Given as goal

abbrev pub invariant-loop-byte : goal.invariant-loop-byte
invariant-loop-byte l = is_printed (drop l.byte-index l.word) ≡ is_printed l.word
