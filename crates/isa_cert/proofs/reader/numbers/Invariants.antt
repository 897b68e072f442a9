use Rattle.std.proofs.Common.{◌≡◌, length}
use Rattle.isa_cert.specs.Lines.{numbers}
use Rattle.isa_cert.proofs.Reading.{begun}
use Rattle.isa_cert.proofs.reader.numbers.Given as goal

abbrev pub invariant-loop-word : goal.invariant-loop-word
invariant-loop-word l = numbers l.initial.words ≡ begun l.all (numbers l.words)

abbrev pub decreases-loop-word : goal.decreases-loop-word
decreases-loop-word l = length l.words
