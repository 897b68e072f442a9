use Rattle.std.proofs.Common.{◌≡◌}
use Rattle.isa_cert.specs.Lines.{next_pairs}
use Rattle.isa_cert.proofs.Reading.{added}
use Rattle.isa_cert.proofs.reader.next_pairs.Given as goal

abbrev pub invariant-loop-left : goal.invariant-loop-left
invariant-loop-left l = next_pairs l.count l.initial.words ≡ added l.pairs (next_pairs l.left l.words)

abbrev pub decreases-loop-left : goal.decreases-loop-left
decreases-loop-left l = l.left
