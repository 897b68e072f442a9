use Rattle.std.proofs.Common.{◌≡◌, drop}
use Rattle.isa_cert.specs.Checking.{all_at}
use Rattle.isa_cert.proofs.Reading.{begun}
use Rattle.isa_cert.proofs.taking.types_at.Given as goal

abbrev pub invariant-loop-number : goal.invariant-loop-number
invariant-loop-number l = all_at l.table.types l.numbers ≡ begun l.all (all_at l.table.types (drop l.number-index l.numbers))
