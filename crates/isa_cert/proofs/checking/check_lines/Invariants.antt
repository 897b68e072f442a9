use Rattle.std.proofs.Common.{◌≡◌, false, length}
use Rattle.std.specs.Prelude.{nat_eq}
use Rattle.std.specs.List.{slice_split}
use Rattle.isa_cert.specs.Checking.{empty, taken_from}
use Rattle.isa_cert.proofs.checking.check_lines.Given as goal

abbrev pub invariant-loop-line : goal.invariant-loop-line
invariant-loop-line l = taken_from 2 empty false (slice_split (λ b. nat_eq b 10) l.text) ≡ taken_from l.number l.table l.ended (slice_split (λ b. nat_eq b 10) l.rest)

abbrev pub decreases-loop-line : goal.decreases-loop-line
decreases-loop-line l = length l.rest
