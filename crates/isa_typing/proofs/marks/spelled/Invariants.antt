use Rattle.std.proofs.Common.{◌≡◌, ◌++◌, replicate}
use Rattle.isa_typing.proofs.marks.spelled.Given as goal

abbrev pub invariant-loop-i : goal.invariant-loop-i
invariant-loop-i l = l.bytes.items ≡ l.initial.bytes.items ++ replicate l._i 1
