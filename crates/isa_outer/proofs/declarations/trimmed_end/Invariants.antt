use Rattle.std.proofs.Common.{◌≡◌, ◌≤◌, take, length}
use Rattle.isa_outer.specs.Grammar.{trimmed_end}
use Rattle.isa_outer.proofs.declarations.trimmed_end.Given as goal

abbrev pub invariant-loop-count : goal.invariant-loop-count
invariant-loop-count l = (trimmed_end l.bytes ≡ trimmed_end (take l.count l.bytes)) × (l.count ≤ length l.bytes)

abbrev pub decreases-loop-count : goal.decreases-loop-count
decreases-loop-count l = l.count
