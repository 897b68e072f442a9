use Rattle.std.proofs.Common.{◌≡◌, ◌+◌, length}
use Rattle.isa_inner_tokens.specs.Bytes.{run_length}
use Rattle.isa_inner_tokens.proofs.names.run_length.Given as goal

abbrev pub invariant-loop-first : goal.invariant-loop-first
invariant-loop-first l = (l.count + run_length l.rest ≡ run_length l.text) × (l.count + length l.rest ≡ length l.text)

abbrev pub decreases-loop-first : goal.decreases-loop-first
decreases-loop-first l = length l.rest
