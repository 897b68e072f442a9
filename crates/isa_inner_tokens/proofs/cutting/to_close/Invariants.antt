use Rattle.std.proofs.Common.{◌≡◌, ◌+◌, length}
use Rattle.std.specs.Prelude.{option_map}
use Rattle.isa_inner_tokens.specs.Cutting.{to_close}
use Rattle.isa_inner_tokens.proofs.cutting.to_close.Given as goal

abbrev pub invariant-loop-first : goal.invariant-loop-first
invariant-loop-first l = (to_close l.text ≡ option_map (λ n. n + l.count) (to_close l.rest)) × (l.count + length l.rest ≡ length l.text)

abbrev pub decreases-loop-first : goal.decreases-loop-first
decreases-loop-first l = length l.rest
