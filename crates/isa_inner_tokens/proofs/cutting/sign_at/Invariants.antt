use Rattle.std.proofs.Common.{◌≡◌, ◌≤◌, length}
use Rattle.isa_inner_tokens.specs.Cutting.{sign_at, longest_sign}
use Rattle.isa_inner_tokens.proofs.cutting.sign_at.Given as goal

abbrev pub invariant-lengths : goal.invariant-lengths
invariant-lengths l = (sign_at l.signs l.text ≡ longest_sign l.signs l.count l.text) × (l.count ≤ length l.text)

abbrev pub decreases-lengths : goal.decreases-lengths
decreases-lengths l = l.count
