use Rattle.std.proofs.Common.{◌≡◌, ◌<◌, ◌≤◌, ◌+◌, ◌*◌, ◌∷◌, [], length}
use Rattle.isa_inner_types.specs.TypeReading.{behind, arguments, domains, limit}
use Rattle.isa_inner_types.specs.TypeAnswers.{Leads}
use Rattle.isa_inner_types.proofs.reading.+typing.Given as goal

abbrev pub decreases-read_type : goal.decreases-read_type
decreases-read_type l = 8 * length l.tokens.now + 5

abbrev pub decreases-front : goal.decreases-front
decreases-front l = 8 * length l.tokens.now + 4

abbrev pub decreases-behind : goal.decreases-behind
decreases-behind l = 8 * length l.tokens.now + 2

abbrev pub decreases-to_range : goal.decreases-to_range
decreases-to_range l = 8 * length l.tokens.now + 1

abbrev pub decreases-arguments : goal.decreases-arguments
decreases-arguments l = 8 * length l.tokens.now + 4

abbrev pub decreases-closed : goal.decreases-closed
decreases-closed l = 8 * length l.tokens.now + 3

abbrev pub decreases-domains : goal.decreases-domains
decreases-domains l = 8 * length l.tokens.now + 4

abbrev pub decreases-range : goal.decreases-range
decreases-range l = 8 * length l.tokens.now + 3

abbrev pub invariant-behind-loop-name : goal.invariant-behind-loop-name
invariant-behind-loop-name l = Leads (behind l.depth l.fn.left l.height l.tokens) (behind l.depth l.typ l.height l.rest) × (length l.rest ≤ length l.tokens)

abbrev pub decreases-behind-loop-name : goal.decreases-behind-loop-name
decreases-behind-loop-name l = length l.rest

abbrev pub invariant-arguments-loop-after : goal.invariant-arguments-loop-after
invariant-arguments-loop-after l = Leads (arguments l.depth (l.fn.first ∷ []) l.height l.tokens) (arguments l.depth l.args l.highest l.rest) × (length l.rest ≤ length l.tokens) × (l.depth + l.highest ≤ limit)

abbrev pub decreases-arguments-loop-after : goal.decreases-arguments-loop-after
decreases-arguments-loop-after l = length l.rest

abbrev pub invariant-domains-loop-after : goal.invariant-domains-loop-after
invariant-domains-loop-after l = Leads (domains l.depth (l.fn.first ∷ []) l.height l.tokens) (domains l.depth l.types.items l.highest l.rest) × (length l.rest ≤ length l.tokens) × (l.depth + l.highest ≤ limit)

abbrev pub decreases-domains-loop-after : goal.decreases-domains-loop-after
decreases-domains-loop-after l = length l.rest
