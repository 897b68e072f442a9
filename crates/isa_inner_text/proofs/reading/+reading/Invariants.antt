use Rattle.std.proofs.Common.{◌<◌, ◌≤◌, [], length, ◌+◌, ◌*◌, true}
use Rattle.isa_inner_text.specs.Reading.{Goes, Behind, front, limit, bindings, premises}
use Rattle.isa_inner_text.specs.Private.Answers.{Leads}
use Rattle.isa_inner_text.proofs.Steps.{variables_step, premises_step}
use Rattle.isa_inner_text.proofs.reading.+reading.Given as goal

abbrev pub decreases-operand : goal.decreases-operand
decreases-operand l = 4 * length l.tokens.now + 2

abbrev pub decreases-front : goal.decreases-front
decreases-front l = 4 * length l.tokens.now + 1

abbrev pub decreases-further : goal.decreases-further
decreases-further l = 4 * length l.tokens.now + 3

abbrev pub decreases-bindings : goal.decreases-bindings
decreases-bindings l = 4 * length l.tokens.now + 3

abbrev pub decreases-body : goal.decreases-body
decreases-body l = 4 * length l.tokens.now + 3

abbrev pub decreases-premises : goal.decreases-premises
decreases-premises l = 4 * length l.tokens.now + 3

abbrev pub decreases-conclusion : goal.decreases-conclusion
decreases-conclusion l = 4 * length l.tokens.now + 3

abbrev pub invariant-bindings-loop-more : goal.invariant-bindings-loop-more
invariant-bindings-loop-more l = Leads l.sig (bindings l.sig l.depth l.sign [] 0 l.tokens) (variables_step l.sig l.depth l.sign l.more l.variables.items l.height l.rest)
    × (length l.rest + length l.variables.items ≤ length l.tokens)
    × (l.depth + l.height ≤ limit)

abbrev pub decreases-bindings-loop-more : goal.decreases-bindings-loop-more
decreases-bindings-loop-more l = length l.rest

abbrev pub invariant-premises-loop-more : goal.invariant-premises-loop-more
invariant-premises-loop-more l = Leads l.sig (premises l.sig l.depth [] 0 l.tokens) (premises_step l.sig l.depth l.more l.before.items l.height l.rest)
    × (length l.rest ≤ length l.tokens)
    × (l.depth + l.height ≤ limit)

abbrev pub decreases-premises-loop-more : goal.decreases-premises-loop-more
decreases-premises-loop-more l = length l.rest

abbrev pub invariant-operand-loop-alloc : goal.invariant-operand-loop-alloc
invariant-operand-loop-alloc l = Leads l.sig (front l.sig l.depth l.least l.tokens) (Goes (Behind l.depth l.least l.left) l.rest)
    × (length l.rest < length l.tokens)
    × (l.depth + l.left.height ≤ limit)

abbrev pub decreases-operand-loop-alloc : goal.decreases-operand-loop-alloc
decreases-operand-loop-alloc l = length l.rest
