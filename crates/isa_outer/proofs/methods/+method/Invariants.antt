use Rattle.std.proofs.Common.{◌+◌, ◌*◌, length}
use Rattle.isa_outer.specs.Methods.{Method, Node, At, Then, OrElse}
use Rattle.isa_outer.specs.Grammar.{◌▸◌, operand, postfix, sequence, postfix_sign, comma, bar}
use Rattle.isa_outer.specs.Private.Heads.{stops_in}
use Rattle.isa_outer.proofs.Folds.{FoldSoFar}
use Rattle.isa_outer.proofs.methods.+method.Given as goal

abbrev pub decreases-choice : goal.decreases-choice
decreases-choice l = 5 * length l.tokens.now + 4

abbrev pub decreases-sequence : goal.decreases-sequence
decreases-sequence l = 5 * length l.tokens.now + 3

abbrev pub decreases-postfix : goal.decreases-postfix
decreases-postfix l = 5 * length l.tokens.now + 2

abbrev pub decreases-operand : goal.decreases-operand
decreases-operand l = 5 * length l.tokens.now + 1

abbrev pub decreases-nested : goal.decreases-nested
decreases-nested l = 5 * length l.tokens.now

abbrev pub invariant-choice-loop-after : goal.invariant-choice-loop-after
invariant-choice-loop-after l =
    let f = sequence l.line (operand l.line l.left (stops_in l.inside)) in FoldSoFar Method Method (λ m n. At l.line (OrElse m n)) f (bar ▸ f) l.tokens l.rest l.method

abbrev pub decreases-choice-loop-after : goal.decreases-choice-loop-after
decreases-choice-loop-after l = length l.rest

abbrev pub invariant-postfix-loop-mark : goal.invariant-postfix-loop-mark
invariant-postfix-loop-mark l =
    FoldSoFar Method (Method → Node) (λ m op. At l.line (op m)) (operand l.line l.left (stops_in l.inside)) postfix_sign l.tokens l.rest l.method

abbrev pub decreases-postfix-loop-mark : goal.decreases-postfix-loop-mark
decreases-postfix-loop-mark l = length l.rest

abbrev pub invariant-sequence-loop-after : goal.invariant-sequence-loop-after
invariant-sequence-loop-after l =
    let f = postfix l.line (operand l.line l.left (stops_in l.inside)) in FoldSoFar Method Method (λ m n. At l.line (Then m n)) f (comma ▸ f) l.tokens l.rest l.method

abbrev pub decreases-sequence-loop-after : goal.decreases-sequence-loop-after
decreases-sequence-loop-after l = length l.rest
