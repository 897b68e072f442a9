use Rattle.std.proofs.Common.{refl, ◌∙◌, ap}
use Rattle.isa_outer.specs.Methods.{Method, Node, At, Then, OrElse}
use Rattle.isa_outer.specs.Grammar.{◌▸◌, operand, postfix, sequence, choice, postfix_sign, comma, bar}
use Rattle.isa_outer.specs.Private.Heads.{stops_in}
use Rattle.isa_outer.proofs.Lists.{fails}
use Rattle.isa_outer.proofs.Folds.{fold_start, fold_next, fold_end, fold_first, chain_next, chain_end, chain_refused}
use Rattle.isa_outer.proofs.Operands.{operand_deep, operand_less}
use Rattle.isa_outer.proofs.methods.+method.Goals as goal

pub choice-returns-in_err-method : goal.choice-returns-in_err-method
unfolding choice
choice-returns-in_err-method t c =
    fails (choice c.args.line (operand c.args.line c.args.left (stops_in c.args.inside))) _ _ c.in_err-method.field-0.0 c.from_residual.ensures.1
    (fold_first Method Method (λ m n. At c.args.line (OrElse m n)) (sequence c.args.line (operand c.args.line c.args.left (stops_in c.args.inside))) (bar ▸ (sequence c.args.line (operand c.args.line c.args.left (stops_in c.args.inside)))) _ c.in_err-method.field-0.0 c.in_err-method.ensures)

pub choice-loop-after-init : goal.choice-loop-after-init
choice-loop-after-init t c = fold_start Method Method (λ m n. At c.args.line (OrElse m n)) (sequence c.args.line (operand c.args.line c.args.left (stops_in c.args.inside))) (bar ▸ (sequence c.args.line (operand c.args.line c.args.left (stops_in c.args.inside)))) _ _ _ c.in_ok-method.ensures

pub choice-returns-in_err-next : goal.choice-returns-in_err-next
unfolding choice
choice-returns-in_err-next t c =
    fails (choice c.args.line (operand c.args.line c.args.left (stops_in c.args.inside))) _ _ c.in_err-next.field-0.0 c.from_residual-in_err-next.ensures.1
    (chain_refused Method (λ m n. At c.args.line (OrElse m n)) bar (sequence c.args.line (operand c.args.line c.args.left (stops_in c.args.inside))) _ _ _ _ c.in_err-next.field-0.0 c.loop-after.invariant refl c.in-Some.ensures c.in_err-next.ensures)

pub choice-loop-after-preserved : goal.choice-loop-after-preserved
choice-loop-after-preserved t c =
    chain_next Method (λ m n. At c.args.line (OrElse m n)) bar (sequence c.args.line (operand c.args.line c.args.left (stops_in c.args.inside))) _ _ _ _ _ _ c.in_ok-next.next c.loop-after.invariant refl c.in-Some.ensures c.in_ok-next.ensures c.in_ok-method-2.ensures

pub choice-returns : goal.choice-returns
unfolding choice
choice-returns t c = chain_end Method (λ m n. At c.args.line (OrElse m n)) bar (sequence c.args.line (operand c.args.line c.args.left (stops_in c.args.inside))) _ _ _ c.loop-after.invariant refl c.in_default.ensures.0

pub sequence-returns-in_err-method : goal.sequence-returns-in_err-method
unfolding sequence
sequence-returns-in_err-method t c =
    fails (sequence c.args.line (operand c.args.line c.args.left (stops_in c.args.inside))) _ _ c.in_err-method.field-0.0 c.from_residual.ensures.1
    (fold_first Method Method (λ m n. At c.args.line (Then m n)) (postfix c.args.line (operand c.args.line c.args.left (stops_in c.args.inside))) (comma ▸ (postfix c.args.line (operand c.args.line c.args.left (stops_in c.args.inside)))) _ c.in_err-method.field-0.0 c.in_err-method.ensures)

pub sequence-loop-after-init : goal.sequence-loop-after-init
sequence-loop-after-init t c = fold_start Method Method (λ m n. At c.args.line (Then m n)) (postfix c.args.line (operand c.args.line c.args.left (stops_in c.args.inside))) (comma ▸ (postfix c.args.line (operand c.args.line c.args.left (stops_in c.args.inside)))) _ _ _ c.in_ok-method.ensures

pub sequence-returns-in_err-next : goal.sequence-returns-in_err-next
unfolding sequence
sequence-returns-in_err-next t c =
    fails (sequence c.args.line (operand c.args.line c.args.left (stops_in c.args.inside))) _ _ c.in_err-next.field-0.0 c.from_residual-in_err-next.ensures.1
    (chain_refused Method (λ m n. At c.args.line (Then m n)) comma (postfix c.args.line (operand c.args.line c.args.left (stops_in c.args.inside))) _ _ _ _ c.in_err-next.field-0.0 c.loop-after.invariant refl c.in-Some.ensures c.in_err-next.ensures)

pub sequence-loop-after-preserved : goal.sequence-loop-after-preserved
sequence-loop-after-preserved t c =
    chain_next Method (λ m n. At c.args.line (Then m n)) comma (postfix c.args.line (operand c.args.line c.args.left (stops_in c.args.inside))) _ _ _ _ _ _ c.in_ok-next.next c.loop-after.invariant refl c.in-Some.ensures c.in_ok-next.ensures c.in_ok-method-2.ensures

pub sequence-returns : goal.sequence-returns
unfolding sequence
sequence-returns t c = chain_end Method (λ m n. At c.args.line (Then m n)) comma (postfix c.args.line (operand c.args.line c.args.left (stops_in c.args.inside))) _ _ _ c.loop-after.invariant refl c.in_default.ensures.0

pub postfix-returns-in_err-method : goal.postfix-returns-in_err-method
unfolding postfix
postfix-returns-in_err-method t c =
    fails (postfix c.args.line (operand c.args.line c.args.left (stops_in c.args.inside))) _ _ c.in_err-method.field-0.0 c.from_residual.ensures.1
    (fold_first Method (Method → Node) (λ m op. At c.args.line (op m)) (operand c.args.line c.args.left (stops_in c.args.inside)) postfix_sign _ c.in_err-method.field-0.0 c.in_err-method.ensures)

pub postfix-loop-mark-init : goal.postfix-loop-mark-init
postfix-loop-mark-init t c = fold_start Method (Method → Node) (λ m op. At c.args.line (op m)) (operand c.args.line c.args.left (stops_in c.args.inside)) postfix_sign _ _ _ c.in_ok-method.ensures

pub postfix-loop-mark-preserved : goal.postfix-loop-mark-preserved
postfix-loop-mark-preserved t c =
    fold_next Method (Method → Node) (λ m op. At c.args.line (op m)) (operand c.args.line c.args.left (stops_in c.args.inside)) postfix_sign _ _ _ _ _ _ c.loop-mark.invariant c.in-Some.ensures (c.in_ok-method-2.ensures ∙ ap (λ n. At c.args.line n) c.with.ensures)

pub postfix-returns : goal.postfix-returns
unfolding postfix
postfix-returns t c = fold_end Method (Method → Node) (λ m op. At c.args.line (op m)) (operand c.args.line c.args.left (stops_in c.args.inside)) postfix_sign _ _ _ c.loop-mark.invariant c.in_default.ensures

pub operand-returns-then-left-eq0 : goal.operand-returns-then-left-eq0
operand-returns-then-left-eq0 t c = operand_deep c.args.line c.args.left (stops_in c.args.inside) c.args.tokens.now _ c.if-left-eq0.true c.deep_operand.ensures

pub operand-returns : goal.operand-returns
operand-returns t c = operand_less c.args.line c.args.left (stops_in c.args.inside) c.args.tokens.now _ c.if-left-eq0.false c.nested.ensures
