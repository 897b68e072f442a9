use Rattle.std.proofs.Common.{◌≡◌, true, false, not, max, refl, sym, ap, ◌∙◌, length, ◌+◌, arith}
use Rattle.isa_inner.specs.Priorities.{operators}
use Rattle.isa_inner.specs.declared.token.Mark.TheVariants as mark
use Rattle.isa_inner.specs.declared.token.Wanted.TheVariants as wanted
use Rattle.isa_inner_types.specs.declared.token.TermToken.TheVariants as term
use Rattle.isa_inner_types.specs.declared.token.TextToken.TheVariants as token
use Rattle.isa_inner_text.specs.Reading.{Bindings, Premises, front, begins, goes_on, is_met, is_variable, is_first, starts, refuse, body, conclusion, ends}
use Rattle.isa_inner_text.proofs.Steps.{exit, refusal_of, fails_later, fails_at, refuses, fails_inside, fails_complete, leads_inside, leads_equal, leads_both, leads_complete, operand_same, operand_fails_same, at_first, at_other, closing, behind_open, behind_prefix, behind_whole, front_nothing, front_default, front_other, right_operand, infix_inside, further_infix, step_deep, to_right, to_right_operand, argument, further_type_deep, further_argument, operand_deep, operand_refused, operand_reads, operand_fails, behind_further, behind_met, same_result, same_inside, variables_more, variables_done, only_more, only_last, longer_by_one, both_within, body_read, body_complete, body_inside, conclusion_read, conclusion_complete, arrow, premise_read, premise_complete, premises_here, premises_done, premise_more, next_behind, next_same, behind_shorter}
use Rattle.isa_inner_text.proofs.reading.+reading.Goals as goal

-- operands
pub operand-returns-then-depth-gt-LIMIT-clause-read : goal.operand-returns-then-depth-gt-LIMIT-clause-read
operand-returns-then-depth-gt-LIMIT-clause-read t c = fails_at c.args.sig.now _ _ (operand_deep c.args.sig.now c.args.depth c.args.least c.args.name c.args.tokens.now c.if-depth-gt-LIMIT.true)

pub operand-returns-then-not-begins-clause-read : goal.operand-returns-then-not-begins-clause-read
operand-returns-then-not-begins-clause-read t c =
    let e : begins c.args.least c.args.tokens.now ≡ false = cc in
    refusal_of c.args.sig.now _ _ _ c.refused.ensures (operand_refused c.args.sig.now c.args.depth c.args.least c.args.name c.args.tokens.now c.if-depth-gt-LIMIT.false e ∙ ap (λ x. refuse x c.args.tokens.now) (sym c.operand_expected.ensures))

pub operand-returns-in_err-longer-clause-read : goal.operand-returns-in_err-longer-clause-read
operand-returns-in_err-longer-clause-read t c =
    let b : begins c.args.least c.args.tokens.now ≡ true = cc in
    let g : goes_on c.args.least c.loop-alloc.left c.loop-alloc.rest.now ≡ true = cc in
    exit _ _ _ _ c.from_residual-in_err-longer.ensures.1
    (operand_fails c.args.sig.now _ c.args.depth c.args.least c.args.name c.args.tokens.now _ c.if-depth-gt-LIMIT.false b
    (leads_both c.args.sig.now _ _ _ c.loop-alloc.invariant.0 (behind_further c.args.sig.now c.args.depth c.args.least c.loop-alloc.left c.loop-alloc.rest.now g)) c.in_err-longer.ensures.read)

pub operand-loop-alloc-preserved : goal.operand-loop-alloc-preserved
operand-loop-alloc-preserved t c =
    let g : goes_on c.args.least c.loop-alloc.left c.loop-alloc.rest.now ≡ true = cc in (
      leads_both c.args.sig.now _ _ _ (leads_both c.args.sig.now _ _ _ c.loop-alloc.invariant.0 (behind_further c.args.sig.now c.args.depth c.args.least c.loop-alloc.left c.loop-alloc.rest.now g)) c.in_ok-longer.ensures.read,
      omega (arith, c.in_ok-longer.ensures.shorter, c.loop-alloc.invariant.1),
      c.in_ok-longer.ensures.shallow,
    )

pub operand-returns-then-is_met-clause-read : goal.operand-returns-then-is_met-clause-read
operand-returns-then-is_met-clause-read t c =
    let b : begins c.args.least c.args.tokens.now ≡ true = cc in
    let g : goes_on c.args.least c.loop-alloc.left c.loop-alloc.rest.now ≡ false = cc in
    let o : is_met c.loop-alloc.rest.now ≡ true = cc in
    operand_fails c.args.sig.now _ c.args.depth c.args.least c.args.name c.args.tokens.now _ c.if-depth-gt-LIMIT.false b
    (leads_both c.args.sig.now _ _ _ c.loop-alloc.invariant.0 (behind_met c.args.sig.now c.args.depth c.args.least c.loop-alloc.left c.loop-alloc.rest.now o g)) (refusal_of c.args.sig.now _ _ _ c.refused-then-is_met.ensures refl)

pub operand-returns-clause-read : goal.operand-returns-clause-read
operand-returns-clause-read t c =
    let b : begins c.args.least c.args.tokens.now ≡ true = cc in
    let g : goes_on c.args.least c.loop-alloc.left c.loop-alloc.rest.now ≡ false = cc in
    let o : is_met c.loop-alloc.rest.now ≡ false = cc in
    operand_reads c.args.sig.now c.args.depth c.args.least c.args.name c.args.tokens.now c.loop-alloc.left c.loop-alloc.rest.now c.if-depth-gt-LIMIT.false b c.loop-alloc.invariant.0 o g

-- what operands begin with
pub front-returns-in_default-clause-read : goal.front-returns-in_default-clause-read
front-returns-in_default-clause-read t c = refusal_of c.args.sig.now _ _ _ c.refused.ensures (front_nothing c.args.sig.now _ _ _ c.in_default.ensures.none)

pub front-returns-in_err-inner-in-Open-clause-read : goal.front-returns-in_err-inner-in-Open-clause-read
front-returns-in_err-inner-in-Open-clause-read t c =
    exit _ _ _ _ c.from_residual-in_err-inner-in-Open.ensures.1
    (fails_inside c.args.sig.now _ _ _ _ (behind_open c.args.depth c.args.least) (at_first (front c.args.sig.now c.args.depth c.args.least) _ _ _ token.Open c.in-Some.ensures.first c.in-Open.is) c.in_err-inner-in-Open.ensures.read)

pub front-returns-in_err-rest-in-Open-clause-read : goal.front-returns-in_err-rest-in-Open-clause-read
front-returns-in_err-rest-in-Open-clause-read t c =
    exit _ _ _ _ c.from_residual-in_err-rest-in-Open.ensures.1
    (fails_later c.args.sig.now _ _ _ (leads_inside c.args.sig.now _ _ _ (behind_open c.args.depth c.args.least) _ _ (at_first (front c.args.sig.now c.args.depth c.args.least) _ _ _ token.Open c.in-Some.ensures.first c.in-Open.is) c.in_ok-inner-in-Open.ensures.read)
    (refuses c.args.sig.now _ _ (closing c.args.depth c.args.least c.in_ok-inner-in-Open.inner) c.in_err-rest-in-Open.ensures.found))

pub front-returns-in_ok-rest-in-Open-clause-read : goal.front-returns-in_ok-rest-in-Open-clause-read
front-returns-in_ok-rest-in-Open-clause-read t c =
    rw c.parenthesised.ensures
    (leads_both c.args.sig.now _ _ _ (leads_inside c.args.sig.now _ _ _ (behind_open c.args.depth c.args.least) _ _ (at_first (front c.args.sig.now c.args.depth c.args.least) _ _ _ token.Open c.in-Some.ensures.first c.in-Open.is) c.in_ok-inner-in-Open.ensures.read)
    (leads_equal c.args.sig.now _ _ (c.in_ok-rest-in-Open.ensures.found (closing c.args.depth c.args.least c.in_ok-inner-in-Open.inner))))

pub front-returns-in-OpenPremises-clause-read : goal.front-returns-in-OpenPremises-clause-read
front-returns-in-OpenPremises-clause-read t c =
    same_inside c.args.sig.now _ _ _ _ (Premises c.args.depth _ 0) _ (behind_whole c.args.depth c.args.least)
    (at_other (front c.args.sig.now c.args.depth c.args.least) _ _ _ _ term.OpenPremises c.in-Some.ensures.first c.in-Other.is c.in-OpenPremises.is) c.premises.ensures.read

pub front-returns-in_err-inner-in-Prefix-clause-read : goal.front-returns-in_err-inner-in-Prefix-clause-read
front-returns-in_err-inner-in-Prefix-clause-read t c =
    exit _ _ _ _ c.from_residual-in_err-inner-in-Prefix.ensures.1
    (fails_inside c.args.sig.now _ _ _ _ (behind_prefix c.args.sig.now c.args.depth c.args.least c.in-Prefix.sign) (at_other (front c.args.sig.now c.args.depth c.args.least) _ _ _ _ (term.Prefix c.in-Prefix.sign) c.in-Some.ensures.first c.in-Other.is c.in-Prefix.is)
    (operand_fails_same c.args.sig.now _ _ _ _ wanted.Term wanted.Term _ refl c.own.ensures c.in_err-inner-in-Prefix.ensures.read))

pub front-returns-in_ok-prefixed-in-Prefix-clause-read : goal.front-returns-in_ok-prefixed-in-Prefix-clause-read
front-returns-in_ok-prefixed-in-Prefix-clause-read t c =
    rw c.in_ok-prefixed-in-Prefix.ensures
    (leads_inside c.args.sig.now _ _ _ (behind_prefix c.args.sig.now c.args.depth c.args.least c.in-Prefix.sign) _ _ (at_other (front c.args.sig.now c.args.depth c.args.least) _ _ _ _ (term.Prefix c.in-Prefix.sign) c.in-Some.ensures.first c.in-Other.is c.in-Prefix.is)
    (operand_same c.args.sig.now _ _ _ wanted.Term wanted.Term _ _ refl c.own.ensures c.in_ok-inner-in-Prefix.ensures.read))

pub front-returns-in-Binder-clause-read : goal.front-returns-in-Binder-clause-read
front-returns-in-Binder-clause-read t c =
    same_inside c.args.sig.now _ _ _ _ (Bindings c.args.depth c.in-Binder.sign _ 0) _ (behind_whole c.args.depth c.args.least)
    (at_other (front c.args.sig.now c.args.depth c.args.least) _ _ _ _ (term.Binder c.in-Binder.sign) c.in-Some.ensures.first c.in-Other.is c.in-Binder.is) c.bindings.ensures.read

pub front-returns-in_default-other-clause-read : goal.front-returns-in_default-other-clause-read
front-returns-in_default-other-clause-read t c =
    refusal_of c.args.sig.now _ _ _ c.refused-in_default-other.ensures
    (front_other c.args.sig.now c.args.depth c.args.least _ _ _ _ c.in-Some.ensures.first c.in-Other.is c.in_default-other.not-Unknown c.in_default-other.not-OpenPremises c.in_default-other.not-Prefix c.in_default-other.not-Binder)

pub front-returns-in_default-first-clause-read : goal.front-returns-in_default-first-clause-read
front-returns-in_default-first-clause-read t c =
    refusal_of c.args.sig.now _ _ _ c.refused-in_default-first.ensures
    (front_default c.args.sig.now c.args.depth c.args.least _ _ _ c.in-Some.ensures.first c.in_default-first.not-Name c.in_default-first.not-Open c.in_default-first.not-Other)

-- behind a left operand
pub further-returns-in_err-left-clause-read : goal.further-returns-in_err-left-clause-read
further-returns-in_err-left-clause-read t c =
    exit _ _ _ _ c.from_residual.ensures.1
    (fails_later c.args.sig.now _ _ _ (leads_equal c.args.sig.now _ _ (further_infix c.args.sig.now c.args.depth c.args.least c.args.left _ _ _ c.in-Some.ensures.found)) (fails_complete c.args.sig.now _ _ _ _ _ c.operands-wanted.ensures c.in_err-left.ensures.done))

pub further-returns-then-depth-left-ge-LIMIT-clause-read : goal.further-returns-then-depth-left-ge-LIMIT-clause-read
further-returns-then-depth-left-ge-LIMIT-clause-read t c =
    fails_later c.args.sig.now _ _ _ (to_right c.args.sig.now c.args.depth c.args.least c.args.left c.in_ok-left.left _ c.in-Some.after.now c.in-Some.sign _ c.in-Some.ensures.found c.operands-wanted.ensures c.in_ok-left.ensures.done)
    (fails_at c.args.sig.now _ _ (step_deep (c.args.depth + c.in_ok-left.left.height) (infix_inside c.args.sig.now c.args.depth c.args.least c.in-Some.sign c.in-Some.after.now c.in_ok-left.left) c.if-depth-left-ge-LIMIT.true))

pub further-returns-in_err-right-clause-read : goal.further-returns-in_err-right-clause-read
further-returns-in_err-right-clause-read t c =
    exit _ _ _ _ c.from_residual-in_err-right.ensures.1
    (fails_later c.args.sig.now _ _ _ (to_right_operand c.args.sig.now c.args.depth c.args.least c.args.left c.in_ok-left.left _ c.in-Some.after.now c.in-Some.sign _ c.in-Some.ensures.found c.operands-wanted.ensures c.in_ok-left.ensures.done c.if-depth-left-ge-LIMIT.false)
    (fails_inside c.args.sig.now _ _ _ _ (right_operand c.args.sig.now c.args.depth c.args.least c.in-Some.sign c.in_ok-left.left) refl
    (operand_fails_same c.args.sig.now _ _ _ _ _ _ _ c.operands-wanted.ensures c.right-least_right.ensures c.in_err-right.ensures.read)))

pub further-returns-in_err-right-2-clause-read : goal.further-returns-in_err-right-2-clause-read
further-returns-in_err-right-2-clause-read t c =
    exit _ _ _ _ c.from_residual-in_err-right-2.ensures.1
    (fails_later c.args.sig.now _ _ _ (to_right_operand c.args.sig.now c.args.depth c.args.least c.args.left c.in_ok-left.left _ c.in-Some.after.now c.in-Some.sign _ c.in-Some.ensures.found c.operands-wanted.ensures c.in_ok-left.ensures.done c.if-depth-left-ge-LIMIT.false)
    (fails_later c.args.sig.now _ _ _ (leads_inside c.args.sig.now _ _ _ (right_operand c.args.sig.now c.args.depth c.args.least c.in-Some.sign c.in_ok-left.left) _ _ refl
    (operand_same c.args.sig.now _ _ _ _ _ _ _ c.operands-wanted.ensures c.right-least_right.ensures c.in_ok-right.ensures.read))
    (fails_complete c.args.sig.now _ _ _ _ _ c.operands-wanted.ensures c.in_err-right-2.ensures.done)))

pub further-returns-in-Some-clause-read : goal.further-returns-in-Some-clause-read
further-returns-in-Some-clause-read t c =
    rw c.in_ok-joined.ensures
    (leads_both c.args.sig.now _ _ _ (to_right_operand c.args.sig.now c.args.depth c.args.least c.args.left c.in_ok-left.left _ c.in-Some.after.now c.in-Some.sign _ c.in-Some.ensures.found c.operands-wanted.ensures c.in_ok-left.ensures.done c.if-depth-left-ge-LIMIT.false)
    (leads_both c.args.sig.now _ _ _ (leads_inside c.args.sig.now _ _ _ (right_operand c.args.sig.now c.args.depth c.args.least c.in-Some.sign c.in_ok-left.left) _ _ refl
    (operand_same c.args.sig.now _ _ _ _ _ _ _ c.operands-wanted.ensures c.right-least_right.ensures c.in_ok-right.ensures.read))
    (leads_complete c.args.sig.now _ _ _ _ _ c.operands-wanted.ensures c.in_ok-right-2.ensures.done)))

pub further-returns-then-depth-left-ge-LIMIT-2-clause-read : goal.further-returns-then-depth-left-ge-LIMIT-2-clause-read
further-returns-then-depth-left-ge-LIMIT-2-clause-read t c =
    let e : starts mark.Colons c.args.tokens.now ≡ true = cc in
    fails_at c.args.sig.now _ _ (further_type_deep c.args.sig.now c.args.depth c.args.least c.args.left c.args.tokens.now e c.if-depth-left-ge-LIMIT-2.true)

pub further-returns-in_err-argument-clause-read : goal.further-returns-in_err-argument-clause-read
further-returns-in_err-argument-clause-read t c =
    let e : starts mark.Colons c.args.tokens.now ≡ false = cc in
    exit _ _ _ _ c.from_residual-in_err-argument.ensures.1
    (fails_inside c.args.sig.now _ _ _ _ (argument c.args.depth c.args.least c.args.left) (further_argument c.args.sig.now c.args.depth c.args.least c.args.left c.args.tokens.now c.in_default.ensures.none e) c.in_err-argument.ensures.read)

pub further-returns-clause-read : goal.further-returns-clause-read
further-returns-clause-read t c =
    let e : starts mark.Colons c.args.tokens.now ≡ false = cc in
    rw c.in_ok-applied.ensures
    (leads_inside c.args.sig.now _ _ _ (argument c.args.depth c.args.least c.args.left) _ _ (further_argument c.args.sig.now c.args.depth c.args.least c.args.left c.args.tokens.now c.in_default.ensures.none e) c.in_ok-argument.ensures.read)

-- binders
pub bindings-loop-more-preserved-then-not-only : goal.bindings-loop-more-preserved-then-not-only
bindings-loop-more-preserved-then-not-only t c =
    let e : not c.in_ok-variable.only ≡ true = cc in
    let x : c.max-height.result ≡ max c.loop-more.height c.in_ok-variable.typ_height = grind (arith, c.max-height.ensures) in
    let n : length c.push.new.self.items ≡ length c.loop-more.variables.items + 1 = longer_by_one c.loop-more.variables.items c.push.new.self.items c.in_ok-variable.variable c.in_ok-push.ensures.items in (
      variables_more c.args.sig.now c.args.depth c.args.sign c.args.tokens.now c.loop-more.variables.items c.push.new.self.items c.loop-more.height c.in_ok-variable.typ_height _ c.in_ok-variable.variable _ c.in_ok-variable.only c.loop-more.more _ c.loop-more.rest.now c.in_ok-variable.after.now
          c.loop-more.invariant.0 c.loop-more-test.true (c.is_first.ensures ∙ ap is_first c.as_slice.ensures.value) c.in_ok-variable.ensures.read c.in_ok-push.ensures.items x (only_more c.in_ok-variable.only (is_variable c.in_ok-variable.after.now) c.is_variable-more.result e c.is_variable-more.ensures),
      omega (arith, c.loop-more.invariant.1, c.in_ok-variable.ensures.shorter, n),
      rw x (both_within _ _ _ _ c.loop-more.invariant.2 c.in_ok-variable.ensures.shallow),
    )

pub bindings-loop-more-preserved : goal.bindings-loop-more-preserved
bindings-loop-more-preserved t c =
    let e : not c.in_ok-variable.only ≡ false = cc in
    let x : c.max-height.result ≡ max c.loop-more.height c.in_ok-variable.typ_height = grind (arith, c.max-height.ensures) in
    let n : length c.push.new.self.items ≡ length c.loop-more.variables.items + 1 = longer_by_one c.loop-more.variables.items c.push.new.self.items c.in_ok-variable.variable c.in_ok-push.ensures.items in (
      variables_more c.args.sig.now c.args.depth c.args.sign c.args.tokens.now c.loop-more.variables.items c.push.new.self.items c.loop-more.height c.in_ok-variable.typ_height _ c.in_ok-variable.variable _ c.in_ok-variable.only c.loop-more.more _ c.loop-more.rest.now c.in_ok-variable.after.now
          c.loop-more.invariant.0 c.loop-more-test.true (c.is_first.ensures ∙ ap is_first c.as_slice.ensures.value) c.in_ok-variable.ensures.read c.in_ok-push.ensures.items x (only_last c.in_ok-variable.only (is_variable c.in_ok-variable.after.now) e),
      omega (arith, c.loop-more.invariant.1, c.in_ok-variable.ensures.shorter, n),
      rw x (both_within _ _ _ _ c.loop-more.invariant.2 c.in_ok-variable.ensures.shallow),
    )

pub bindings-returns-in_err-start-clause-read : goal.bindings-returns-in_err-start-clause-read
bindings-returns-in_err-start-clause-read t c =
    exit _ _ _ _ c.from_residual-in_err-start.ensures.1
    (fails_later c.args.sig.now _ _ _ (variables_done c.args.sig.now c.args.depth c.args.sign c.args.tokens.now c.loop-more.variables.items c.loop-more.height c.loop-more.more c.loop-more.rest.now c.loop-more.invariant.0 c.loop-more-test.false)
    (refuses c.args.sig.now _ _ (body c.args.sig.now c.args.depth c.args.sign c.loop-more.variables.items c.loop-more.height) c.in_err-start.ensures.found))

pub bindings-returns-clause-read : goal.bindings-returns-clause-read
bindings-returns-clause-read t c =
    same_result c.args.sig.now _ _ _ _
    (leads_both c.args.sig.now _ _ _ (variables_done c.args.sig.now c.args.depth c.args.sign c.args.tokens.now c.loop-more.variables.items c.loop-more.height c.loop-more.more c.loop-more.rest.now c.loop-more.invariant.0 c.loop-more-test.false)
    (leads_equal c.args.sig.now _ _ (c.in_ok-start.ensures.found (body c.args.sig.now c.args.depth c.args.sign c.loop-more.variables.items c.loop-more.height))))
    c.body.ensures.read

pub body-returns-in_err-inner-clause-read : goal.body-returns-in_err-inner-clause-read
body-returns-in_err-inner-clause-read t c =
    exit _ _ _ _ c.from_residual.ensures.1
    (fails_inside c.args.sig.now _ _ _ _ (body_complete c.args.sig.now c.args.sign c.args.variables.items c.args.height)
    (body_inside c.args.sig.now c.args.depth c.args.sign c.args.variables.items c.args.height c.args.tokens.now _ _ _ c.body-wanted.ensures c.own.ensures (c.binders-binders.ensures ∙ ap (λ l. operators c.args.sign + length l) c.as_slice.ensures.value)) c.in_err-inner.ensures.read)

pub body-returns-in_err-inner-2-clause-read : goal.body-returns-in_err-inner-2-clause-read
body-returns-in_err-inner-2-clause-read t c =
    exit _ _ _ _ c.from_residual-in_err-inner-2.ensures.1
    (fails_later c.args.sig.now _ _ _ (leads_inside c.args.sig.now _ _ _ (body_complete c.args.sig.now c.args.sign c.args.variables.items c.args.height) _ _
    (body_inside c.args.sig.now c.args.depth c.args.sign c.args.variables.items c.args.height c.args.tokens.now _ _ _ c.body-wanted.ensures c.own.ensures (c.binders-binders.ensures ∙ ap (λ l. operators c.args.sign + length l) c.as_slice.ensures.value)) c.in_ok-inner.ensures.read)
    (fails_complete c.args.sig.now _ _ _ _ _ c.body-wanted.ensures c.in_err-inner-2.ensures.done))

pub body-returns-clause-read : goal.body-returns-clause-read
body-returns-clause-read t c =
    rw c.in_ok-bound.ensures
    (leads_both c.args.sig.now _ _ _ (leads_inside c.args.sig.now _ _ _ (body_complete c.args.sig.now c.args.sign c.args.variables.items c.args.height) _ _
    (body_inside c.args.sig.now c.args.depth c.args.sign c.args.variables.items c.args.height c.args.tokens.now _ _ _ c.body-wanted.ensures c.own.ensures (c.binders-binders.ensures ∙ ap (λ l. operators c.args.sign + length l) c.as_slice.ensures.value)) c.in_ok-inner.ensures.read)
    (leads_complete c.args.sig.now _ _ _ _ (body_read c.args.sig.now c.args.sign c.args.variables.items c.args.height c.in_ok-inner.rest.now) c.body-wanted.ensures c.in_ok-inner-2.ensures.done) _ (ends _))

-- premises in brackets
pub conclusion-returns-in_err-inner-clause-read : goal.conclusion-returns-in_err-inner-clause-read
conclusion-returns-in_err-inner-clause-read t c =
    exit _ _ _ _ c.from_residual.ensures.1 (fails_inside c.args.sig.now _ _ _ _ (conclusion_complete c.args.sig.now c.args.before.items c.args.height) refl c.in_err-inner.ensures.read)

pub conclusion-returns-in_err-inner-2-clause-read : goal.conclusion-returns-in_err-inner-2-clause-read
conclusion-returns-in_err-inner-2-clause-read t c =
    exit _ _ _ _ c.from_residual-in_err-inner-2.ensures.1
    (fails_later c.args.sig.now _ _ _ (leads_inside c.args.sig.now _ _ _ (conclusion_complete c.args.sig.now c.args.before.items c.args.height) _ _ refl c.in_ok-inner.ensures.read) (fails_complete c.args.sig.now _ wanted.Proposition wanted.Proposition _ (conclusion_read c.args.sig.now c.args.before.items c.args.height c.in_ok-inner.rest.now) refl c.in_err-inner-2.ensures.done))

pub conclusion-returns-clause-read : goal.conclusion-returns-clause-read
conclusion-returns-clause-read t c =
    rw c.in_ok-bracketed.ensures
    (leads_both c.args.sig.now _ _ _ (leads_inside c.args.sig.now _ _ _ (conclusion_complete c.args.sig.now c.args.before.items c.args.height) _ _ refl c.in_ok-inner.ensures.read)
    (leads_complete c.args.sig.now wanted.Proposition wanted.Proposition _ _ (conclusion_read c.args.sig.now c.args.before.items c.args.height c.in_ok-inner.rest.now) refl c.in_ok-inner-2.ensures.done) _ (ends _))

pub premises-returns-in_err-premise-clause-read : goal.premises-returns-in_err-premise-clause-read
premises-returns-in_err-premise-clause-read t c =
    exit _ _ _ _ c.from_residual.ensures.1
    (fails_later c.args.sig.now _ _ _ (premises_here c.args.sig.now c.args.depth c.args.tokens.now c.loop-more.before.items c.loop-more.height c.loop-more.more c.loop-more.rest.now c.loop-more.invariant.0 c.loop-more-test.true)
    (fails_inside c.args.sig.now _ _ _ _ (premise_complete c.args.sig.now c.args.depth c.loop-more.before.items c.loop-more.height) refl c.in_err-premise.ensures.read))

pub premises-returns-in_err-premise-2-clause-read : goal.premises-returns-in_err-premise-2-clause-read
premises-returns-in_err-premise-2-clause-read t c =
    exit _ _ _ _ c.from_residual-in_err-premise-2.ensures.1
    (fails_later c.args.sig.now _ _ _ (premises_here c.args.sig.now c.args.depth c.args.tokens.now c.loop-more.before.items c.loop-more.height c.loop-more.more c.loop-more.rest.now c.loop-more.invariant.0 c.loop-more-test.true)
    (fails_later c.args.sig.now _ _ _ (leads_inside c.args.sig.now _ _ _ (premise_complete c.args.sig.now c.args.depth c.loop-more.before.items c.loop-more.height) _ _ refl c.in_ok-premise.ensures.read)
    (fails_complete c.args.sig.now _ wanted.Proposition wanted.Proposition _ (premise_read c.args.sig.now c.args.depth c.loop-more.before.items c.loop-more.height c.in_ok-premise.later.now) refl c.in_err-premise-2.ensures.done)))

pub premises-loop-more-preserved-then-more : goal.premises-loop-more-preserved-then-more
premises-loop-more-preserved-then-more t c =
    let x : c.max-height.result ≡ max c.loop-more.height (c.in_ok-premise-2.premise.height + 2) = grind (arith, c.max-height.ensures) in
    let m : c.starts-more.result ≡ true = cc in (
      premise_more c.args.sig.now c.args.depth c.args.tokens.now c.loop-more.before.items c.push.new.self.items c.loop-more.height _ c.in_ok-premise.premise c.in_ok-premise-2.premise c.loop-more.more c.starts-more.result c.loop-more.rest.now c.in_ok-premise.later.now _
          c.loop-more.invariant.0 c.loop-more-test.true c.in_ok-premise.ensures.read c.in_ok-premise-2.ensures.done c.in_ok-push.ensures.items x c.starts-more.ensures (next_behind c.starts-more.result c.in_ok-premise.later.now _ m c.behind_first-rest.ensures),
      omega (arith, c.loop-more.invariant.1, c.in_ok-premise.ensures.shorter, behind_shorter c.in_ok-premise.later.now, ap length c.behind_first-rest.ensures),
      rw x (both_within _ _ _ _ c.loop-more.invariant.2 (omega (arith, c.in_ok-premise.ensures.shallow, c.in_ok-premise-2.ensures.height))),
    )

pub premises-loop-more-preserved : goal.premises-loop-more-preserved
premises-loop-more-preserved t c =
    let x : c.max-height.result ≡ max c.loop-more.height (c.in_ok-premise-2.premise.height + 2) = grind (arith, c.max-height.ensures) in
    let m : c.starts-more.result ≡ false = cc in (
      premise_more c.args.sig.now c.args.depth c.args.tokens.now c.loop-more.before.items c.push.new.self.items c.loop-more.height _ c.in_ok-premise.premise c.in_ok-premise-2.premise c.loop-more.more c.starts-more.result c.loop-more.rest.now c.in_ok-premise.later.now _
          c.loop-more.invariant.0 c.loop-more-test.true c.in_ok-premise.ensures.read c.in_ok-premise-2.ensures.done c.in_ok-push.ensures.items x c.starts-more.ensures (next_same c.starts-more.result c.in_ok-premise.later.now m),
      omega (arith, c.loop-more.invariant.1, c.in_ok-premise.ensures.shorter),
      rw x (both_within _ _ _ _ c.loop-more.invariant.2 (omega (arith, c.in_ok-premise.ensures.shallow, c.in_ok-premise-2.ensures.height))),
    )

pub premises-returns-in_err-last-clause-read : goal.premises-returns-in_err-last-clause-read
premises-returns-in_err-last-clause-read t c =
    exit _ _ _ _ c.from_residual-in_err-last.ensures.1
    (fails_later c.args.sig.now _ _ _ (premises_done c.args.sig.now c.args.depth c.args.tokens.now c.loop-more.before.items c.loop-more.height c.loop-more.more c.loop-more.rest.now c.loop-more.invariant.0 c.loop-more-test.false)
    (refuses c.args.sig.now _ _ (arrow c.args.sig.now c.args.depth c.loop-more.before.items c.loop-more.height) c.in_err-last.ensures.found))

pub premises-returns-in_err-start-clause-read : goal.premises-returns-in_err-start-clause-read
premises-returns-in_err-start-clause-read t c =
    exit _ _ _ _ c.from_residual-in_err-start.ensures.1
    (fails_later c.args.sig.now _ _ _
    (leads_both c.args.sig.now _ _ _ (premises_done c.args.sig.now c.args.depth c.args.tokens.now c.loop-more.before.items c.loop-more.height c.loop-more.more c.loop-more.rest.now c.loop-more.invariant.0 c.loop-more-test.false)
    (leads_equal c.args.sig.now _ _ (c.in_ok-last.ensures.found (arrow c.args.sig.now c.args.depth c.loop-more.before.items c.loop-more.height))))
    (refuses c.args.sig.now _ _ (conclusion c.args.sig.now c.args.depth c.loop-more.before.items c.loop-more.height) c.in_err-start.ensures.found))

pub premises-returns-clause-read : goal.premises-returns-clause-read
premises-returns-clause-read t c =
    same_result c.args.sig.now _ _ _ _
    (leads_both c.args.sig.now _ _ _ (premises_done c.args.sig.now c.args.depth c.args.tokens.now c.loop-more.before.items c.loop-more.height c.loop-more.more c.loop-more.rest.now c.loop-more.invariant.0 c.loop-more-test.false)
    (leads_equal c.args.sig.now _ _ (c.in_ok-last.ensures.found (arrow c.args.sig.now c.args.depth c.loop-more.before.items c.loop-more.height) ∙ c.in_ok-start.ensures.found (conclusion c.args.sig.now c.args.depth c.loop-more.before.items c.loop-more.height))))
    c.conclusion.ensures.read
