use Rattle.std.proofs.Common.{arith, ◌∙◌, ap, drop-cons, get_or, drop, suc}
use Rattle.isa_outer.specs.Forms.{number_from}
use Rattle.isa_outer.proofs.Numbers.{too_large}
use Rattle.isa_outer.proofs.words.number_of.Goals as goal

pub returns-then-number-clause-none : goal.returns-then-number-clause-none
returns-then-number-clause-none c =
    too_large c.loop-digit.number _ (get_or c.args.digits.now c.loop-digit.digit-index 0) (drop (suc c.loop-digit.digit-index) c.args.digits.now)
    (c.loop-digit.invariant.0 ∙ ap (λ l. number_from c.loop-digit.number l) (drop-cons c.args.digits.now c.loop-digit.digit-index 0 c.loop-digit-test.true))
    (omega (arith, c.saturating_sub.ensures, c.if-number.true))
