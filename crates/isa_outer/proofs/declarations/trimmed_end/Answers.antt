use Rattle.std.proofs.Common.{◌-◌, sym, ◌∙◌, arith}
use Rattle.isa_outer.proofs.Blanks.{blank_last, other_last, less_of}
use Rattle.isa_outer.proofs.declarations.trimmed_end.Goals as goal

pub returns-then-not-is_blank : goal.returns-then-not-is_blank
returns-then-not-is_blank c =
    sym (c.loop-count.invariant.0 ∙ other_last c.args.bytes.now c.loop-count.count (c.loop-count.count - 1) (less_of c.loop-count.count c.loop-count-test.true)
    (omega (arith, c.loop-count.invariant.1, c.loop-count-test.true)) (sym c.is_blank.ensures ∙ c.if-not-is_blank.true))

pub loop-count-preserved : goal.loop-count-preserved
loop-count-preserved c = (
  c.loop-count.invariant.0 ∙ blank_last c.args.bytes.now c.loop-count.count (c.loop-count.count - 1) (less_of c.loop-count.count c.loop-count-test.true)
      (omega (arith, c.loop-count.invariant.1, c.loop-count-test.true)) (sym c.is_blank.ensures ∙ c.if-not-is_blank.false),
  omega (arith, c.loop-count.invariant.1),
)
