use Rattle.std.proofs.Common.{◌≡◌, take, None, ◌∙◌, sym, ap, arith}
use Rattle.std.proofs.lemmas.Grind.{common_steps}
use Rattle.isa_inner_tokens.specs.Cutting.{spelled}
use Rattle.isa_inner_tokens.proofs.CuttingSteps.{longest_step}
use Rattle.isa_inner_tokens.proofs.cutting.sign_at.Goals as goal

pub lengths-preserved : goal.lengths-preserved
lengths-preserved c =
    let e : c.in_ok-spelling.spelling ≡ take c.lengths.count c.args.text.now = grind (arith, common_steps, c.in_ok-spelling.ensures) in
    let none : spelled c.args.signs.now (take c.lengths.count c.args.text.now) ≡ None = ap (spelled c.args.signs.now) (sym e) ∙ sym c.sign.ensures ∙ c.in_default.is in
    (c.lengths.invariant.0 ∙ longest_step c.args.signs.now c.lengths.count c.args.text.now c.lengths-test.true none, omega (arith, c.lengths.invariant.1))

pub lengths-preserved-in_default : goal.lengths-preserved-in_default
lengths-preserved-in_default c =
    let e : c.in_ok-spelling.spelling ≡ take c.lengths.count c.args.text.now = grind (arith, common_steps, c.in_ok-spelling.ensures) in
    let none : spelled c.args.signs.now (take c.lengths.count c.args.text.now) ≡ None = ap (spelled c.args.signs.now) (sym e) ∙ sym c.sign.ensures ∙ c.in_default.is in
    (c.lengths.invariant.0 ∙ longest_step c.args.signs.now c.lengths.count c.args.text.now c.lengths-test.true none, omega (arith, c.lengths.invariant.1))
