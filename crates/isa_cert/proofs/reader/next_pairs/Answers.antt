use Rattle.std.proofs.Common.{◌≡◌, suc, ◌-◌, arith}
use Rattle.isa_cert.proofs.Reading.{pairs_more, pairs_end, first_fails, second_fails, passed_on}
use Rattle.isa_cert.proofs.reader.next_pairs.Goals as goal

pub loop-left-preserved : goal.loop-left-preserved
loop-left-preserved c =
    let n : c.loop-left.left ≡ suc (c.loop-left.left - 1) = omega arith in
    pairs_more _ _ c.loop-left.left (c.loop-left.left - 1) _ _ _ _ _ _ n c.loop-left.invariant c.in_ok-first.ensures c.in_ok-second.ensures c.in_ok-push.ensures

pub returns-in_err-first : goal.returns-in_err-first
returns-in_err-first c =
    let n : c.loop-left.left ≡ suc (c.loop-left.left - 1) = omega arith in
    passed_on _ _ _ _ c.from_residual.ensures.1 (first_fails _ _ _ c.loop-left.left (c.loop-left.left - 1) _ _ _ n c.loop-left.invariant c.in_err-first.ensures)

pub returns-in_err-second : goal.returns-in_err-second
returns-in_err-second c =
    let n : c.loop-left.left ≡ suc (c.loop-left.left - 1) = omega arith in
    passed_on _ _ _ _ c.from_residual-in_err-second.ensures.1 (second_fails _ _ _ c.loop-left.left (c.loop-left.left - 1) _ _ _ _ _ n c.loop-left.invariant c.in_ok-first.ensures c.in_err-second.ensures)

pub returns : goal.returns
returns c =
    let n : c.loop-left.left ≡ 0 = omega arith in
    pairs_end _ _ _ _ n c.loop-left.invariant
