use Rattle.std.proofs.Common.{◌≡◌, suc, ◌-◌, arith}
use Rattle.isa_cert.proofs.Reading.{names_more, names_end, name_fails, passed_on}
use Rattle.isa_cert.proofs.reader.next_names.Goals as goal

pub loop-left-preserved : goal.loop-left-preserved
loop-left-preserved c =
    let n : c.loop-left.left ≡ suc (c.loop-left.left - 1) = omega arith in
    names_more _ _ c.loop-left.left (c.loop-left.left - 1) _ _ _ _ n c.loop-left.invariant c.in_ok-item.ensures c.in_ok-push.ensures.ok

pub returns-in_err-item : goal.returns-in_err-item
returns-in_err-item c =
    let n : c.loop-left.left ≡ suc (c.loop-left.left - 1) = omega arith in
    passed_on _ _ _ _ c.from_residual.ensures.1 (name_fails _ _ _ c.loop-left.left (c.loop-left.left - 1) _ _ _ n c.loop-left.invariant c.in_err-item.ensures)

pub returns : goal.returns
returns c =
    let n : c.loop-left.left ≡ 0 = omega arith in
    names_end _ _ _ _ n c.loop-left.invariant
