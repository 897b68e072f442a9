use Rattle.std.proofs.Common.{arith, ◌<◌, length}
use Rattle.isa_check.proofs.Printing.{lines_passed, lines_stopped, returns_stop, so_far_nothing}
use Rattle.isa_check.proofs.output.print_all.Goals as goal

pub loop-accepted-init : goal.loop-accepted-init
loop-accepted-init g c = so_far_nothing _ _

pub print_one-requires : goal.print_one-requires
print_one-requires g c = omega (arith, c.loop-accepted.invariant.prints.no_fault.out)

pub returns-in_err-print_one : goal.returns-in_err-print_one
returns-in_err-print_one g c =
    let inside : c.loop-accepted.accepted-index < length c.args.list.now = omega arith in
    returns_stop _ _ _ _ _ c.from_residual.ensures.1 (lines_stopped _ c.args.list.now c.loop-accepted.accepted-index c.accepted-item.result _ _ _ _ inside c.accepted-item.is c.loop-accepted.invariant c.in_err-print_one.ensures)

pub loop-accepted-preserved : goal.loop-accepted-preserved
loop-accepted-preserved g c =
    let inside : c.loop-accepted.accepted-index < length c.args.list.now = omega arith in
    lines_passed _ c.args.list.now c.loop-accepted.accepted-index c.accepted-item.result _ _ _ inside c.accepted-item.is c.loop-accepted.invariant c.in_ok-print_one.ensures.1
