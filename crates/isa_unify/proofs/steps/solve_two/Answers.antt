use Rattle.isa_unify.proofs.Becoming.{two_by}
use Rattle.isa_unify.proofs.steps.solve_two.Goals as goal

pub returns : goal.returns
returns c =
    let left = c.args.left.now in
    let right = c.args.right.now in
    two_by c.args.state c.args.equation.now left.unknown.name.now left.unknown.number left.unknown.typ.now left.variables right.unknown.name.now right.unknown.number right.unknown.typ.now right.variables
    c.left.result c.next-new.result c.as_slice.result.now c.as_slice-variables.result.now c.in_ok-kept.kept c.as_slice-2.result.now c.range_behind-range.result.now c.in_ok-shared.shared c.in_ok-state.state c.in_ok-both_become.field-0
    c.left.ensures c.if-left-eq0.false c.next-new.ensures c.as_slice.ensures c.as_slice-variables.ensures c.in_ok-kept.ensures c.range_behind-range.ensures c.as_slice-2.ensures c.in_ok-shared.ensures c.in_ok-state.ensures c.in_ok-both_become.ensures
