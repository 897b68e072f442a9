use Rattle.isa_unify.proofs.Becoming.{both_by}
use Rattle.isa_unify.proofs.steps.both_become.Goals as goal

pub returns : goal.returns
returns c =
    let left = c.args.left.now in
    let right = c.args.right.now in
    both_by c.filled.result c.args.state c.args.equation.now left.unknown.name.now left.unknown.number left.unknown.typ.now left.variables right.unknown.name.now right.unknown.number right.unknown.typ.now right.variables c.args.shared.now
    c.as_slice.result.now c.as_slice-2.result.now c.in_ok-left_term.left_term c.in_ok-right_term.right_term c.new-entries.result c.push.new.self c.push-2.new.self c.in_ok-entry_of.field-0 c.in_ok-entry_of-2.field-0
    c.as_slice.ensures c.as_slice-2.ensures c.in_ok-left_term.ensures c.in_ok-right_term.ensures c.in_ok-entry_of.ensures c.in_ok-entry_of-2.ensures
    c.new-entries.ensures c.in_ok-push.ensures.ok c.in_ok-push-2.ensures.ok c.filled.ensures
