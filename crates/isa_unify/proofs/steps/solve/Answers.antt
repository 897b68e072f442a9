use Rattle.isa_unify.proofs.Becoming.{solved_by}
use Rattle.isa_unify.proofs.steps.solve.Goals as goal

pub returns-in_ok-assigned-in-Fine : goal.returns-in_ok-assigned-in-Fine
returns-in_ok-assigned-in-Fine c =
    let solved = c.args.solved.now in
    solved_by c.args.state c.args.equation.now solved.unknown.name.now solved.unknown.number solved.unknown.typ.now solved.variables c.args.t.now c.in_ok-first_place.field-0 c.as_slice.result.now c.in_ok-term-in-Fine.term c.in_ok-assigned-in-Fine.field-0
    c.in_ok-first_place.ensures c.in-Fine.is c.as_slice.ensures c.in_ok-term-in-Fine.ensures c.in_ok-assigned-in-Fine.ensures
