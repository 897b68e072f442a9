use Rattle.std.proofs.Common.{rules}
use Rattle.isa_unify.proofs.FlexibleSteps.{flexible_both}
use Rattle.isa_unify.proofs.steps.solve_both.Goals as goal

pub returns : goal.returns
returns c =
    flexible_both c.solve_unknowns.result c.args.state c.args.equation.now c.args.left.name.now c.args.left.number c.args.left.typ.now c.args.right.name.now c.args.right.number c.args.right.typ.now c.in-Some.variables c.in-Some-2.others
    (search rules) (search rules) c.solve_unknowns.ensures
