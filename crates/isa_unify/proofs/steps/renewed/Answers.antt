use Rattle.isa_unify.proofs.Becoming.{renewed_by}
use Rattle.isa_unify.proofs.steps.renewed.Goals as goal

pub returns : goal.returns
returns c =
    let unknown = c.args.solved.now.unknown in
    renewed_by c.assigned.result c.args.state c.args.binders.now unknown.name.now unknown.number unknown.typ.now c.args.solved.now.variables c.as_slice-variables.result.now c.args.new c.args.kept.now c.range_behind-range.result.now c.in_ok-unknown.unknown c.in_ok-term.term
    c.as_slice-variables.ensures c.range_behind-range.ensures c.in_ok-unknown.ensures c.in_ok-term.ensures c.assigned.ensures
