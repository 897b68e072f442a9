use Rattle.std.proofs.Common.{sym, ◌∙◌}
use Rattle.isa_terms.specs.Types.{tys_of}
use Rattle.isa_typing.specs.Found.{found_in}
use Rattle.isa_typing.proofs.Solved.{step_constructors}
use Rattle.isa_typing.proofs.solving.meet_constructors.Goals as goal

pub returns-else-same : goal.returns-else-same
returns-else-same c = step_constructors (found_in c.args.found.now.entries) c.args.work.now.items c.args.name.now c.args.other.now (tys_of c.args.args.now) (tys_of c.args.others.now) (sym c.same.ensures.test ∙ c.if-same.false)
