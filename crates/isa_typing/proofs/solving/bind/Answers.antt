use Rattle.isa_typing.specs.Found.{found_in}
use Rattle.isa_typing.proofs.Solved.{binds_copied}
use Rattle.isa_typing.proofs.solving.bind.Goals as goal

pub returns : goal.returns
returns c = binds_copied (found_in c.args.found.now.entries) (found_in c.insert.new.self.entries) c.args.name.now c.in_ok-variable.variable c.args.number c.in_ok-typ.typ c.args.typ.now c.in_ok-variable.ensures c.in_ok-typ.ensures (λ y j. c.in_ok-insert.ensures.updates.0 (y, j))
