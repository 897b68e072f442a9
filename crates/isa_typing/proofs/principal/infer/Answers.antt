use Rattle.isa_typing.specs.Scopes.{declared_in}
use Rattle.isa_typing.proofs.MostGeneral.{no_typing}
use Rattle.isa_typing.proofs.principal.infer.Goals as goal

pub returns-in-None : goal.returns-in-None
returns-in-None c =
    let none = rw c.in-None.is at c.in_ok-solved_term.ensures.none in
    no_typing (declared_in c.args.constants.now.entries) c.args.raw.now none
