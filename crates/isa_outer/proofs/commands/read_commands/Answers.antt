use Rattle.isa_outer.proofs.Totality.{answer_meets}
use Rattle.isa_outer.proofs.commands.read_commands.Goals as goal

pub returns-clause-is : goal.returns-clause-is
returns-clause-is c = answer_meets _ _ c.commands_in.ensures
