use Rattle.isa_syntax.proofs.Telling.{told_props}
use Rattle.isa_syntax.proofs.laws.told_props_are_typed.Goals as goal

pub returns : goal.returns
returns c = told_props
