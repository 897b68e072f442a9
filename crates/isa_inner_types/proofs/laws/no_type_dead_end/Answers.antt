use Rattle.isa_inner_types.proofs.TypeComplete.{no_dead_end}
use Rattle.isa_inner_types.proofs.laws.no_type_dead_end.Goals as goal

pub returns : goal.returns
returns c = no_dead_end
