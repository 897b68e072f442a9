use Rattle.isa_inner_types.proofs.TypeOutcomes.{one_outcome}
use Rattle.isa_inner_types.proofs.laws.one_type_outcome.Goals as goal

pub returns : goal.returns
returns c = one_outcome
