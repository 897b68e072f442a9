use Rattle.isa_terms.proofs.ConversionLaws.{instances_compose_law}
use Rattle.isa_terms.proofs.laws.instances_compose.Goals as goal

pub returns : goal.returns
returns c = instances_compose_law
