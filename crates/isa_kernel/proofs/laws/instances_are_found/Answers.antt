use Rattle.isa_kernel.proofs.TypeInstances.{instance_found, found_instance}
use Rattle.isa_kernel.proofs.laws.instances_are_found.Goals as goal

pub returns : goal.returns
returns c = λ S T. (instance_found S T, found_instance S T)
