use Rattle.isa_kernel.proofs.Well.{refused_for}
use Rattle.isa_kernel.proofs.laws.axioms_are_well.Goals as goal

pub returns : goal.returns
returns c = refused_for
