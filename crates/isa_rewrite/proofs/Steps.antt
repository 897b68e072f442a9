-- The law of the four steps.
use Rattle.isa_rewrite.specs.Laws.{GoesBySteps, SimplificationGoesBySteps}
use Rattle.isa_rewrite.proofs.Walks.{simp_abs, simp_parts, root_is}

pub goes_by_steps : SimplificationGoesBySteps
goes_by_steps ss = record { abstraction = simp_abs ss; parts = simp_parts ss; attempt = root_is ss }
