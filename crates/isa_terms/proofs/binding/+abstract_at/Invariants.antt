use Rattle.isa_terms.specs.Terms.{nodes}
use Rattle.isa_terms.proofs.binding.+abstract_at.Given as goal

abbrev pub decreases-abstract_at : goal.decreases-abstract_at
decreases-abstract_at l = nodes l.u.now
