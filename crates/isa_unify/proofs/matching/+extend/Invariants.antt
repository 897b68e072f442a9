use Rattle.isa_terms.specs.Terms.{nodes}
use Rattle.isa_unify.proofs.matching.+extend.Given as goal

abbrev pub decreases-extend : goal.decreases-extend
decreases-extend l = nodes l.pattern.now
