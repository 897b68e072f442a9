use Rattle.isa_terms.specs.Terms.{nodes}
use Rattle.isa_subgoal.proofs.shape.+gathered.Given as goal

abbrev pub decreases-gathered : goal.decreases-gathered
decreases-gathered l = nodes l.t.now
