use Rattle.isa_terms.specs.Terms.{nodes}
use Rattle.isa_subgoal.proofs.reshaping.+regain.Given as goal

abbrev pub decreases-regain : goal.decreases-regain
decreases-regain l = nodes l.t.now
