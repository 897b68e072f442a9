use Rattle.isa_subgoal.proofs.reshaping.+colons.Given as goal

abbrev pub decreases-colons : goal.decreases-colons
decreases-colons l = l.length
