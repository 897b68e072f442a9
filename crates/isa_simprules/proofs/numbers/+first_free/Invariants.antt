use Rattle.isa_simprules.proofs.numbers.+first_free.Given as goal

abbrev pub decreases-first_free : goal.decreases-first_free
decreases-first_free l = l.count
