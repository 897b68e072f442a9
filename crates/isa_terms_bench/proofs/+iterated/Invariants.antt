use Rattle.isa_terms_bench.proofs.+iterated.Given as goal

abbrev pub decreases-iterated : goal.decreases-iterated
decreases-iterated l = l.times
