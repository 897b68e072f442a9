use Rattle.isa_simprules.proofs.numbers.+first_free_type.Given as goal

abbrev pub decreases-first_free_type : goal.decreases-first_free_type
decreases-first_free_type l = l.count
