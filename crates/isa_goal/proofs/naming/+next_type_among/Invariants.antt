use Rattle.isa_goal.proofs.naming.+next_type_among.Given as goal

abbrev pub decreases-next_type_among : goal.decreases-next_type_among
decreases-next_type_among l = l.tries
