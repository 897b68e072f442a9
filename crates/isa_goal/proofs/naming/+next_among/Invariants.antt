use Rattle.isa_goal.proofs.naming.+next_among.Given as goal

abbrev pub decreases-next_among : goal.decreases-next_among
decreases-next_among l = l.tries
