use Rattle.isa_simprules.proofs.opening.+opened_often.Given as goal

abbrev pub decreases-opened_often : goal.decreases-opened_often
decreases-opened_often l = l.count
