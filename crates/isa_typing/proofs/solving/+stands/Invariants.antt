use Rattle.isa_typing.proofs.solving.+stands.Given as goal

abbrev pub decreases-stands : goal.decreases-stands
decreases-stands l = l.depth

abbrev pub decreases-stand : goal.decreases-stand
decreases-stand l = l.depth
