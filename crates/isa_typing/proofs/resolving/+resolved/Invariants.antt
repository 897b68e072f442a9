use Rattle.isa_typing.proofs.resolving.+resolved.Given as goal

abbrev pub decreases-resolved_typ : goal.decreases-resolved_typ
decreases-resolved_typ l = l.depth

abbrev pub decreases-resolved_typs : goal.decreases-resolved_typs
decreases-resolved_typs l = l.depth
