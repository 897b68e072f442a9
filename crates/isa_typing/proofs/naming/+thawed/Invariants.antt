use Rattle.isa_terms.specs.Types.{ty_depth, tys_depth, tys_of}
use Rattle.isa_typing.proofs.naming.+thawed.Given as goal

abbrev pub decreases-thawed_typ : goal.decreases-thawed_typ
decreases-thawed_typ l = ty_depth l.typ.now

abbrev pub decreases-thawed_typs : goal.decreases-thawed_typs
decreases-thawed_typs l = tys_depth (tys_of l.args.now)
