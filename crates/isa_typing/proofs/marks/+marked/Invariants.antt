use Rattle.isa_terms.specs.Types.{ty_depth, tys_depth, tys_of}
use Rattle.isa_typing.proofs.marks.+marked.Given as goal

abbrev pub decreases-marked_typ : goal.decreases-marked_typ
decreases-marked_typ l = ty_depth l.typ.now

abbrev pub decreases-marked_typs : goal.decreases-marked_typs
decreases-marked_typs l = tys_depth (tys_of l.args.now)
