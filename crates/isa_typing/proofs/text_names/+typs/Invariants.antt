use Rattle.isa_terms.specs.Types.{ty_depth, tys_depth, tys_of}
use Rattle.isa_typing.proofs.text_names.+typs.Given as goal

abbrev pub decreases-note_typ : goal.decreases-note_typ
decreases-note_typ l = ty_depth l.typ.now

abbrev pub decreases-note_typs : goal.decreases-note_typs
decreases-note_typs l = tys_depth (tys_of l.args.now)
