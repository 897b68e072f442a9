use Rattle.isa_terms.specs.Types.{ty_depth, tys_depth, tys_of}
use Rattle.isa_terms.proofs.unknowns.+noting.Given as goal

abbrev pub decreases-note_of_type : goal.decreases-note_of_type
decreases-note_of_type l = ty_depth l.typ.now

abbrev pub decreases-note_of_types : goal.decreases-note_of_types
decreases-note_of_types l = tys_depth (tys_of l.types.now)
