use Rattle.isa_terms.specs.Types.{ty_depth, tys_depth, tys_of}
use Rattle.isa_terms.proofs.unknowns.+greatest.Given as goal

abbrev pub decreases-greatest_of_type : goal.decreases-greatest_of_type
decreases-greatest_of_type l = ty_depth l.typ.now

abbrev pub decreases-greatest_of_types : goal.decreases-greatest_of_types
decreases-greatest_of_types l = tys_depth (tys_of l.types.now)
