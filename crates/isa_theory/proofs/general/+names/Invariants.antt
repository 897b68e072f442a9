use Rattle.isa_terms.specs.Types.{ty_depth, tys_depth, tys_of}
use Rattle.isa_theory.proofs.general.+names.Given as goal

abbrev pub decreases-push_type_names : goal.decreases-push_type_names
decreases-push_type_names l = ty_depth l.typ.now

abbrev pub decreases-push_types_names : goal.decreases-push_types_names
decreases-push_types_names l = tys_depth (tys_of l.typs.now)
