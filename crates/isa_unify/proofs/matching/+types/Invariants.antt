use Rattle.isa_terms.specs.Types.{ty_depth, tys_depth, tys_of}
use Rattle.isa_unify.proofs.matching.+types.Given as goal

abbrev pub decreases-extend_types : goal.decreases-extend_types
decreases-extend_types l = ty_depth l.typ.now

abbrev pub decreases-extend_all_types : goal.decreases-extend_all_types
decreases-extend_all_types l = tys_depth (tys_of l.args.now)
