use Rattle.isa_terms.specs.Types.{ty_depth, tys_depth, tys_of}
use Rattle.isa_goal.proofs.naming.+fixed.Given as goal

abbrev pub decreases-with_fixed_of_type : goal.decreases-with_fixed_of_type
decreases-with_fixed_of_type l = ty_depth l.typ.now

abbrev pub decreases-with_fixed_of_types : goal.decreases-with_fixed_of_types
decreases-with_fixed_of_types l = tys_depth (tys_of l.types.now)
