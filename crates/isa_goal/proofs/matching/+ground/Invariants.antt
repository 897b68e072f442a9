use Rattle.isa_terms.specs.Types.{ty_depth, tys_depth, tys_of}
use Rattle.isa_goal.proofs.matching.+ground.Given as goal

abbrev pub decreases-is_ground_type : goal.decreases-is_ground_type
decreases-is_ground_type l = ty_depth l.typ.now

abbrev pub decreases-are_ground_types : goal.decreases-are_ground_types
decreases-are_ground_types l = tys_depth (tys_of l.args.now)
