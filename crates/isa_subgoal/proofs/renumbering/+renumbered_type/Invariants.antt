use Rattle.isa_terms.specs.Types.{ty_depth, tys_depth, tys_of}
use Rattle.isa_subgoal.proofs.renumbering.+renumbered_type.Given as goal

abbrev pub decreases-renumbered_type : goal.decreases-renumbered_type
decreases-renumbered_type l = ty_depth l.typ.now

abbrev pub decreases-renumbered_types : goal.decreases-renumbered_types
decreases-renumbered_types l = tys_depth (tys_of l.args.now)
