use Rattle.isa_terms.specs.Types.{ty_depth, tys_depth, tys_of}
use Rattle.isa_subgoal.proofs.renumbering.+put_types.Given as goal

abbrev pub decreases-put_types : goal.decreases-put_types
decreases-put_types l = ty_depth l.typ.now

abbrev pub decreases-put_all_types : goal.decreases-put_all_types
decreases-put_all_types l = tys_depth (tys_of l.args.now)
