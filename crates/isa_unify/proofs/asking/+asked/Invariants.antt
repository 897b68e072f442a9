use Rattle.isa_terms.specs.Types.{ty_depth, tys_depth, tys_of}
use Rattle.isa_unify.proofs.asking.+asked.Given as goal

abbrev pub decreases-add_type_unknowns : goal.decreases-add_type_unknowns
decreases-add_type_unknowns l = ty_depth l.typ.now

abbrev pub decreases-add_all_type_unknowns : goal.decreases-add_all_type_unknowns
decreases-add_all_type_unknowns l = tys_depth (tys_of l.args.now)
