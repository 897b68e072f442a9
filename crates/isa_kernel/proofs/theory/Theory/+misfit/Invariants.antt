use Rattle.isa_terms.specs.Types.{ty_depth, tys_depth, tys_of}
use Rattle.isa_kernel.proofs.theory.Theory.+misfit.Given as goal

abbrev pub decreases-misfit_in_typ : goal.decreases-misfit_in_typ
decreases-misfit_in_typ l = ty_depth l.typ.now

abbrev pub decreases-misfit_in_typs : goal.decreases-misfit_in_typs
decreases-misfit_in_typs l = tys_depth (tys_of l.typs.now)
