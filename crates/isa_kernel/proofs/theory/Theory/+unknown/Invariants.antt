use Rattle.isa_terms.specs.Types.{ty_depth, tys_depth, tys_of}
use Rattle.isa_kernel.proofs.theory.Theory.+unknown.Given as goal

abbrev pub decreases-unknown_in_typ : goal.decreases-unknown_in_typ
decreases-unknown_in_typ l = ty_depth l.typ.now

abbrev pub decreases-unknown_in_typs : goal.decreases-unknown_in_typs
decreases-unknown_in_typs l = tys_depth (tys_of l.typs.now)
