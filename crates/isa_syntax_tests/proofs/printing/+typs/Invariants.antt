use Rattle.isa_terms.specs.Types.{ty_depth, tys_depth, tys_of}
use Rattle.isa_syntax_tests.proofs.printing.+typs.Given as goal

abbrev pub decreases-put_typ : goal.decreases-put_typ
decreases-put_typ l = ty_depth l.typ.now

abbrev pub decreases-put_typs : goal.decreases-put_typs
decreases-put_typs l = tys_depth (tys_of l.args.now)
