use Rattle.isa_terms.specs.Types.{ty_depth, tys_depth, tys_of}
use Rattle.isa_syntax_tests.proofs.declaring.+variables.Given as goal

abbrev pub decreases-put_variables : goal.decreases-put_variables
decreases-put_variables l = ty_depth l.typ.now

abbrev pub decreases-put_all_variables : goal.decreases-put_all_variables
decreases-put_all_variables l = tys_depth (tys_of l.args.now)
