use Rattle.isa_terms.specs.Types.{ty_depth, tys_depth, tys_of}
use Rattle.isa_unify.proofs.types.+stands.Given as goal

abbrev pub decreases-stands : goal.decreases-stands
decreases-stands l = ty_depth l.typ.now

abbrev pub decreases-stand : goal.decreases-stand
decreases-stand l = tys_depth (tys_of l.args.now)
