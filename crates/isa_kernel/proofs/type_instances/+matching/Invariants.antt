use Rattle.isa_terms.specs.Types.{ty_depth, tys_depth, tys_of}
use Rattle.isa_kernel.proofs.type_instances.+matching.Given as goal

abbrev pub decreases-match_typ : goal.decreases-match_typ
decreases-match_typ l = ty_depth l.pattern.now

abbrev pub decreases-match_typs : goal.decreases-match_typs
decreases-match_typs l = tys_depth (tys_of l.patterns.now)
