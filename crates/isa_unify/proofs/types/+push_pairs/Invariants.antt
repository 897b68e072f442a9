use Rattle.isa_terms.specs.Types.{tys_depth, tys_of}
use Rattle.isa_unify.proofs.types.+push_pairs.Given as goal

abbrev pub decreases-push_pairs : goal.decreases-push_pairs
decreases-push_pairs l = tys_depth (tys_of l.args.now)
