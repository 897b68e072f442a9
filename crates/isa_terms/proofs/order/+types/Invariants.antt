use Rattle.std.proofs.Common.{◌+◌, ◌*◌}
use Rattle.isa_terms.specs.Types.{ty_depth, tys_depth, tys_of}
use Rattle.isa_terms.proofs.order.+types.Given as goal

abbrev pub decreases-compare_types : goal.decreases-compare_types
decreases-compare_types l = 2 * ty_depth l.left.now

abbrev pub decreases-compare_lists_of_types : goal.decreases-compare_lists_of_types
decreases-compare_lists_of_types l = 2 * tys_depth (tys_of l.left.now) + 1

abbrev pub decreases-compare_args_of_types : goal.decreases-compare_args_of_types
decreases-compare_args_of_types l = 2 * tys_depth (tys_of l.left.now)
