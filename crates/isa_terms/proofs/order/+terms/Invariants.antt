use Rattle.std.proofs.Common.{◌+◌, ◌*◌}
use Rattle.isa_terms.specs.Terms.{nodes}
use Rattle.isa_terms.proofs.order.+terms.Given as goal

abbrev pub decreases-compare_heads : goal.decreases-compare_heads
decreases-compare_heads l = 3 * nodes l.left.now

abbrev pub decreases-compare_args : goal.decreases-compare_args
decreases-compare_args l = 3 * nodes l.left.now

abbrev pub decreases-compare_parts : goal.decreases-compare_parts
decreases-compare_parts l = 3 * nodes l.left.now + 1

abbrev pub decreases-compare_terms : goal.decreases-compare_terms
decreases-compare_terms l = 3 * nodes l.left.now + 2
