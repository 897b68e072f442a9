use Rattle.std.proofs.Common.{◌≡◌}
use Rattle.isa_unify.specs.TypeUnification.{type_state, types_unified, unify_typs}
use Rattle.isa_unify.specs.TypeStacks.{stack_of, resolved}
use Rattle.isa_unify.proofs.TypesUnify.{steps_left}
use Rattle.isa_unify.proofs.types.unified_pairs.Given as goal

-- what is left ends as all does
abbrev pub invariant-loop-pair : goal.invariant-loop-pair
invariant-loop-pair l = types_unified (type_state (stack_of l.work.items) (resolved l.solution.items)) ≡ unify_typs (stack_of l.fn.work.items)

-- the steps that are left
abbrev pub decreases-loop-pair : goal.decreases-loop-pair
decreases-loop-pair l = steps_left (type_state (stack_of l.work.items) (resolved l.solution.items))
