use Rattle.std.proofs.Common.{◌≡◌, [], length}
use Rattle.isa_unify.specs.TypeStacks.{set_all}
use Rattle.isa_unify.proofs.types.instance_of_types.Given as goal

-- what is left, above what is set, makes all
abbrev pub invariant-loop-entry : goal.invariant-loop-entry
invariant-loop-entry l = (l.inst.terms ≡ []) × (set_all l.inst.types l.entries.items ≡ set_all [] l.fn.entries.items)

abbrev pub decreases-loop-entry : goal.decreases-loop-entry
decreases-loop-entry l = length l.entries.items
