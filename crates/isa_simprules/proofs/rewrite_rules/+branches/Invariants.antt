use Rattle.std.proofs.Common.{◌≡◌, ◌-◌, ◌++◌, drop}
use Rattle.isa_simprules.specs.RulesOf.{each, branches}
use Rattle.isa_simprules.proofs.rewrite_rules.+branches.Given as goal

abbrev pub decreases-branches : goal.decreases-branches
decreases-branches l = l.depth

-- the branches of the parts that are left come behind what is done
abbrev pub invariant-loop-part : goal.invariant-loop-part
invariant-loop-part l = l.all ++ each (branches (l.depth - 1) l.facts) (drop l.part-index l.items) ≡ l.initial.all ++ each (branches (l.depth - 1) l.facts) l.items
