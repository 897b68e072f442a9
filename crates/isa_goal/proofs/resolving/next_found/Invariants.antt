use Rattle.std.proofs.Common.{◌≡◌, ◌≤◌, ◌-◌, drop, length}
use Rattle.isa_goal.specs.Resolving.{results}
use Rattle.isa_goal.proofs.resolving.next_found.Given as goal

abbrev pub invariant-loop-next : goal.invariant-loop-next
invariant-loop-next l = record {
  within : l.next ≤ length l.rules;
  same : results l.place (drop l.tried l.rules) l.state ≡ results l.place (drop l.next l.rules) l.state;
}

abbrev pub decreases-loop-next : goal.decreases-loop-next
decreases-loop-next l = length l.rules - l.next
