use Rattle.std.proofs.Common.{ℕ, List, length}
use Rattle.isa_outer.specs.Grammar.{fact, unless}
use Rattle.isa_outer.specs.Private.Heads.{stops_at}
use Rattle.isa_outer.proofs.Lists.{ListSoFar}
use Rattle.isa_outer.proofs.facts.facts.Given as goal

abbrev pub invariant-loop-alloc : goal.invariant-loop-alloc
invariant-loop-alloc l = ListSoFar (List ℕ) fact (unless (stops_at l.inside l.heads) fact) l.tokens l.rest l.facts

abbrev pub decreases-loop-alloc : goal.decreases-loop-alloc
decreases-loop-alloc l = length l.rest
