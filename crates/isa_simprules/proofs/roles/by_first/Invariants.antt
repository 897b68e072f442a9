use Rattle.std.proofs.Common.{◌≡◌, drop}
use Rattle.isa_simprules.specs.RulesOf.{by_first}
use Rattle.isa_simprules.proofs.roles.by_first.Given as goal

abbrev pub invariant-loop-fact : goal.invariant-loop-fact
invariant-loop-fact l = by_first (drop l.fact-index l.facts) l.th ≡ by_first l.facts l.th
