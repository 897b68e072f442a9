use Rattle.std.proofs.Common.{◌≡◌, drop}
use Rattle.isa_simpset.specs.Lists.{is_fact_of}
use Rattle.isa_simpset.proofs.simpset.is_fact_of.Given as goal

abbrev pub invariant-loop-other : goal.invariant-loop-other
invariant-loop-other l = is_fact_of (drop l.other-index l.facts) l.fact.prop ≡ is_fact_of l.facts l.fact.prop
