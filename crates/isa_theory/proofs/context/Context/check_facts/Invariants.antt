use Rattle.std.proofs.Common.{◌≡◌, drop}
use Rattle.isa_theory.specs.Applying.{all_known}
use Rattle.isa_theory.proofs.context.Context.check_facts.Given as goal

abbrev pub invariant-loop-fact : goal.invariant-loop-fact
invariant-loop-fact l = all_known l.self l.facts ≡ all_known l.self (drop l.fact-index l.facts)
