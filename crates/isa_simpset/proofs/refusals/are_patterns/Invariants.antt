use Rattle.std.proofs.Common.{◌≡◌, drop}
use Rattle.isa_simpset.specs.Refusals.{are_patterns}
use Rattle.isa_simpset.proofs.refusals.are_patterns.Given as goal

abbrev pub invariant-loop-rule : goal.invariant-loop-rule
invariant-loop-rule l = are_patterns (drop l.rule-index l.rules) ≡ are_patterns l.rules
