use Rattle.std.proofs.Common.{◌≡◌, ◌++◌, drop}
use Rattle.isa_goal.proofs.resolutions.copied_rules.Given as goal

abbrev pub invariant-loop-rule : goal.invariant-loop-rule
invariant-loop-rule l = l.all ++ drop l.rule-index l.rules ≡ l.rules
