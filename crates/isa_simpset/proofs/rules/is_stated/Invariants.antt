use Rattle.std.proofs.Common.{◌≡◌, drop}
use Rattle.isa_simpset.specs.Lists.{is_stated}
use Rattle.isa_simpset.proofs.rules.is_stated.Given as goal

abbrev pub invariant-loop-rule : goal.invariant-loop-rule
invariant-loop-rule l = is_stated (drop l.rule-index l.rules) l.prop ≡ is_stated l.rules l.prop
