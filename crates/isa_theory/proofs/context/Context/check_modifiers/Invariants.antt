use Rattle.std.proofs.Common.{◌≡◌, drop}
use Rattle.isa_theory.specs.Applying.{all_known}
use Rattle.isa_theory.specs.MethodFacts.{modifiers_facts}
use Rattle.isa_theory.proofs.context.Context.check_modifiers.Given as goal

abbrev pub invariant-loop-modifier : goal.invariant-loop-modifier
invariant-loop-modifier l = all_known l.self (modifiers_facts l.modifiers) ≡ all_known l.self (modifiers_facts (drop l.modifier-index l.modifiers))
