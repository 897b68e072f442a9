use Rattle.std.proofs.Common.{◌≡◌, drop}
use Rattle.isa_theory.specs.Applying.{all_known, declared_facts}
use Rattle.isa_theory.proofs.context.Context.check_declared.Given as goal

abbrev pub invariant-loop-declaration : goal.invariant-loop-declaration
invariant-loop-declaration l = all_known l.self (declared_facts l.declarations) ≡ all_known l.self (declared_facts (drop l.declaration-index l.declarations))
