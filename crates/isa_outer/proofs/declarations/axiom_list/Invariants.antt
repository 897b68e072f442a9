use Rattle.std.proofs.Common.{length}
use Rattle.isa_outer.specs.declared.command.Axiom.{Axiom}
use Rattle.isa_outer.specs.Grammar.{◌▸◌, w, axiom_form}
use Rattle.isa_outer.proofs.Lists.{ListSoFar}
use Rattle.isa_outer.proofs.declarations.axiom_list.Given as goal

abbrev pub invariant-loop-after : goal.invariant-loop-after
invariant-loop-after l = ListSoFar Axiom (axiom_form l.line) (w "and" ▸ (axiom_form l.line)) l.tokens l.rest l.axioms

abbrev pub decreases-loop-after : goal.decreases-loop-after
decreases-loop-after l = length l.rest
