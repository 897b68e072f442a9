use Rattle.std.proofs.Common.{◌≡◌, length}
use Rattle.isa_inner_text.specs.Parts.{under}
use Rattle.isa_inner_text.proofs.part.under.Given as goal

abbrev pub invariant-loop-variable : goal.invariant-loop-variable
invariant-loop-variable l = under l.sig l.sign l.variables.items l.term ≡ under l.sig l.sign l.fn.variables.items l.fn.body

abbrev pub decreases-loop-variable : goal.decreases-loop-variable
decreases-loop-variable l = length l.variables.items
