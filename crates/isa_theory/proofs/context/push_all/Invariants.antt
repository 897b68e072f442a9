use Rattle.std.proofs.Common.{◌≡◌, ◌++◌, take}
use Rattle.isa_theory.proofs.context.push_all.Given as goal

abbrev pub invariant-loop-thm : goal.invariant-loop-thm
invariant-loop-thm l = l.all ≡ l.initial.all ++ take l.thm-index l.thm-items
