use Rattle.std.proofs.Common.{◌≡◌, ◌+◌, ◌++◌, drop}
use Rattle.isa_print.specs.Text.{subgoals_text}
use Rattle.isa_print.proofs.text.push_subgoals.Given as goal

abbrev pub invariant-loop-i : goal.invariant-loop-i
invariant-loop-i l = l.initial.text.items ++ subgoals_text l.judgment 1 l.subgoals ≡ l.text.items ++ subgoals_text l.judgment (l.i + 1) (drop l.i l.subgoals)
