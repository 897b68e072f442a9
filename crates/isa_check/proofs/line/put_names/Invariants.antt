use Rattle.std.proofs.Common.{◌≡◌, ◌++◌, drop}
use Rattle.isa_check.specs.Run.{names_of}
use Rattle.isa_check.proofs.line.put_names.Given as goal

abbrev pub invariant-loop-one : goal.invariant-loop-one
invariant-loop-one l = l.text.items ++ names_of (drop l.one-index l.axioms) ≡ l.initial.text.items ++ names_of l.axioms
