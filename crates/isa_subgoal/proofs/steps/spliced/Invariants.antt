use Rattle.std.proofs.Common.{◌≡◌, ◌++◌, take}
use Rattle.isa_subgoal.proofs.steps.spliced.Given as goal

abbrev pub invariant-loop-t : goal.invariant-loop-t
invariant-loop-t l = l.all ≡ l.before ++ take l.t-index l.between

abbrev pub invariant-loop-last : goal.invariant-loop-last
invariant-loop-last l = l.all ≡ l.before ++ (l.between ++ take l.last-index l.behind)
