use Rattle.std.proofs.Common.{◌≡◌, ◌≤◌, ◌-◌, ◌^◌, length}
use Rattle.isa_goal.specs.Resolving.{results, left}
use Rattle.isaprove.specs.Searches.{found_after}
use Rattle.isaprove.proofs.asking.ask_matching.Given as goal

-- what is asked of all is what is asked of those that are left
abbrev pub invariant-loop-search : goal.invariant-loop-search
invariant-loop-search l = found_after l.fn.rank 0 (results 1 l.fn.rules l.fn.state) ≡ found_after l.left l.outside (left l.search)

abbrev pub decreases-loop-search : goal.decreases-loop-search
decreases-loop-search l = length (left l.search)
