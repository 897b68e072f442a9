use Rattle.std.proofs.Common.{◌≡◌, max, drop}
use Rattle.isa_unify.specs.Calls.{past_all}
use Rattle.isa_unify.proofs.fresh.Fresh.after.Given as goal

-- the number so far, and those of the rest
abbrev pub invariant-loop-t : goal.invariant-loop-t
invariant-loop-t l = max l.next (past_all (drop l.t-index l.t-items)) ≡ past_all l.fn.terms
