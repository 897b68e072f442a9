use Rattle.std.proofs.Common.{◌≡◌, take}
use Rattle.isa_cert.proofs.accepting.axioms_by_name.Given as goal

abbrev pub invariant-loop-one : goal.invariant-loop-one
invariant-loop-one l = l.all ≡ take l.one-index l.one-items
