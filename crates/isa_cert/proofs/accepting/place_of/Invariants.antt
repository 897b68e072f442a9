use Rattle.std.proofs.Common.{◌≡◌, ◌++◌, take, drop}
use Rattle.isa_cert.specs.Checking.{put_axiom}
use Rattle.isa_cert.proofs.accepting.place_of.Given as goal

abbrev pub invariant-loop-place : goal.invariant-loop-place
invariant-loop-place l = put_axiom l.one l.axioms ≡ take l.place l.axioms ++ put_axiom l.one (drop l.place l.axioms)
