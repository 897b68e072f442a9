use Rattle.std.proofs.Common.{◌≡◌, take, map}
use Rattle.isa_cert.specs.Checking.{accepted}
use Rattle.isa_cert.proofs.accepting.certs.Given as goal

abbrev pub invariant-loop-end : goal.invariant-loop-end
invariant-loop-end l = l.all ≡ map accepted (take l.end-index l.ends)
