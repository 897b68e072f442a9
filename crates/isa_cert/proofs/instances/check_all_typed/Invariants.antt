use Rattle.std.proofs.Common.{◌≡◌, drop}
use Rattle.isa_cert.specs.Checking.{all_typed, terms_of}
use Rattle.isa_cert.proofs.instances.check_all_typed.Given as goal

abbrev pub invariant-loop-entry : goal.invariant-loop-entry
invariant-loop-entry l = all_typed (terms_of l.entries) ≡ all_typed (terms_of (drop l.entry-index l.entries))
