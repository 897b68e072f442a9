use Rattle.std.proofs.Common.{◌≡◌, drop}
use Rattle.isa_cert.specs.Checking.{type_entries}
use Rattle.isa_cert.proofs.instances.put_types.Given as goal

abbrev pub invariant-loop-unknown : goal.invariant-loop-unknown
invariant-loop-unknown l = (type_entries l.table l.initial.inst.types l.pairs ≡ type_entries l.table l.inst.types (drop l.unknown-index l.pairs)) × (l.inst.terms ≡ l.initial.inst.terms)
