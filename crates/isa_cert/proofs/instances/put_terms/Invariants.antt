use Rattle.std.proofs.Common.{◌≡◌, drop}
use Rattle.isa_cert.specs.Checking.{term_entries}
use Rattle.isa_cert.proofs.instances.put_terms.Given as goal

abbrev pub invariant-loop-unknown : goal.invariant-loop-unknown
invariant-loop-unknown l = (term_entries l.table l.initial.inst.terms l.pairs ≡ term_entries l.table l.inst.terms (drop l.unknown-index l.pairs)) × (l.inst.types ≡ l.initial.inst.types)
