use Rattle.std.proofs.Common.{◌≡◌, drop}
use Rattle.isa_terms.specs.Generalize.{is_named}
use Rattle.isa_goal.proofs.naming.is_named.Given as goal

abbrev pub invariant-loop-other : goal.invariant-loop-other
invariant-loop-other l = is_named (drop l.other-index l.names) l.name ≡ is_named l.names l.name
