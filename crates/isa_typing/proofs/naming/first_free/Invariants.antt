use Rattle.std.proofs.Common.{◌≡◌, ℕ, ◌<◌, true}
use Rattle.isa_terms.specs.Generalize.{is_named}
use Rattle.isa_typing.specs.NewNames.{variable_name}
use Rattle.isa_typing.proofs.naming.first_free.Given as goal

abbrev pub invariant-loop-number : goal.invariant-loop-number
invariant-loop-number l = (k : ℕ) → k < l.number → is_named l.taken (variable_name k) ≡ true
