use Rattle.std.proofs.Common.{◌≡◌, ℕ, ◌<◌, ◌++◌, length, true}
use Rattle.isa_terms.specs.Generalize.{is_named}
use Rattle.isa_typing.specs.NewNames.{variable_name, AreFirstFree}
use Rattle.isa_typing.proofs.naming.new_names.Given as goal

abbrev pub invariant-loop-i : goal.invariant-loop-i
invariant-loop-i l = record {
  new : AreFirstFree l.initial.taken l.names;
  taken : l.taken ≡ l.initial.taken ++ l.names;
  count : length l.names ≡ l._i;
  passed : (k : ℕ) → k < l.from → is_named l.taken (variable_name k) ≡ true;
}
