use Rattle.std.proofs.Common.{◌≡◌, drop}
use Rattle.isa_terms.specs.Entries.{first_place}
use Rattle.isa_terms.specs.Instance.{same_unknown}
use Rattle.isa_terms.proofs.lists.TermEntries.place_of.Given as goal

abbrev pub invariant-loop-place : goal.invariant-loop-place
invariant-loop-place l = first_place (same_unknown l.entry) l.place (drop l.place l.self) ≡ first_place (same_unknown l.entry) 0 l.self
