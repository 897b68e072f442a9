-- An index of the entries of a long base, of which no contract of a public call speaks: an entry without a key in it is none of them.
use Rattle.std.specs.Prelude.{◌≡◌, ℕ, List, Option, None, false, nat_eq}
use Rattle.std.specs.Map.{lookup}
use Rattle.isa_terms.specs.Equal.{name_eq}
use Rattle.isa_kernel.specs.declared.base.BaseEntry.{BaseEntry}
use Rattle.isa_kernel.specs.declared.base.BaseEntry.TheVariants.{Axiom, Cite}
use Rattle.isa_kernel.specs.Axioms.{has_entry, same_entry}

-- the place that stands at the name of an axiom, or at the number of a cite
abbrev pub place_of : List (List ℕ × ℕ) → List (ℕ × ℕ) → BaseEntry → Option ℕ
place_of axioms cites (Axiom a) = lookup (name_eq a.name) axioms
place_of axioms cites (Cite n p cs) = lookup (nat_eq n) cites

-- what has no place in the index is none of the entries
pub record IsIndexed (axioms : List (List ℕ × ℕ)) (cites : List (ℕ × ℕ)) (entries : List BaseEntry) : Type 0 where
  pub absent : (e : BaseEntry) → place_of axioms cites e ≡ None → has_entry entries e ≡ false

-- what has no place after the entry e was noted had none before, and isn't e
pub record Notes (axioms : List (List ℕ × ℕ)) (cites : List (ℕ × ℕ)) (more_axioms : List (List ℕ × ℕ)) (more_cites : List (ℕ × ℕ)) (e : BaseEntry) : Type 0 where
  pub before : (f : BaseEntry) → place_of more_axioms more_cites f ≡ None → place_of axioms cites f ≡ None
  pub other : (f : BaseEntry) → place_of more_axioms more_cites f ≡ None → same_entry e f ≡ false
