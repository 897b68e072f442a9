-- Unknowns that count as constants in matching.
use Rattle.std.specs.Prelude.{List, [], ◌∷◌}
use Rattle.isa_terms.specs.Terms.{Tm}
use Rattle.isa_terms.specs.Instance.{Instance}
use Rattle.isa_terms.specs.declared.inst.TypeEntry.{TypeEntry}
use Rattle.isa_terms.specs.declared.inst.TermEntry.{TermEntry}
use Rattle.isa_unify.specs.Unification.{with_types, with_unknowns}

-- the type unknowns of the terms, each as itself, behind others
abbrev pub with_all_types : List TypeEntry → List Tm → List TypeEntry
with_all_types es [] = es
with_all_types es (t ∷ ts) = with_all_types (with_types es t) ts

-- the unknowns, likewise
abbrev pub with_all_unknowns : List TermEntry → List Tm → List TermEntry
with_all_unknowns fs [] = fs
with_all_unknowns fs (t ∷ ts) = with_all_unknowns (with_unknowns fs t) ts

-- the instance that maps each type unknown and each unknown of the terms to itself
abbrev pub constants_of : List Tm → Instance
constants_of ts = record { types = with_all_types [] ts; terms = with_all_unknowns [] ts }
