-- Unknowns of a rule that the match of its left side leaves open.
-- Source: conditions with unknowns of their own (the Isabelle/Isar Reference Manual, "The Simplifier"; `rewrite_cterm` with extra variables); which numbers they get is this project's.
use Rattle.std.specs.Prelude.{ℕ, List, [], ◌∷◌, ◌++◌, Bool, true, false, ◌&&◌, ◌||◌, not, if◌then◌else◌, is_some}
use Rattle.isa_terms.specs.Types.{Ty, TyCon, TyFixed, TyUnknown}
use Rattle.isa_terms.specs.Terms.{Tm, Unknown}
use Rattle.isa_terms.specs.Instance.{Instance, find_type, find_term, inst_ty, set_type, set_term}
use Rattle.isa_terms.specs.Unknowns.{unknowns_of, type_unknowns_of}
use Rattle.isa_terms.specs.declared.inst.TypeEntry.{TypeEntry}
use Rattle.isa_terms.specs.declared.inst.TermEntry.{TermEntry}
use Rattle.isa_simprules.specs.Numbers.{is_taken, is_type_taken, least_number, least_type_number}

-- whether the type unknown has the name and the number of one of those
abbrev pub is_known_type : List Ty → Ty → Bool
is_known_type Us (TyUnknown x i) = is_type_taken Us x i
is_known_type Us T = true

abbrev pub is_known : List Tm → Tm → Bool
is_known us (Unknown x i T) = is_taken us x i
is_known us t = true

abbrev pub all_types_known : List Ty → List Ty → Bool
all_types_known Us [] = true
all_types_known Us (V ∷ Vs) = is_known_type Us V && all_types_known Us Vs

abbrev pub all_known : List Tm → List Tm → Bool
all_known us [] = true
all_known us (v ∷ vs) = is_known us v && all_known us vs

-- whether each unknown of t has the name and the number of one of the known terms
abbrev pub are_known : List Tm → Tm → Bool
are_known known t = all_known (unknowns_of known) (unknowns_of (t ∷ []))

-- whether t has nothing open: each of its unknowns and type unknowns is one of the known terms'
abbrev pub has_nothing_open : List Tm → Tm → Bool
has_nothing_open known t = are_known known t && all_types_known (type_unknowns_of known) (type_unknowns_of (t ∷ []))

-- the types, and for each of the others that the known terms have a type unknown of its name with the least number that is not taken, which then is taken
abbrev pub types_renamed : List Ty → List Ty → List Ty → List TypeEntry → List TypeEntry
types_renamed known taken [] es = es
types_renamed known taken (TyUnknown x i ∷ Us) es =
    if is_some (find_type x i es) || not (is_type_taken known x i) then types_renamed known taken Us es
    else types_renamed known (taken ++ TyUnknown x (least_type_number taken x) ∷ []) Us (set_type (record { name = x; number = i; typ = TyUnknown x (least_type_number taken x) }) es)
types_renamed known taken (U ∷ Us) es = types_renamed known taken Us es

-- the terms, likewise
abbrev pub terms_renamed : List Tm → List Tm → List TypeEntry → List Tm → List TermEntry → List TermEntry
terms_renamed known taken es [] fs = fs
terms_renamed known taken es (Unknown x i T ∷ us) fs =
    if is_some (find_term x i T fs) || not (is_taken known x i) then terms_renamed known taken es us fs
    else terms_renamed known (taken ++ Unknown x (least_number taken x) (inst_ty es T) ∷ []) es us
    (set_term (record { name = x; number = i; typ = T; term = Unknown x (least_number taken x) (inst_ty es T) }) fs)
terms_renamed known taken es (u ∷ us) fs = terms_renamed known taken es us fs

abbrev pub types_apart : List Tm → List Tm → Instance → List TypeEntry
types_apart known terms s = types_renamed (type_unknowns_of known) (type_unknowns_of (known ++ terms)) (type_unknowns_of terms) s.types

-- s with new numbers for those unknowns of a rule with these terms that it leaves open and that the known terms have: the least ones that neither they nor the rule have
abbrev pub apart : List Tm → List Tm → Instance → Instance
apart known terms s = record { types = types_apart known terms s; terms = terms_renamed (unknowns_of known) (unknowns_of (known ++ terms)) (types_apart known terms s) (unknowns_of terms) s.terms }

-- whether s fixes those type unknowns
abbrev pub fixes_types : List Ty → Instance → Bool
fixes_types [] s = true
fixes_types (TyUnknown x i ∷ Us) s = is_some (find_type x i s.types) && fixes_types Us s
fixes_types (U ∷ Us) s = fixes_types Us s

abbrev pub fixes_terms : List Tm → Instance → Bool
fixes_terms [] s = true
fixes_terms (Unknown x i T ∷ us) s = is_some (find_term x i T s.terms) && fixes_terms us s
fixes_terms (u ∷ us) s = fixes_terms us s

-- whether s fixes all unknowns and type unknowns of t
abbrev pub fixes : Instance → Tm → Bool
fixes s t = fixes_terms (unknowns_of (t ∷ [])) s && fixes_types (type_unknowns_of (t ∷ [])) s
