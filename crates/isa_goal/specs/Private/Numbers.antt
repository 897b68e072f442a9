-- That the numbers of names fit, and that an instance gives each unknown itself: what private functions tell.
use Rattle.std.specs.Prelude.{◌≡◌, ℕ, ◌+◌, ◌^◌, ◌<◌, List, [], ◌∷◌}
use Rattle.isa_terms.specs.Types.{Ty, TyCon, TyFixed, TyUnknown}
use Rattle.isa_terms.specs.Terms.{Tm, Const, Free, Unknown, Bound, Abs, App}
use Rattle.isa_terms.specs.declared.inst.TypeEntry.{TypeEntry}
use Rattle.isa_terms.specs.declared.inst.TermEntry.{TermEntry}
use Rattle.isa_terms.specs.Unknowns.{unknowns_of, type_unknowns_of}
use Rattle.isa_goal.specs.Goals.{Goals}
use Rattle.isa_goal.specs.Names.{next_number, next_type_number, free_names, fixed_names, terms_of}

-- each number that the type unknowns get is a u64
abbrev pub TypeNumbersFit : List (List ℕ) → ℕ → List Ty → Type 0
TypeNumbersFit names n [] = Unit {0}
TypeNumbersFit names n (TyUnknown x i ∷ us) = (next_type_number names n < 2 ^ 64) × TypeNumbersFit names (next_type_number names n + 1) us
TypeNumbersFit names n (u ∷ us) = TypeNumbersFit names n us

-- each number that the unknowns get is a u64
abbrev pub TermNumbersFit : List (List ℕ) → ℕ → List Tm → Type 0
TermNumbersFit names n [] = Unit {0}
TermNumbersFit names n (Unknown x i T ∷ us) = (next_number names n < 2 ^ 64) × TermNumbersFit names (next_number names n + 1) us
TermNumbersFit names n (u ∷ us) = TermNumbersFit names n us

-- each entry gives the type unknown, or the unknown, itself
abbrev pub StayTypes : List TypeEntry → Type 0
StayTypes [] = Unit {0}
StayTypes (e ∷ es) = (e.typ ≡ TyUnknown e.name e.number) × StayTypes es

abbrev pub StayTerms : List TermEntry → Type 0
StayTerms [] = Unit {0}
StayTerms (f ∷ fs) = (f.term ≡ Unknown f.name f.number f.typ) × StayTerms fs

-- each number that a state's type unknowns and unknowns get is a u64
pub record NumbersFit (s : Goals) : Type 0 where
  pub types : TypeNumbersFit (fixed_names s.goal) 1 (type_unknowns_of (terms_of s))
  pub terms : TermNumbersFit (free_names s.goal) 1 (unknowns_of (terms_of s))
