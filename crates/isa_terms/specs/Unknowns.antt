-- The unknowns and the type unknowns of terms, each once, in the order in which they first occur.
-- Source: schematic variables of Isabelle/Pure (The Isabelle/Isar Implementation Manual, "Primitive logic"; `Term.add_vars`, `Term.maxidx_of_term`); the order from left to right is this project's.
use Rattle.std.specs.Prelude.{ℕ, max, List, [], ◌∷◌, ◌++◌, Bool, false, ◌||◌, if◌then◌else◌, Option, Some, None}
use Rattle.isa_terms.specs.Types.{Ty, Tys, TyCon, TyFixed, TyUnknown, NoTys, MoreTys}
use Rattle.isa_terms.specs.Terms.{Tm, Const, Free, Unknown, Bound, Abs, App}
use Rattle.isa_terms.specs.Equal.{ty_eq}
use Rattle.isa_terms.specs.Sets.{has}

-- the unknowns of a term, place by place from left to right
abbrev pub unknown_places : Tm → List Tm
unknown_places (Unknown x i T) = Unknown x i T ∷ []
unknown_places (Abs x T b) = unknown_places b
unknown_places (App f a) = unknown_places f ++ unknown_places a
unknown_places _ = []

-- the same of several terms
abbrev pub all_unknown_places : List Tm → List Tm
all_unknown_places [] = []
all_unknown_places (t ∷ ts) = unknown_places t ++ all_unknown_places ts

-- the type unknowns of a type, place by place from left to right
abbrev mutual
  pub ty_unknown_places : Ty → List Ty
  ty_unknown_places (TyCon x Ts) = tys_unknown_places Ts
  ty_unknown_places (TyFixed x) = []
  ty_unknown_places (TyUnknown x i) = TyUnknown x i ∷ []

  pub tys_unknown_places : Tys → List Ty
  tys_unknown_places NoTys = []
  tys_unknown_places (MoreTys T Ts) = ty_unknown_places T ++ tys_unknown_places Ts

-- those of a term's types, a binder's type before its body
abbrev pub type_unknown_places : Tm → List Ty
type_unknown_places (Const x T) = ty_unknown_places T
type_unknown_places (Free x T) = ty_unknown_places T
type_unknown_places (Unknown x i T) = ty_unknown_places T
type_unknown_places (Bound i) = []
type_unknown_places (Abs x T b) = ty_unknown_places T ++ type_unknown_places b
type_unknown_places (App f a) = type_unknown_places f ++ type_unknown_places a

abbrev pub all_type_unknown_places : List Tm → List Ty
all_type_unknown_places [] = []
all_type_unknown_places (t ∷ ts) = type_unknown_places t ++ all_type_unknown_places ts

-- the list with the term behind it, unless one of its terms equals that
abbrev pub noted : List Tm → Tm → List Tm
noted seen t = if has seen t then seen else (seen ++ t ∷ [])

-- the list with each of the others noted, in their order
abbrev pub all_noted : List Tm → List Tm → List Tm
all_noted seen [] = seen
all_noted seen (t ∷ ts) = all_noted (noted seen t) ts

-- whether one of the types is T
abbrev pub has_ty : List Ty → Ty → Bool
has_ty [] T = false
has_ty (S ∷ Ss) T = ty_eq S T || has_ty Ss T

abbrev pub ty_noted : List Ty → Ty → List Ty
ty_noted seen T = if has_ty seen T then seen else (seen ++ T ∷ [])

abbrev pub tys_noted : List Ty → List Ty → List Ty
tys_noted seen [] = seen
tys_noted seen (T ∷ Ts) = tys_noted (ty_noted seen T) Ts

-- the unknowns of the terms, each once, by first occurrence
abbrev pub unknowns_of : List Tm → List Tm
unknowns_of ts = all_noted [] (all_unknown_places ts)

-- their type unknowns, likewise
abbrev pub type_unknowns_of : List Tm → List Ty
type_unknowns_of ts = tys_noted [] (all_type_unknown_places ts)

-- the greater of two numbers, where there are any
abbrev pub greater : Option ℕ → Option ℕ → Option ℕ
greater None o = o
greater (Some i) None = Some i
greater (Some i) (Some j) = Some (max i j)

-- the greatest number of a type unknown of a type
abbrev mutual
  pub ty_greatest_number : Ty → Option ℕ
  ty_greatest_number (TyCon x Ts) = tys_greatest_number Ts
  ty_greatest_number (TyFixed x) = None
  ty_greatest_number (TyUnknown x i) = Some i

  pub tys_greatest_number : Tys → Option ℕ
  tys_greatest_number NoTys = None
  tys_greatest_number (MoreTys T Ts) = greater (ty_greatest_number T) (tys_greatest_number Ts)

-- the greatest number of an unknown or a type unknown of a term, where there is any
abbrev pub greatest_number : Tm → Option ℕ
greatest_number (Const x T) = ty_greatest_number T
greatest_number (Free x T) = ty_greatest_number T
greatest_number (Unknown x i T) = greater (Some i) (ty_greatest_number T)
greatest_number (Bound i) = None
greatest_number (Abs x T b) = greater (ty_greatest_number T) (greatest_number b)
greatest_number (App f a) = greater (greatest_number f) (greatest_number a)
