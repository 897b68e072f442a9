-- The type variables of a text.
-- Source: variables of a context in Isabelle/Pure (The Isabelle/Isar Implementation Manual, "Names").
use Rattle.std.specs.Prelude.{ℕ, List, [], ◌∷◌, ◌++◌, Bool, true, false, Option, Some, None, if◌then◌else◌}
use Rattle.isa_terms.specs.Types.{Ty, Tys, TyCon, TyFixed, TyUnknown, NoTys, MoreTys}
use Rattle.isa_raw.specs.RawTerms.{Raw, RawName, RawUnknown, RawConst, RawTyped, RawAbs, RawApp}
use Rattle.isa_typing.specs.Scopes.{Declared}

-- the names of a type's type variables, and of its type unknowns too where they are asked for
abbrev mutual
  pub names_in_ty : Bool → Ty → List (List ℕ)
  names_in_ty b (TyCon c Ts) = names_in_tys b Ts
  names_in_ty b (TyFixed a) = a ∷ []
  names_in_ty b (TyUnknown x i) = if b then (x ∷ []) else []

  pub names_in_tys : Bool → Tys → List (List ℕ)
  names_in_tys b NoTys = []
  names_in_tys b (MoreTys T Ts) = names_in_ty b T ++ names_in_tys b Ts

abbrev pub names_if_any : Bool → Option Ty → List (List ℕ)
names_if_any b None = []
names_if_any b (Some T) = names_in_ty b T

-- the names of the type variables and type unknowns that the text writes, and of type variables in the declared types of
-- its constants, which have none where declarations are general
abbrev pub names_in : Declared → Raw → List (List ℕ)
names_in declared (RawName x) = names_if_any false (declared x)
names_in declared (RawUnknown x) = []
names_in declared (RawConst c) = names_if_any false (declared c)
names_in declared (RawTyped r T) = names_in declared r ++ names_in_ty true T
names_in declared (RawAbs x o r) = names_if_any true o ++ names_in declared r
names_in declared (RawApp f a) = names_in declared f ++ names_in declared a
