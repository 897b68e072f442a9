-- Whether a type is an instance of another: one-way matching, as in textbooks on unification.
use Rattle.std.specs.Prelude.{ℕ, List, [], ◌∷◌, ◌++◌, Bool, Option, Some, None, is_some, option_and_then, if◌then◌else◌}
use Rattle.isa_terms.specs.Types.{Ty, Tys, TyCon, TyFixed, TyUnknown, NoTys, MoreTys}
use Rattle.isa_terms.specs.Equal.{name_eq, ty_eq}
use Rattle.isa_terms.specs.Instance.{find_type}
use Rattle.isa_terms.specs.declared.inst.TypeEntry.{TypeEntry}

-- the types found so far, where the type unknown stands for T or for nothing yet
abbrev pub bound_to : List ℕ → ℕ → Ty → List TypeEntry → Option Ty → Option (List TypeEntry)
bound_to x i T found None = Some (found ++ record { name = x; number = i; typ = T } ∷ [])
bound_to x i T found (Some S) = if ty_eq S T then Some found else None

abbrev mutual
  -- the types found so far, and those for the type unknowns of S that make S the type T; the type unknowns of T stay
  pub matched : Ty → Ty → List TypeEntry → Option (List TypeEntry)
  matched (TyUnknown x i) T found = bound_to x i T found (find_type x i found)
  matched (TyFixed x) (TyFixed y) found = if name_eq x y then Some found else None
  matched (TyCon x Ss) (TyCon y Ts) found = if name_eq x y then all_matched Ss Ts found else None
  matched _ _ found = None

  pub all_matched : Tys → Tys → List TypeEntry → Option (List TypeEntry)
  all_matched NoTys NoTys found = Some found
  all_matched (MoreTys S Ss) (MoreTys T Ts) found = option_and_then (λ more. all_matched Ss Ts more) (matched S T found)
  all_matched _ _ found = None

-- whether T is an instance of S
abbrev pub is_instance : Ty → Ty → Bool
is_instance S T = is_some (matched S T [])
