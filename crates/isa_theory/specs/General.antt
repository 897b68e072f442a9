-- Variables that become unknowns.
-- Source: the Isabelle/Isar Reference Manual, chapters "Specifications" and "Proofs": the variables of axioms and of stored lemmas are schematic, and so are the type variables of a constant's type.
use Rattle.std.specs.Prelude.{ℕ, List, [], ◌∷◌, ◌++◌}
use Rattle.isa_terms.specs.Types.{Ty, Tys, TyCon, TyFixed, TyUnknown, NoTys, MoreTys}
use Rattle.isa_terms.specs.Terms.{Tm, Const, Free, Unknown, Bound, Abs, App}
use Rattle.isa_terms.specs.Generalize.{gen_ty, gen_tm}

-- the names of the type variables
abbrev mutual
  pub type_names : Ty → List (List ℕ)
  type_names (TyCon x Ts) = types_names Ts
  type_names (TyFixed x) = x ∷ []
  type_names (TyUnknown x i) = []

  pub types_names : Tys → List (List ℕ)
  types_names NoTys = []
  types_names (MoreTys T Ts) = type_names T ++ types_names Ts

-- the names of the free variables and the type variables
abbrev pub variable_names : Tm → List (List ℕ)
variable_names (Const x T) = type_names T
variable_names (Free x T) = x ∷ type_names T
variable_names (Unknown x i T) = type_names T
variable_names (Bound i) = []
variable_names (Abs x T b) = type_names T ++ variable_names b
variable_names (App f a) = variable_names f ++ variable_names a

-- the type with unknowns for its type variables
abbrev pub general_type : Ty → Ty
general_type T = gen_ty (type_names T) T

-- the proposition with unknowns for its free variables and its type variables
abbrev pub general_prop : Tm → Tm
general_prop t = gen_tm (variable_names t) t
