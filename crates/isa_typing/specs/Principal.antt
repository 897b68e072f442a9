-- Principal types: the most general typing of a text, its open types being type variables of new names.
-- Source: principal types (Damas and Milner, "Principal type-schemes for functional programs", 1982); names after Isabelle's.
use Rattle.std.specs.Prelude.{◌≡◌, ℕ, List, [], ◌∷◌, ◌++◌, Result, Ok, Err, false, if◌then◌else◌}
use Rattle.isa_terms.specs.Types.{Ty, TyFixed, TyUnknown}
use Rattle.isa_terms.specs.Terms.{Tm, Const, Free, Unknown, Bound, Abs, App}
use Rattle.isa_terms.specs.Equal.{name_eq}
use Rattle.isa_terms.specs.Generalize.{is_named}
use Rattle.isa_terms.specs.Norm.{norm}
use Rattle.isa_raw.specs.RawTerms.{Raw}
use Rattle.isa_typing.specs.Scopes.{Declared}
use Rattle.isa_typing.specs.Typings.{Variables, IsTyped}
use Rattle.isa_typing.specs.Marks.{ty_with, retyped}
use Rattle.isa_typing.specs.TextNames.{names_in_ty, names_in}
use Rattle.isa_typing.specs.NewNames.{AreFirstFree}
use Rattle.isa_typing.specs.declared.error.InferError.{InferError}
use Rattle.isa_typing.specs.declared.error.InferError.TheVariants.{Types, Memory}

-- the text may mean the term t
pub record IsTyping (declared : Declared) (u : Raw) (t : Tm) : Type 0 where
  pub variables : Variables
  pub typ : Ty
  pub typed : IsTyped declared variables [] u t typ

-- the type that stands beside the name, and else the type variable of that name
abbrev pub type_beside : List (List ℕ × Ty) → List ℕ → Ty
type_beside [] a = TyFixed a
type_beside (e ∷ es) a = if name_eq a e.0 then e.1 else type_beside es a

-- the type with the types for the type variables beside which they stand
abbrev pub with_types : List (List ℕ × Ty) → Ty → Ty
with_types es T = ty_with (type_beside es) TyUnknown T

-- the names of those pairs
abbrev pub names_of : List (List ℕ × Ty) → List (List ℕ)
names_of [] = []
names_of (e ∷ es) = e.0 ∷ names_of es

-- the type variables of a term's types, place by place from left to right, a binder's type before its body
abbrev pub variable_places : Tm → List (List ℕ)
variable_places (Const c T) = names_in_ty false T
variable_places (Free x T) = names_in_ty false T
variable_places (Unknown x i T) = names_in_ty false T
variable_places (Bound n) = []
variable_places (Abs x T b) = names_in_ty false T ++ variable_places b
variable_places (App f a) = variable_places f ++ variable_places a

-- the names with one behind them, unless it is one of them
abbrev pub noted_name : List (List ℕ) → List ℕ → List (List ℕ)
noted_name seen a = if is_named seen a then seen else (seen ++ a ∷ [])

-- those of the places that are among the names, each once by first occurrence, behind those that were seen
abbrev pub first_occurrences : List (List ℕ) → List (List ℕ) → List (List ℕ) → List (List ℕ)
first_occurrences names seen [] = seen
first_occurrences names seen (a ∷ places) = first_occurrences names (if is_named names a then noted_name seen a else seen) places

-- p is a typing, and each typing is p with types for type variables of these names, which are new to the text and
-- stand in the order in which they first occur in p
pub record IsMostGeneralTyping (declared : Declared) (u : Raw) (names : List (List ℕ)) (p : Tm) : Type 0 where
  pub is_typing : IsTyping declared u p
  pub are_new : AreFirstFree (names_in declared u) names
  pub in_order : first_occurrences names [] (variable_places p) ≡ names
  pub is_general : (t : Tm) → IsTyping declared u t → (es : List (List ℕ × Ty)) × ((names_of es ≡ names) × (t ≡ retyped (with_types es) p))

-- t is the principal term of the text: its most general typing in normal form
pub record IsPrincipal (declared : Declared) (u : Raw) (t : Tm) : Type 0 where
  pub typing : Tm
  pub names : List (List ℕ)
  pub is_most_general : IsMostGeneralTyping declared u names typing
  pub is_normal_form : t ≡ norm typing

-- the text has no typing
abbrev pub HasNoTyping : Declared → Raw → Type 0
HasNoTyping declared u = (t : Tm) → IsTyping declared u t → ⊥

-- the principal term is answered, and else that the types do not agree, where there was memory
abbrev pub Infers : Declared → Raw → Result Tm InferError → Type 0
Infers declared u (Ok t) = IsPrincipal declared u t
Infers declared u (Err Types) = HasNoTyping declared u
Infers declared u (Err Memory) = Unit {0}
