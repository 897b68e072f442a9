-- The type of a term, or the first place that breaks the rules.
-- Source: simply typed terms, as in Isabelle/Pure (The Isabelle/Isar Implementation Manual, "Primitive logic", "Terms"); which fault comes first is this project's.
use Rattle.std.specs.Prelude.{◌≡◌, ℕ, List, [], ◌∷◌, Option, Some, None, Result, Ok, Err, codes, slice_get, if◌then◌else◌}
use Rattle.isa_terms.specs.Types.{Ty, Tys, TyCon, TyFixed, TyUnknown, NoTys, MoreTys}
use Rattle.isa_terms.specs.Equal.{name_eq, ty_eq}
use Rattle.isa_terms.specs.Terms.{Tm, Const, Free, Unknown, Bound, Abs, App}
use Rattle.isa_terms.specs.declared.typing.Turn.{Turn}
use Rattle.isa_terms.specs.declared.typing.Turn.TheVariants.{Fun, Arg, Body}
use Rattle.isa_terms.specs.declared.typing.IllTyped.{IllTyped}
use Rattle.isa_terms.specs.declared.typing.IllTyped.TheVariants as error

-- the type of functions from A to B
abbrev pub function_of : Ty → Ty → Ty
function_of A B = TyCon (codes "fun") (MoreTys A (MoreTys B NoTys))

-- how a place of a term, given by the turns that lead to it, breaks the rules
pub data TypeFault : Type 0 where
  -- what is applied there has no type of functions
  NotFunction : (place : List Turn) (has : Ty) → TypeFault
  -- the function that is applied there wants an argument of another type than it has
  Differs : (place : List Turn) (wants : Ty) (has : Ty) → TypeFault
  -- the bound variable there has no binder
  Loose : (place : List Turn) (number : ℕ) → TypeFault

-- the same fault in a term whose part has it
abbrev pub deeper : Turn → Result Ty TypeFault → Result Ty TypeFault
deeper turn (Ok T) = Ok T
deeper turn (Err (NotFunction place has)) = Err (NotFunction (turn ∷ place) has)
deeper turn (Err (Differs place wants has)) = Err (Differs (turn ∷ place) wants has)
deeper turn (Err (Loose place number)) = Err (Loose (turn ∷ place) number)

-- the error that tells of the fault
abbrev pub told : TypeFault → IllTyped
told (NotFunction place has) = error.NotFunction place has
told (Differs place wants has) = error.Differs place wants has
told (Loose place number) = error.Loose place number

-- the answer is the wanted one, where there was memory
abbrev pub Meets : Result Ty IllTyped → Result Ty TypeFault → Type 0
Meets (Ok T) wanted = wanted ≡ Ok T
Meets (Err error.Memory) wanted = Unit {0}
Meets (Err (error.NotFunction place has)) wanted = wanted ≡ Err (NotFunction place has)
Meets (Err (error.Differs place wants has)) wanted = wanted ≡ Err (Differs place wants has)
Meets (Err (error.Loose place number)) wanted = wanted ≡ Err (Loose place number)

-- what a variable with that number has, where the binders give it a type
abbrev pub bound_type : ℕ → Option Ty → Result Ty TypeFault
bound_type number None = Err (Loose [] number)
bound_type number (Some T) = Ok T

-- what an abstraction over T has, by its body
abbrev pub abs_type : Ty → Result Ty TypeFault → Result Ty TypeFault
abs_type T (Ok B) = Ok (function_of T B)
abs_type T (Err fault) = Err fault

-- the domain and the range of a type of functions
abbrev pub two_args : Tys → Option (Ty × Ty)
two_args NoTys = None
two_args (MoreTys A NoTys) = None
two_args (MoreTys A (MoreTys B NoTys)) = Some (A, B)
two_args (MoreTys A (MoreTys B (MoreTys C rest))) = None

abbrev pub function_parts : Ty → Option (Ty × Ty)
function_parts (TyCon name args) = if name_eq name (codes "fun") then two_args args else None
function_parts (TyFixed name) = None
function_parts (TyUnknown name number) = None

-- what a function of type F, with those parts, gives at an argument of type A
abbrev pub given_type : Ty → Option (Ty × Ty) → Ty → Result Ty TypeFault
given_type F None A = Err (NotFunction [] F)
given_type F (Some parts) A = if ty_eq parts.0 A then Ok parts.1 else Err (Differs [] parts.0 A)

abbrev pub app_type : Result Ty TypeFault → Result Ty TypeFault → Result Ty TypeFault
app_type (Ok F) (Ok A) = given_type F (function_parts F) A
app_type (Ok F) (Err fault) = Err fault
app_type (Err fault) _ = Err fault

-- the type of a term under binders of those types, the innermost first
abbrev pub type_at : List Ty → Tm → Result Ty TypeFault
type_at G (Const x T) = Ok T
type_at G (Free x T) = Ok T
type_at G (Unknown x i T) = Ok T
type_at G (Bound n) = bound_type n (slice_get G n)
type_at G (Abs x T b) = abs_type T (deeper Body (type_at (T ∷ G) b))
type_at G (App f a) = app_type (deeper Fun (type_at G f)) (deeper Arg (type_at G a))

-- t is well typed, has the type T and no loose bound variable
abbrev pub HasType : Tm → Ty → Type 0
HasType t T = type_at [] t ≡ Ok T
