-- The type of a term that is known to be well typed, by its head and the number of its arguments.
-- Source: simply typed terms (The Isabelle/Isar Implementation Manual, "Primitive logic", "Terms"; Isabelle's `Term.fastype_of`).
use Rattle.std.specs.Prelude.{List, ◌∷◌, Option, Some, option_map, option_and_then, slice_get}
use Rattle.isa_terms.specs.Types.{Ty}
use Rattle.isa_terms.specs.Terms.{Tm, Const, Free, Unknown, Bound, Abs, App}
use Rattle.isa_terms.specs.Typing.{HasType, function_of, function_parts}

-- t is well typed and has no loose bound variable
abbrev pub IsWellTyped : Tm → Type 0
IsWellTyped t = (T : Ty) × HasType t T

-- what functions of that type give
abbrev pub range_of : Ty → Option Ty
range_of F = option_map (λ (p : Ty × Ty). p.1) (function_parts F)

-- the type that the term has under binders of those types if it has one: no argument is looked at
abbrev pub head_type : List Ty → Tm → Option Ty
head_type G (Const x T) = Some T
head_type G (Free x T) = Some T
head_type G (Unknown x i T) = Some T
head_type G (Bound n) = slice_get G n
head_type G (Abs x T b) = option_map (λ B. function_of T B) (head_type (T ∷ G) b)
head_type G (App f a) = option_and_then range_of (head_type G f)
