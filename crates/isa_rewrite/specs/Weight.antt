-- A number that falls from a term to the terms by which it is simplified, those of congruence rules included: an atom has the size of its type.
-- Source: this project.
use Rattle.std.specs.Prelude.{ℕ, ◌+◌, List, [], ◌∷◌, Option, Some, None, slice_get}
use Rattle.isa_terms.specs.Types.{Ty, ty_depth}
use Rattle.isa_terms.specs.Terms.{Tm, Const, Free, Unknown, Bound, Abs, App}

abbrev pub variable_weight : Option Ty → ℕ
variable_weight None = 1
variable_weight (Some T) = ty_depth T

-- the weight under binders of those types, the innermost first
abbrev pub weight_at : List Ty → Tm → ℕ
weight_at G (Const x T) = ty_depth T
weight_at G (Free x T) = ty_depth T
weight_at G (Unknown x i T) = ty_depth T
weight_at G (Bound n) = variable_weight (slice_get G n)
weight_at G (Abs x T b) = weight_at (T ∷ G) b + 1
weight_at G (App f a) = weight_at G f + weight_at G a + 1

abbrev pub weight : Tm → ℕ
weight t = weight_at [] t
