-- Typing as a relation.
-- Source: simply typed terms (textbooks on the typed lambda calculus).
use Rattle.std.specs.Prelude.{◌≡◌, ℕ, List, ◌∷◌, Some, slice_get}
use Rattle.isa_terms.specs.Types.{Ty}
use Rattle.isa_terms.specs.Terms.{Tm, Const, Free, Unknown, Bound, Abs, App}
use Rattle.isa_terms.specs.Typing.{function_of}

-- t has the type T under binders of the types G
pub data Typed : List Ty → Tm → Ty → Type 0 where
  TConst : {G : List Ty} {x : List ℕ} {T : Ty} → Typed G (Const x T) T
  TFree : {G : List Ty} {x : List ℕ} {T : Ty} → Typed G (Free x T) T
  TUnknown : {G : List Ty} {x : List ℕ} {i : ℕ} {T : Ty} → Typed G (Unknown x i T) T
  TBound : {G : List Ty} {n : ℕ} {T : Ty} → slice_get G n ≡ Some T → Typed G (Bound n) T
  TAbs : {G : List Ty} {x : List ℕ} {S T : Ty} {b : Tm} → Typed (S ∷ G) b T → Typed G (Abs x S b) (function_of S T)
  TApp : {G : List Ty} {S T : Ty} {f a : Tm} → Typed G f (function_of S T) → Typed G a S → Typed G (App f a) T
