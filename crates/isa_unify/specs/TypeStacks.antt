-- Stacks of equations of types, the top one last.
use Rattle.std.specs.Prelude.{◌≡◌, ℕ, Bool, true, false, List, [], ◌∷◌, ◌++◌, map, reverse, Option, ◌⊎◌, None, Some, option_map}
use Rattle.isa_terms.specs.Types.{Ty}
use Rattle.isa_terms.specs.Instance.{inst_ty, set_type}
use Rattle.isa_terms.specs.declared.inst.TypeEntry.{TypeEntry}
use Rattle.isa_unify.specs.declared.types.TypePair.{TypePair}
use Rattle.isa_unify.specs.Descent.{Done, Lighter, Solved}
use Rattle.isa_unify.specs.TypeUnification.{TypeState, type_step, ty_has, solved_by}

abbrev pub pair_of : TypePair → Ty × Ty
pair_of e = (e.left, e.right)

-- the equations on a stack, the top one first
abbrev pub stack_of : List TypePair → List (Ty × Ty)
stack_of es = reverse (map pair_of es)

-- the parts stand before the old equations, or there are none
abbrev pub Pushes : Bool → Option (List (Ty × Ty)) → List (Ty × Ty) → List (Ty × Ty) → Type 0
Pushes true parts old new = option_map (λ ps. ps ++ old) parts ≡ Some new
Pushes false parts old new = parts ≡ None

-- a type unknown that is solved in s, or stands in T
abbrev pub Solves : Bool → List ℕ → ℕ → Ty → TypeState → TypeState → Type 0
Solves true x i T s t = (ty_has x i T ≡ false) × (t ≡ solved_by x i T s.equations s.solution)
Solves false x i T s t = ty_has x i T ≡ true

-- from s a step leads on to t, or there is no unifier
abbrev pub Advances : Bool → TypeState → TypeState → Type 0
Advances true s t = (type_step s ≡ Lighter t) ⊎ (type_step s ≡ Solved t)
Advances false s t = type_step s ≡ Done None

-- the map with those entries, set from the last to the first
abbrev pub set_all : List TypeEntry → List TypeEntry → List TypeEntry
set_all s [] = s
set_all s (e ∷ es) = set_type e (set_all s es)

-- an entry before those that were found later, its type under them
abbrev pub found_before : TypeEntry → List TypeEntry → List TypeEntry
found_before e late = record e { typ = inst_ty late e.typ } ∷ late

-- the entries in the order in which they were found, each with its type under those that came later, here before the late ones
abbrev pub resolved_before : List TypeEntry → List TypeEntry → List TypeEntry
resolved_before late [] = late
resolved_before late (e ∷ es) = found_before e (resolved_before late es)

abbrev pub resolved : List TypeEntry → List TypeEntry
resolved es = resolved_before [] es
