-- What a name stands for.
-- Source: scopes of names in Isabelle/Pure (The Isabelle/Isar Implementation Manual, "Terms").
use Rattle.std.specs.Prelude.{ℕ, ◌+◌, List, [], ◌∷◌, Option, Some, None, option_map, if◌then◌else◌}
use Rattle.std.specs.Map.{lookup}
use Rattle.isa_terms.specs.Types.{Ty}
use Rattle.isa_terms.specs.Equal.{name_eq}

-- the general types of the declared constants
abbrev pub Declared : Type 0
Declared = List ℕ → Option Ty

abbrev pub declared_in : List (List ℕ × Ty) → Declared
declared_in entries x = lookup (name_eq x) entries

-- the binders round a place with the types of their variables, the innermost first
abbrev pub Scope : Type 0
Scope = List (List ℕ × Ty)

-- the number of the innermost bound variable of that name, with its type
abbrev pub bound_at : List ℕ → Scope → Option (ℕ × Ty)
bound_at x [] = None
bound_at x (b ∷ bs) = if name_eq x b.0 then Some (0, b.1) else option_map (λ (p : ℕ × Ty). (p.0 + 1, p.1)) (bound_at x bs)
