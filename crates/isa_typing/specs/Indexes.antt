-- Indexes that stand beside lists.
use Rattle.std.specs.Prelude.{◌≡◌, ℕ, List, ◌&&◌, nat_eq, Some, None, if◌then◌else◌}
use Rattle.std.specs.List.{list_any}
use Rattle.std.specs.Option.{option_or}
use Rattle.isa_terms.specs.Types.{Ty, TyUnknown}
use Rattle.isa_terms.specs.Equal.{name_eq}
use Rattle.isa_terms.specs.Generalize.{is_named}
use Rattle.isa_terms.specs.Unknowns.{has_ty}
use Rattle.isa_terms.specs.Instance.{find_type}
use Rattle.isa_terms.specs.declared.inst.TypeEntry.{TypeEntry}
use Rattle.isa_typing.specs.Found.{Found}

-- the keys are the variables among the types
abbrev pub AreIndexed : List (List ℕ × ℕ) → List Ty → Type 0
AreIndexed ks Us = (x : List ℕ) (i : ℕ) → list_any (λ (k : List ℕ × ℕ). name_eq x k.0 && nat_eq i k.1) ks ≡ has_ty Us (TyUnknown x i)

-- the keys are the names
abbrev pub AreNamed : List (List ℕ) → List (List ℕ) → Type 0
AreNamed ks ns = (x : List ℕ) → list_any (name_eq x) ks ≡ is_named ns x

-- each variable has the type of its first entry
abbrev pub IndexesEntries : Found → List TypeEntry → Type 0
IndexesEntries F es = (x : List ℕ) (i : ℕ) → F x i ≡ find_type x i es

-- G is F with that type for that variable, unless F has one
abbrev pub PutsFirst : Found → List ℕ → ℕ → Ty → Found → Type 0
PutsFirst F x i T G = (y : List ℕ) (j : ℕ) → G y j ≡ option_or (F y j) (if name_eq y x && nat_eq j i then Some T else None)
