-- Numbers for unknowns and type unknowns that are new to a rule.
-- Source: unknowns of one name told apart by numbers, as in Isabelle/Pure (The Isabelle/Isar Implementation Manual, "Names", "Indexed names"); that the least number is taken is this project's.
use Rattle.std.specs.Prelude.{◌≡◌, ℕ, zero, suc, ◌+◌, ◌<◌, nat_eq, List, [], ◌∷◌, length, Bool, true, false, ◌&&◌, ◌||◌, if◌then◌else◌}
use Rattle.isa_terms.specs.Types.{Ty, TyUnknown}
use Rattle.isa_terms.specs.Terms.{Tm, Unknown}
use Rattle.isa_terms.specs.Equal.{name_eq}

-- whether it is the unknown of that name and number, at any type
abbrev pub is_numbered : List ℕ → ℕ → Tm → Bool
is_numbered x i (Unknown y j T) = name_eq x y && nat_eq i j
is_numbered x i t = false

-- whether one of the unknowns has that name and number
abbrev pub is_taken : List Tm → List ℕ → ℕ → Bool
is_taken [] x i = false
is_taken (u ∷ us) x i = is_numbered x i u || is_taken us x i

-- the same of type unknowns
abbrev pub is_type_numbered : List ℕ → ℕ → Ty → Bool
is_type_numbered x i (TyUnknown y j) = name_eq x y && nat_eq i j
is_type_numbered x i T = false

abbrev pub is_type_taken : List Ty → List ℕ → ℕ → Bool
is_type_taken [] x i = false
is_type_taken (U ∷ Us) x i = is_type_numbered x i U || is_type_taken Us x i

-- the first of n numbers from i on that is not taken, or the one behind them
abbrev pub first_free : (ℕ → Bool) → ℕ → ℕ → ℕ
first_free taken zero i = i
first_free taken (suc n) i = if taken i then first_free taken n (i + 1) else i

-- the least number at which none of the unknowns has that name: of one number more than there are unknowns, one is not taken
abbrev pub least_number : List Tm → List ℕ → ℕ
least_number us x = first_free (is_taken us x) (length us) 0

-- the same for type unknowns
abbrev pub least_type_number : List Ty → List ℕ → ℕ
least_type_number Us x = first_free (is_type_taken Us x) (length Us) 0

-- it is the least number that is not taken
pub record IsLeastFree (taken : ℕ → Bool) (i : ℕ) : Type 0 where
  pub free : taken i ≡ false
  pub least : (j : ℕ) → j < i → taken j ≡ true

abbrev pub NumbersAreLeast : Type 0
NumbersAreLeast = ((us : List Tm) (x : List ℕ) → IsLeastFree (is_taken us x) (least_number us x)) × ((Us : List Ty) (x : List ℕ) → IsLeastFree (is_type_taken Us x) (least_type_number Us x))
