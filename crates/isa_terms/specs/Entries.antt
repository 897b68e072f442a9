-- Lists of entries as maps.
use Rattle.std.specs.Prelude.{◌≡◌, ℕ, ◌+◌, List, [], ◌∷◌, Bool, false, ◌||◌, Option, Some, None, if◌then◌else◌}

-- the list with the item in the place of the first that passes the test, or behind all where none does
abbrev pub set_first : {A : Type 0} → (A → Bool) → A → List A → List A
set_first test a [] = a ∷ []
set_first test a (e ∷ es) = if test e then (a ∷ es) else (e ∷ set_first test a es)

-- where the first item stands that passes the test, the first of the list being counted as k
abbrev pub first_place : {A : Type 0} → (A → Bool) → ℕ → List A → Option ℕ
first_place test k [] = None
first_place test k (e ∷ es) = if test e then Some k else first_place test (k + 1) es

-- whether an item passes the test
abbrev pub passes : {A : Type 0} → (A → Bool) → List A → Bool
passes test [] = false
passes test (e ∷ es) = test e || passes test es

-- no two items are the same
abbrev pub Once : {A : Type 0} → (A → A → Bool) → List A → Type 0
Once same [] = Unit {0}
Once same (e ∷ es) = (passes (same e) es ≡ false) × Once same es
