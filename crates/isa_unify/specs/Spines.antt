-- Heads, arguments, and the variables to which an unknown is applied.
use Rattle.std.specs.Prelude.{ℕ, Bool, true, false, not, ◌&&◌, ◌||◌, nat_eq, if◌then◌else◌, List, [], ◌∷◌, ◌++◌, Option, Some, None, option_map, option_and_then}
use Rattle.isa_terms.specs.Terms.{Tm, Unknown, Bound, App}

-- what is applied to the arguments of a term
abbrev pub head_of : Tm → Tm
head_of (App f a) = head_of f
head_of t = t

-- the arguments, from left to right
abbrev pub args_of : Tm → List Tm
args_of (App f a) = args_of f ++ a ∷ []
args_of t = []

-- whether the head is an unknown
abbrev pub is_flexible : Tm → Bool
is_flexible (Unknown x i T) = true
is_flexible (App f a) = is_flexible f
is_flexible t = false

abbrev pub has_number : List ℕ → ℕ → Bool
has_number [] n = false
has_number (m ∷ ms) n = nat_eq m n || has_number ms n

abbrev pub are_distinct : List ℕ → Bool
are_distinct [] = true
are_distinct (n ∷ ns) = not (has_number ns n) && are_distinct ns

-- the numbers of the terms, where all are bound variables
abbrev pub bounds_of : List Tm → Option (List ℕ)
bounds_of [] = Some []
bounds_of (Bound n ∷ ts) = option_map (λ ns. n ∷ ns) (bounds_of ts)
bounds_of (t ∷ ts) = None

abbrev pub if_distinct : List ℕ → Option (List ℕ)
if_distinct ns = if are_distinct ns then Some ns else None

-- the numbers of the terms, where all are bound variables and no two are the same
abbrev pub distinct_bounds : List Tm → Option (List ℕ)
distinct_bounds ts = option_and_then if_distinct (bounds_of ts)
