-- Patterns: terms whose unknowns are applied to distinct bound variables only.
-- Source: higher-order patterns (Miller, "A logic programming language with lambda-abstraction, function variables, and simple unification", 1991).
use Rattle.std.specs.Prelude.{ℕ, Bool, true, false, ◌||◌, ◌&&◌, not, nat_eq, if◌then◌else◌}
use Rattle.isa_terms.specs.Terms.{Tm, Unknown, Bound, Abs, App}
use Rattle.isa_terms.specs.Order.{head_of}

abbrev pub is_unknown : Tm → Bool
is_unknown (Unknown x i T) = true
is_unknown _ = false

abbrev pub is_bound : ℕ → Tm → Bool
is_bound i (Bound j) = nat_eq i j
is_bound i _ = false

-- whether the bound variable is an argument
abbrev pub is_argument : ℕ → Tm → Bool
is_argument i (App f a) = is_bound i a || is_argument i f
is_argument i _ = false

-- whether the term is a bound variable that is no argument of f
abbrev pub is_new_bound : Tm → Tm → Bool
is_new_bound f (Bound i) = not (is_argument i f)
is_new_bound f _ = false

-- whether the arguments are distinct bound variables
abbrev pub distinct_args : Tm → Bool
distinct_args (App f a) = is_new_bound f a && distinct_args f
distinct_args _ = true

-- whether each unknown is applied to distinct bound variables only
abbrev pub is_pattern : Tm → Bool
is_pattern (App f a) = if is_unknown (head_of f) then distinct_args (App f a) else (is_pattern f && is_pattern a)
is_pattern (Abs x T b) = is_pattern b
is_pattern _ = true
