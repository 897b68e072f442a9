-- Laws of the canonical form and of its names.
-- Source: a standard form is reached once (Isabelle's `zero_var_indexes` changes nothing a second time); the bounds are this project's.
use Rattle.std.specs.Prelude.{◌≡◌, ℕ, ◌+◌, ◌^◌, ◌<◌, ◌≤◌, List, length, true, false}
use Rattle.isa_terms.specs.Generalize.{is_named}
use Rattle.isa_terms.specs.Unknowns.{unknowns_of, type_unknowns_of}
use Rattle.isa_goal.specs.Goals.{Goals, IsStanding}
use Rattle.isa_goal.specs.Names.{numbered, type_numbered, next_number, next_type_number, free_names, fixed_names, terms_of, normalised, reshaped, canon}

-- from n on, m is the least number whose name is none of the names
pub record IsLeastFree (name : ℕ → List ℕ) (names : List (List ℕ)) (n m : ℕ) : Type 0 where
  pub from : n ≤ m
  pub free : is_named names (name m) ≡ false
  pub taken : (k : ℕ) → n ≤ k → k < m → is_named names (name k) ≡ true

-- such are the numbers that unknowns and type unknowns get, as long as their texts differ
abbrev pub NumbersAreLeast : Type 0
NumbersAreLeast = (names : List (List ℕ)) (n : ℕ) → n + length names < 2 ^ 64 → IsLeastFree numbered names n (next_number names n) × IsLeastFree type_numbered names n (next_type_number names n)

-- fewer than 2 ^ 32 unknowns and type unknowns, and fewer than 2 ^ 31 names of free and of type variables in the goal
pub record HasFewNames (s : Goals) : Type 0 where
  pub unknowns : length (unknowns_of (terms_of s)) < 2 ^ 32
  pub type_unknowns : length (type_unknowns_of (terms_of s)) < 2 ^ 32
  pub free : length (free_names s.goal) < 2 ^ 31
  pub fixed : length (fixed_names s.goal) < 2 ^ 31

-- the canonical form is its own canonical form
abbrev pub CanonIsIdempotent : Type 0
CanonIsIdempotent = (s : Goals) → IsStanding s → HasFewNames (reshaped (normalised s)) → canon (canon s) ≡ canon s
