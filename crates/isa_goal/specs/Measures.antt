-- When two states are the same, and how far a state is from a solved one.
-- Source: the size of a state, as Isabelle's best-first search compares states by `size_of_thm`; that only subgoals count is this project's.
use Rattle.std.specs.Prelude.{ℕ, ◌+◌, ◌-◌, ◌^◌, min, List, [], ◌∷◌, Bool, true, false, ◌&&◌}
use Rattle.isa_terms.specs.Terms.{Tm, tm_size}
use Rattle.isa_terms.specs.Equal.{tm_eq}
use Rattle.isa_goal.specs.Goals.{Goals}

-- as many terms, each equal to the one at its place
abbrev pub same_terms : List Tm → List Tm → Bool
same_terms [] [] = true
same_terms (t ∷ ts) (u ∷ us) = tm_eq t u && same_terms ts us
same_terms _ _ = false

-- equal subgoals and an equal goal
abbrev pub same_state : Goals → Goals → Bool
same_state s t = same_terms s.subgoals t.subgoals && tm_eq s.goal t.goal

abbrev pub total_size : List Tm → ℕ
total_size [] = 0
total_size (t ∷ ts) = tm_size t + total_size ts

-- the sum of the subgoals' sizes, which stops at the greatest u64
abbrev pub measure : Goals → ℕ
measure s = min (total_size s.subgoals) (2 ^ 64 - 1)
