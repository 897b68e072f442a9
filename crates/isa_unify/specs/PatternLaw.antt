-- On patterns unification is never outside, but for the limit on new unknowns.
-- Source: unification of patterns always ends with a most general unifier or with none (Miller, 1991; Nipkow, 1993).
use Rattle.std.specs.Prelude.{◌≡◌, ℕ, ◌+◌, true, List, [], ◌∷◌, Some}
use Rattle.isa_terms.specs.Normal.{IsNormal}
use Rattle.isa_terms.specs.Pattern.{is_pattern}
use Rattle.isa_terms.specs.declared.inst.TypeEntry.{TypeEntry}
use Rattle.isa_unify.specs.declared.equation.Equation.{Equation}
use Rattle.isa_unify.specs.declared.progress.State.{State}
use Rattle.isa_unify.specs.declared.progress.Answer.TheVariants.{Outside}
use Rattle.isa_unify.specs.Descent.{Step, Done, Lighter, Solved}
use Rattle.isa_unify.specs.TypeUnification.{unify_typs}
use Rattle.isa_unify.specs.Unification.{all_types, retyped_state, new_unknowns, start, unify_step, unify}

-- the steps lead to t
pub data LeadsTo {S A : Type 0} (step : S → Step S A) (t : S) : S → Type 0 where
  arrived : LeadsTo step t t
  by_lighter : {s : S} (u : S) → step s ≡ Lighter u → LeadsTo step t u → LeadsTo step t s
  by_solved : {s : S} (u : S) → step s ≡ Solved u → LeadsTo step t u → LeadsTo step t s

-- the sides of each equation are patterns in normal form
abbrev pub ArePatterns : List Equation → Type 0
ArePatterns [] = Unit {0}
ArePatterns (e ∷ es) = ((IsNormal e.left × (is_pattern e.left ≡ true)) × (IsNormal e.right × (is_pattern e.right ≡ true))) × ArePatterns es

-- The steps lead to a state where all the numbers from k on, a million of them, were taken for new unknowns, and one more is needed.
pub record NeedsMore (es : List Equation) (k : ℕ) : Type 0 where
  pub types : List TypeEntry
  pub unifier : unify_typs (all_types es) ≡ Some types
  pub state : State
  pub reached : LeadsTo unify_step state (retyped_state types (start es k))
  pub taken : state.next ≡ k + new_unknowns
  pub none_left : state.left ≡ 0
  pub ends : unify_step state ≡ Done Outside

-- on patterns the answer is Outside only there
abbrev pub PatternsAreInside : Type 0
PatternsAreInside = (es : List Equation) (k : ℕ) → ArePatterns es → unify es k ≡ Outside → NeedsMore es k
