-- A subgoal alone, and what comes of it put back.
-- Source: a tactic on one subgoal alone, as Isabelle's `SELECT_GOAL` (The Isabelle/Isar Implementation Manual, "Tactical reasoning").
use Rattle.std.specs.Prelude.{ℕ, ◌-◌, List, [], ◌∷◌, ◌++◌, take, drop, length, Option, Some, ◌≡◌}
use Rattle.isa_terms.specs.Terms.{Tm}
use Rattle.isa_kernel.specs.Forms.{◌>>=◌}
use Rattle.isa_goal.specs.Goals.{Goals, around, IsStanding}
use Rattle.isa_subgoal.specs.Premises.{implies, leading}
use Rattle.isa_goal.specs.Names.{canon}
use Rattle.isa_goal.specs.Follows.{Follows}

-- subgoal i alone; the goal is the other subgoals in order, `==>`, and the goal of s
abbrev pub focused : ℕ → Goals → Option Goals
focused i s = do
  at ← around i s.subgoals
  Some (record { subgoals = at.1 ∷ []; goal = implies (at.0 ++ at.2) s.goal; base = s.base })

-- so many premises taken out of the goal, or all where there are fewer, and the subgoals behind the first of them
abbrev pub put_back : ℕ → ℕ → Goals → Goals
put_back others front s = record {
  subgoals = take front (leading others s.goal).0 ++ (s.subgoals ++ drop front (leading others s.goal).0);
  goal = (leading others s.goal).1;
  base = s.base;
}

-- as many premises out of the goal of `inner` as s has other subgoals, and the subgoals of `inner` behind the first i - 1 of them
abbrev pub unfocused : Goals → Goals → ℕ → Goals
unfocused s inner i = put_back (length s.subgoals - 1) (i - 1) inner

-- what follows from a subgoal alone follows from the state when it is put back
abbrev pub UnfocusFollows : Type 0
UnfocusFollows = (ax : List Tm) (i : ℕ) (s alone inner : Goals) → focused i s ≡ Some alone → IsStanding s → IsStanding inner → Follows ax (canon alone) inner → Follows ax s (canon (unfocused s inner i))
