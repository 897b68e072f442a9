-- What introductions by rules mean as primitives of method expressions.
-- Source: tactics that apply the first of a list of rules by matching, as Isabelle's `match_tac` (The Isabelle/Isar Implementation Manual, "Tactical reasoning"); the tick and the limits are this project's.
use Rattle.std.specs.Prelude.{◌≡◌, ℕ, length, not, ◌&&◌, Bool, false, if◌then◌else◌, List, [], ◌∷◌, Option, Some, None, option_map}
use Rattle.isa_kernel.specs.declared.base.BaseEntry.{BaseEntry}
use Rattle.isa_kernel.specs.Axioms.{joined_bases, propositions}
use Rattle.isa_kernel.specs.Theorem.{Theorem, AreDerived}
use Rattle.isa_goal.specs.declared.found.Found.{Found}
use Rattle.isa_goal.specs.declared.found.Found.TheVariants.{Outside, Res}
use Rattle.isa_goal.specs.Goals.{Goals, IsStanding, has_parameter}
use Rattle.isa_goal.specs.Follows.{Advances, IsNormalState}
use Rattle.isa_goal.specs.Names.{canon}
use Rattle.isa_goal.specs.Counted.{rules_have_counted}
use Rattle.isa_goal.specs.Focus.{focused, unfocused}
use Rattle.isa_goal.specs.Measures.{same_state, measure}
use Rattle.isa_goal.specs.Resolving.{Search, results, left, base_of, all_first_order}
use Rattle.isa_seq.specs.declared.event.Event.TheVariants as variant
use Rattle.isa_seq.specs.declared.event.Answer.{Answer}
use Rattle.isa_seq.specs.declared.event.Answer.TheVariants.{State, NoMore, NoMoreOutside, Spent}
use Rattle.isa_seq.specs.Traces.{Trace, nothing, event, deepen}
use Rattle.isa_seq.specs.Meaning.{Primitives, Meaning, is_solved}
use Rattle.isa_seq.specs.Asking.{ask_of}
use Rattle.isa_seq_states.specs.declared.run.Run.{Run}

-- what is found, in its order
abbrev pub found_trace : List Found → Trace Goals
found_trace [] = nothing
found_trace (Outside ∷ fs) = event variant.Outside (found_trace fs)
found_trace (Res t ∷ fs) = event (variant.Res t) (found_trace fs)

-- whether the rules may be tried at subgoal i: each conclusion is first-order, no free variable of theirs is named `:` and digits, and the subgoal has no parameter
abbrev pub may_try : List Theorem → Goals → ℕ → Bool
may_try rules s i = all_first_order rules && not (rules_have_counted rules) && not (has_parameter i s)

-- Tick, and then what the rules give at subgoal i, where they may be tried
abbrev pub introduced : List Theorem → Goals → ℕ → Trace Goals
introduced rules s i = event variant.Tick (if may_try rules s i then found_trace (results i rules s) else nothing)

-- the state, or s where there is none
abbrev pub state_or : Goals → Option Goals → Goals
state_or s None = s
state_or s (Some t) = t

-- a state whose goal follows from its subgoals, in normal form
pub record IsSoundState (s : Goals) : Type 0 where
  pub standing : IsStanding s
  pub normal : IsNormalState s

-- the axioms of lists of rules
abbrev pub base_of_all : List (List Theorem) → List BaseEntry
base_of_all [] = []
base_of_all (rules ∷ all) = joined_bases (base_of rules) (base_of_all all)

-- Introductions: rules are sound that are derived, and they lead to what follows by their axioms.
abbrev pub rule_primitives : Primitives Goals (List Theorem)
rule_primitives = record {
  trace = introduced;
  subgoals = λ s. length s.subgoals;
  same = same_state;
  measure = measure;
  focus = λ s i. state_or s (option_map canon (focused i s));
  unfocus = λ s inner i. canon (unfocused s inner i);
  is_sound_state = IsSoundState;
  is_sound_primitive = AreDerived;
  leads = λ ps s t. Advances (propositions (base_of_all ps)) s t;
}

-- what a search still gives
abbrev pub left_of : Option Search → Trace Goals
left_of None = nothing
left_of (Some search) = found_trace (left search)

-- memory was not wanting
abbrev pub IsRunning : Option Search → Type 0
IsRunning None = Unit {0}
IsRunning (Some search) = search.failed ≡ false

abbrev pub introductions : Meaning Goals (List Theorem) Run
introductions = record {
  primitives = rule_primitives;
  rest = λ run. if run.ticked then left_of run.search else event variant.Tick (left_of run.search);
  fits = λ run. IsRunning run.search;
}

-- a state that is answered follows from s by these axioms
abbrev pub FollowsIfAnswered : List BaseEntry → Goals → Answer Goals → Type 0
FollowsIfAnswered base s (State t) = Advances (propositions base) s t
FollowsIfAnswered base s NoMore = Unit {0}
FollowsIfAnswered base s (NoMoreOutside n) = Unit {0}
FollowsIfAnswered base s Spent = Unit {0}

-- the answer of a search by the rules, depth first, at subgoal 1 of each state, if fewer than `budget` ticks stand before it
abbrev pub depth_first_answer : List Theorem → Goals → ℕ → Answer Goals
depth_first_answer rules s budget = ask_of budget 0 (deepen (is_solved rule_primitives) (λ r. introduced rules r 1) s budget)
