-- What is asked of a method: the result of some rank of its trace on a state.
-- Source: lazy sequences of next states, as Isabelle's proof methods give them (The Isabelle/Isar Implementation Manual, "Tactics"); budgets of ticks are this project's own.
use Rattle.std.specs.Prelude.{ℕ, List, [], ◌∷◌, map}
use Rattle.isa_goal.specs.Goals.{Goals}
use Rattle.isa_goal.specs.Resolving.{results}
use Rattle.isa_goal.specs.declared.found.Found.{Found}
use Rattle.isa_goal.specs.declared.found.Found.TheVariants as found
use Rattle.isa_seq.specs.declared.event.Event.{Event}
use Rattle.isa_seq.specs.declared.event.Event.TheVariants.{Tick, Outside, Res}
use Rattle.isa_seq.specs.declared.event.Answer.{Answer}
use Rattle.isa_seq.specs.Traces.{Trace, nothing}
use Rattle.isa_seq.specs.Asking.{prepend, ask_of}
use Rattle.isaprove.specs.declared.session.Tried.{Tried}
use Rattle.isaprove.specs.declared.session.Tried.TheVariants.{Opening, Matching}
use Rattle.isaprove.specs.declared.session.TheConstants.{BUDGET}

abbrev pub event_of : Found → Event Goals
event_of found.Outside = Outside
event_of (found.Res s) = Res s

-- What was tried, on a state: a lemma's opening gives the state itself. `match` gives a tick, and then what the rules give at the first subgoal.
abbrev pub trace_of : Tried → Goals → Trace Goals
trace_of Opening s = prepend (Res s ∷ []) nothing
trace_of (Matching rules) s = prepend (Tick ∷ map event_of (results 1 rules s)) nothing

-- the answer to the question for the result behind k others, within the budget
unfoldable pub answer_at : Tried → Goals → ℕ → Answer Goals
answer_at tried s k = ask_of BUDGET k (trace_of tried s BUDGET)
