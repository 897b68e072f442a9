-- What is answered follows.
use Rattle.std.proofs.Common.{◌≡◌, ap, ◌∙◌, ℕ, List, [], ◌∷◌, inl, inr, subst}
use Rattle.isa_kernel.specs.Axioms.{propositions}
use Rattle.isa_kernel.specs.Theorem.{Theorem, AreDerived}
use Rattle.isa_goal.specs.Goals.{Goals}
use Rattle.isa_goal.specs.Follows.{Advances}
use Rattle.isa_seq.specs.declared.event.Answer.{Answer}
use Rattle.isa_seq.specs.declared.event.Answer.TheVariants.{State, NoMore, NoMoreOutside, Spent}
use Rattle.isa_seq.specs.declared.tac.TacNode.{TacNode, Goal}
use Rattle.isa_seq.specs.Traces.{Trace, deepen}
use Rattle.isa_seq.specs.Tactics.{trace}
use Rattle.isa_seq.specs.Asking.{ask_of}
use Rattle.isa_seq.specs.Meaning.{IsMember, AreSound, is_solved}
use Rattle.isa_seq.specs.Results.{primitives, LeadsToAnswer}
use Rattle.isa_seq_states.specs.Introductions.{base_of_all, rule_primitives, FollowsIfAnswered, depth_first_answer}

-- an answer by the primitives of an expression is one by its rules
pub answered : (t : TacNode (List Theorem)) (rules : List Theorem) (s : Goals) (a : Answer Goals) → primitives t ≡ rules ∷ [] → LeadsToAnswer rule_primitives t s a → FollowsIfAnswered (base_of_all (rules ∷ [])) s a
answered t rules s (State r) e h = subst (λ ps. Advances (propositions (base_of_all ps)) s r) e h.0
answered t rules s NoMore e h = tt
answered t rules s (NoMoreOutside n) e h = tt
answered t rules s Spent e h = tt

-- the only list of rules is sound
pub rules_sound : (rules p : List Theorem) → AreDerived rules → IsMember p (rules ∷ []) → AreDerived p
rules_sound rules p h (inl e) = subst (λ x. AreDerived x) e h
rules_sound rules p h (inr m) = absurd m

-- an answer within the trace of the search
pub searched : (rules : List Theorem) (s : Goals) (budget : ℕ) (u t : TacNode (List Theorem)) (a : Answer Goals) → trace rule_primitives t s 1 ≡ deepen (is_solved rule_primitives) (λ r. trace rule_primitives u r 1) s → u ≡ Goal rules → a ≡ ask_of budget 0 (trace rule_primitives t s 1 budget) → a ≡ depth_first_answer rules s budget
unfolding trace
searched rules s budget u t a e f h =
    h ∙ ap (λ (x : Trace Goals). ask_of budget 0 (x budget)) (e ∙ ap (λ (n : TacNode (List Theorem)). deepen (is_solved rule_primitives) (λ r. trace rule_primitives n r 1) s) f)
