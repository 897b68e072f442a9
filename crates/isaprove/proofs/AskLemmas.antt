-- What is asked of a search.
use Rattle.std.proofs.Common.{◌≡◌, ℕ, zero, suc, ◌+◌, ◌-◌, ◌^◌, ◌<◌, ◌≤◌, ◌==◌, min, Bool, true, false, cond, List, [], ◌∷◌, map, length, Option, Some, None, Ok, refl, sym, ap, subst, ◌∙◌, arith, add-one, lit<}
use Rattle.isa_kernel.specs.Theorem.{Theorem}
use Rattle.isa_goal.specs.Goals.{Goals}
use Rattle.isa_goal.specs.Resolving.{Search, Steps, started_search, left, results}
use Rattle.isa_goal.specs.declared.found.Found.{Found}
use Rattle.isa_goal.specs.declared.found.Found.TheVariants as found
use Rattle.isa_seq.specs.declared.event.Event.{Event}
use Rattle.isa_seq.specs.declared.event.Event.TheVariants.{Tick, Outside, Res}
use Rattle.isa_seq.specs.declared.event.Answer.{Answer}
use Rattle.isa_seq.specs.declared.event.Answer.TheVariants.{State, NoMore, NoMoreOutside, Spent}
use Rattle.isa_seq.specs.Traces.{Trace, nothing, event}
use Rattle.isa_seq.specs.Asking.{prepend, ask_of, answer_or, result_after, count_of_ticks, count_of_outsides, at_end}
use Rattle.isaprove.specs.declared.session.Tried.{Tried}
use Rattle.isaprove.specs.declared.session.Tried.TheVariants.{Opening, Matching}
use Rattle.isaprove.specs.declared.session.TheConstants.{BUDGET}
use Rattle.isaprove.specs.Asking.{event_of, trace_of, answer_at}
use Rattle.isaprove.specs.Searches.{found_after}
use Rattle.isaprove.proofs.Standing.{AllNext, IsNext}

abbrev pub events : List Found → List (Event Goals)
events fs = map event_of fs

-- events without ticks are all seen before the first tick
no_ticks : (fs : List Found) (n : ℕ) → prepend (events fs) nothing (suc n) ≡ events fs
unfolding event nothing
no_ticks [] n = refl
no_ticks (found.Outside ∷ fs) n = ap (λ (es : List (Event Goals)). Outside ∷ es) (no_ticks fs n)
no_ticks (found.Res s ∷ fs) n = ap (λ (es : List (Event Goals)). Res s ∷ es) (no_ticks fs n)

-- one tick, and then they are seen
one_tick : (fs : List Found) (n : ℕ) → prepend (Tick ∷ events fs) nothing (suc (suc n)) ≡ Tick ∷ events fs
unfolding event
one_tick fs n = ap (λ (es : List (Event Goals)). Tick ∷ es) (no_ticks fs n)

ticks_of : (fs : List Found) → count_of_ticks (events fs) ≡ 0
ticks_of [] = refl
ticks_of (found.Outside ∷ fs) = ticks_of fs
ticks_of (found.Res s ∷ fs) = ticks_of fs

-- the answer where there may be a result, and where there is none
answer_in : Option Goals → Answer Goals → Answer Goals
answer_in (Some s) end = State s
answer_in None end = end

more_outside : (o n : ℕ) → min (min (o + 1) (2 ^ 64 - 1) + n) (2 ^ 64 - 1) ≡ min (o + suc n) (2 ^ 64 - 1)
more_outside o n = omega arith

found_in : (k o : ℕ) (fs : List Found) → o ≤ 2 ^ 64 - 1 → found_after k o fs ≡ answer_in (result_after k (events fs)) (at_end (min (o + count_of_outsides (events fs)) (2 ^ 64 - 1)))
unfolding answer_in
found_in k o [] h = ap at_end (omega (arith, h))
found_in k o (found.Outside ∷ fs) h =
    found_in k (min (o + 1) (2 ^ 64 - 1)) fs (omega arith)
    ∙ ap (λ (n : ℕ). answer_in (result_after k (events fs)) (at_end n)) (more_outside o (count_of_outsides (events fs)))
found_in zero o (found.Res s ∷ fs) h = refl
found_in (suc k) o (found.Res s ∷ fs) h = found_in k o fs h

spent_not : (b : Bool) (e : Answer Goals) → b ≡ false → cond b Spent e ≡ e
spent_not b e h = ap (λ (x : Bool). cond x Spent e) h

answer_is : (o : Option Goals) (n : ℕ) (es : List (Event Goals)) → (count_of_ticks es == BUDGET) ≡ false → answer_or o BUDGET n es ≡ answer_in o (at_end (min (n + count_of_outsides es) (2 ^ 64 - 1)))
unfolding answer_in
answer_is None n es h = spent_not (count_of_ticks es == BUDGET) (at_end (min (n + count_of_outsides es) (2 ^ 64 - 1))) h
answer_is (Some s) n es h = refl

-- what is asked of the rules
matching_is : (rules : List Theorem) (s : Goals) (k : ℕ) → answer_at (Matching rules) s k ≡ answer_or (result_after k (events (results 1 rules s))) BUDGET 0 (Tick ∷ events (results 1 rules s))
unfolding answer_at
matching_is rules s k = ap (λ (es : List (Event Goals)). ask_of BUDGET k es) (one_tick (results 1 rules s) 199998)

pub matching_asked : (rules : List Theorem) (s : Goals) (k : ℕ) → answer_at (Matching rules) s k ≡ found_after k 0 (results 1 rules s)
matching_asked rules s k =
    let fs : List Found = results 1 rules s in
    let one : (count_of_ticks (Tick ∷ events fs) == BUDGET) ≡ false = ap (λ (n : ℕ). suc n == BUDGET) (ticks_of fs) in
    matching_is rules s k ∙ answer_is (result_after k (events fs)) 0 (Tick ∷ events fs) one ∙ sym (found_in k 0 fs (omega arith))

-- what is asked of an opening
pub opening_first : (s : Goals) → answer_at Opening s 0 ≡ State s
unfolding answer_at event nothing
opening_first s = refl

opening_suc : (s : Goals) (k : ℕ) → answer_at Opening s (suc k) ≡ NoMore
unfolding answer_at event nothing
opening_suc s k = refl

pub opening_no_more : (s : Goals) (k : ℕ) → 0 < k → answer_at Opening s k ≡ NoMore
opening_no_more s zero h = absurd (omega arith)
opening_no_more s (suc k) h = opening_suc s k

-- a state that is answered was found
pub found_next : (ax : List _) (s t : Goals) (k o : ℕ) (fs : List Found) → AllNext ax s fs → found_after k o fs ≡ State t → IsNext ax s t
found_next ax s t k zero [] a e = absurd (cc (e))
found_next ax s t k (suc o) [] a e = absurd (cc (e))
found_next ax s t k o (found.Outside ∷ fs) a e = found_next ax s t k (min (o + 1) (2 ^ 64 - 1)) fs a e
found_next ax s t zero o (found.Res u ∷ fs) a e = let same : u ≡ t = cc (e) in subst (λ (x : Goals). IsNext ax s x) same a.0
found_next ax s t (suc k) o (found.Res u ∷ fs) a e = found_next ax s t k o fs a.1 e

pub opening_zero : (s : Goals) (k : ℕ) → k ≡ 0 → answer_at Opening s k ≡ State s
opening_zero s k h = ap (λ (n : ℕ). answer_at Opening s n) h ∙ opening_first s

pub opening_copied : (s t : Goals) (k : ℕ) → t ≡ s → k ≡ 0 → State t ≡ answer_at Opening s k
opening_copied s t k e h = sym (subst (λ (u : Goals). answer_at Opening s k ≡ State u) (sym e) (opening_zero s k h))

-- ---- a search that passes over results
pub search_begins : (rules : List Theorem) (s : Goals) (k : ℕ) (q : Search) → q ≡ started_search rules s 1 → found_after k 0 (results 1 rules s) ≡ found_after k 0 (left q)
search_begins rules s k q e = ap (λ (x : Search). found_after k 0 (left x)) (sym e)

passed : (k o : ℕ) (s : Goals) (gs : List Found) → 0 < k → found_after k o (found.Res s ∷ gs) ≡ found_after (k - 1) o gs
passed zero o s gs h = absurd (omega arith)
passed (suc k) o s gs h = let same : k ≡ suc k - 1 = omega arith in ap (λ (n : ℕ). found_after n o gs) same

pub search_passes : (a : Answer Goals) (fs gs : List Found) (k o : ℕ) (s : Goals) → fs ≡ found.Res s ∷ gs → 0 < k → a ≡ found_after k o fs → a ≡ found_after (k - 1) o gs
search_passes a fs gs k o s e h i = i ∙ ap (λ (f : List Found). found_after k o f) e ∙ passed k o s gs h

pub search_outside : (a : Answer Goals) (fs gs : List Found) (k o : ℕ) → fs ≡ found.Outside ∷ gs → a ≡ found_after k o fs → a ≡ found_after k (min (o + 1) (2 ^ 64 - 1)) gs
search_outside a fs gs k o e i = i ∙ ap (λ (f : List Found). found_after k o f) e

pub search_finds : (rules : List Theorem) (s : Goals) (rank : ℕ) (fs gs : List Found) (k o : ℕ) (t : Goals) → fs ≡ found.Res t ∷ gs → k ≡ 0 → found_after rank 0 (results 1 rules s) ≡ found_after k o fs → State t ≡ answer_at (Matching rules) s rank
search_finds rules s rank fs gs k o t e h i =
    sym (matching_asked rules s rank ∙ i ∙ ap (λ (f : List Found). found_after k o f) e ∙ ap (λ (n : ℕ). found_after n o (found.Res t ∷ gs)) h)

pub search_ends : (rules : List Theorem) (s : Goals) (rank : ℕ) (fs : List Found) (k o : ℕ) (r : Answer Goals) → fs ≡ [] → found_after rank 0 (results 1 rules s) ≡ found_after k o fs → r ≡ at_end o → r ≡ answer_at (Matching rules) s rank
search_ends rules s rank fs k o r e i h = h ∙ sym (matching_asked rules s rank ∙ i ∙ ap (λ (f : List Found). found_after k o f) e)

-- what a step of a search found, or its end
step_found : (old new : Search) (o : Option Found) (f : Found) → Steps old (Ok o) new → o ≡ Some f → left old ≡ f ∷ left new
step_found old new None f s e = absurd (cc (e))
step_found old new (Some g) f s e = let same : g ≡ f = cc (e) in s.1 ∙ ap (λ (x : Found). x ∷ left new) same

step_ended : (old new : Search) (o : Option Found) → Steps old (Ok o) new → o ≡ None → left old ≡ []
step_ended old new None s e = s.1
step_ended old new (Some g) s e = absurd (cc (e))

pub answer_found : (rules : List Theorem) (s : Goals) (rank : ℕ) (old new : Search) (k o : ℕ) (t : Goals) (f : Found) (opt : Option Found) → Steps old (Ok opt) new → opt ≡ Some f → f ≡ found.Res t → k ≡ 0 → found_after rank 0 (results 1 rules s) ≡ found_after k o (left old) → State t ≡ answer_at (Matching rules) s rank
answer_found rules s rank old new k o t f opt st e r h i =
    search_finds rules s rank (left old) (left new) k o t (step_found old new opt f st e ∙ ap (λ (x : Found). x ∷ left new) r) h i

pub answer_ended : (rules : List Theorem) (s : Goals) (rank : ℕ) (old new : Search) (k o : ℕ) (r : Answer Goals) (opt : Option Found) → Steps old (Ok opt) new → opt ≡ None → r ≡ at_end o → found_after rank 0 (results 1 rules s) ≡ found_after k o (left old) → r ≡ answer_at (Matching rules) s rank
answer_ended rules s rank old new k o r opt st e h i = search_ends rules s rank (left old) k o r (step_ended old new opt st e) i h
