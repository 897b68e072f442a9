-- An event that is pulled, and a state that is answered, in their place among the results.
use Rattle.std.proofs.Common.{◌≡◌, ℕ, zero, suc, ◌+◌, ◌-◌, ◌<◌, ◌^◌, ◌==◌, min, inl, inr, Bool, true, false, if◌then◌else◌, Option, Some, None, List, [], ◌∷◌, ◌++◌, refl, sym, ◌∙◌, ap, subst, arith}
use Rattle.isa_seq.specs.declared.event.Event.{Event}
use Rattle.isa_seq.specs.declared.event.Event.TheVariants.{Tick, Outside, Res}
use Rattle.isa_seq.specs.declared.event.Answer.{Answer}
use Rattle.isa_seq.specs.declared.event.Answer.TheVariants.{State, NoMore, NoMoreOutside, Spent}
use Rattle.isa_seq.specs.declared.tac.TacNode.{TacNode}
use Rattle.isa_seq.specs.Traces.{Trace, IsTrace, nothing, event, Answers}
use Rattle.isa_seq.specs.Meaning.{Primitives, IsResult}
use Rattle.isa_seq.specs.Tactics.{trace}
use Rattle.isa_seq.specs.Results.{IsSoundStart, LeadsToResults, LeadsToEvent, LeadsToAnswer}
use Rattle.isa_seq.specs.Asking.{first_result, count_of_ticks, count_of_outsides, count_of_results, prepend, at_end, answer_or, asked, ask_of, HasGiven, IsLeft, Asks, results_in_event, Settles, Proceeds}
use Rattle.isa_seq.specs.Machines.{ticks_in, outsides_in}
use Rattle.isa_seq.proofs.Asking.{prepend-append, ticks-append, outsides-append, end-is}
use Rattle.isa_seq.proofs.Kth.{kth-answer, results-append}

-- the answer of a budget that isn't spent, from what is left
next-answer : {S : Type 0} (x : Trace S) (k : ℕ) (y : Trace S) (ticks outside budget : ℕ) → HasGiven x k y ticks outside → ticks < budget → budget < 2 ^ 64 →
    (j : ℕ) × (ask_of budget k (x budget) ≡ asked (suc j) outside (y (suc j)))
next-answer {S} x k y ticks outside budget h l small =
    let c = count_of_ticks h.seen in
    let within : c < budget = omega (arith, h.ticks_counted) in
    let left : budget - c ≡ suc (budget - c - 1) = omega arith in
    let same : min (0 + count_of_outsides h.seen) (2 ^ 64 - 1) ≡ outside = omega (arith, h.outside_counted) in (
      budget - c - 1,
      ap (λ z. ask_of budget z (x budget)) h.results_counted ∙ kth-answer budget x y h.seen h.passed within
          ∙ ap (λ z. asked (budget - c) z (y (budget - c))) same ∙ ap (λ z. asked z outside (y z)) left,
    )

-- one event more was given
given-more : {S : Type 0} (x : Trace S) (k : ℕ) (y y' : Trace S) (ticks outside ticks' outside' : ℕ) (e : Event S) → HasGiven x k y ticks outside → y ≡ event e y' →
    ticks' ≡ min (ticks + count_of_ticks (e ∷ [])) (2 ^ 64 - 1) → outside' ≡ min (outside + count_of_outsides (e ∷ [])) (2 ^ 64 - 1) → HasGiven x (k + count_of_results (e ∷ [])) y' ticks' outside'
given-more x k y y' ticks outside ticks' outside' e h g t o = record {
  seen = h.seen ++ e ∷ [];
  passed = h.passed ∙ ap (prepend h.seen) g ∙ sym (prepend-append h.seen (e ∷ []) y');
  results_counted = omega (arith, h.results_counted, results-append h.seen (e ∷ []));
  ticks_counted = let c = h.ticks_counted in omega (arith, c, t, ticks-append h.seen (e ∷ []));
  outside_counted = let c = h.outside_counted in omega (arith, c, o, outsides-append h.seen (e ∷ []));
}

pub proceeds : {S : Type 0} (x : Trace S) (k : ℕ) (y y' : Trace S) (ticks outside ticks' outside' : ℕ) (e : Option (Event S)) → HasGiven x k y ticks outside → Answers y e y' →
    ticks' ≡ min (ticks + ticks_in e) (2 ^ 64 - 1) → outside' ≡ min (outside + outsides_in e) (2 ^ 64 - 1) → Proceeds x k ticks outside y' ticks' outside' e
unfolding event nothing
proceeds x k y y' ticks outside ticks' outside' (Some Tick) h g t o = record { settles = λ budget l s. tt; given = given-more x k y y' ticks outside ticks' outside' Tick h g t o }
proceeds x k y y' ticks outside ticks' outside' (Some Outside) h g t o = record { settles = λ budget l s. tt; given = given-more x k y y' ticks outside ticks' outside' Outside h g t o }
proceeds {S} x k y y' ticks outside ticks' outside' (Some (Res r)) h g t o = record {
  settles = λ budget l s. let a = next-answer x k y ticks outside budget h l s in a.1 ∙ ap (λ (z : Trace S). asked (suc a.0) outside (z (suc a.0))) g;
  given = given-more x k y y' ticks outside ticks' outside' (Res r) h g t o;
}
proceeds {S} x k y y' ticks outside ticks' outside' None h g t o = record {
  settles = λ budget l s. let a = next-answer x k y ticks outside budget h l s in a.1 ∙ ap (λ (z : Trace S). asked (suc a.0) outside (z (suc a.0))) g.0 ∙ end-is a.0 outside (omega (arith, h.outside_counted));
  given = record {
    seen = h.seen;
    passed = h.passed ∙ ap (prepend h.seen) (g.0 ∙ sym g.1);
    results_counted = omega (arith, h.results_counted);
    ticks_counted = omega (arith, h.ticks_counted, t);
    outside_counted = omega (arith, h.outside_counted, o);
  };
}

behind-events : {S : Type 0} (es : List (Event S)) (y : Trace S) (r : S) (b : ℕ) → IsResult r (y (suc b)) → (n : ℕ) × IsResult r (prepend es y (suc n))
unfolding event
behind-events [] y r b h = (b, h)
behind-events (Tick ∷ es) y r b h = let d = behind-events es y r b h in (suc d.0, d.1)
behind-events (Outside ∷ es) y r b h = let d = behind-events es y r b h in (d.0, d.1)
behind-events (Res q ∷ es) y r b h = let d = behind-events es y r b h in (d.0, inr d.1)

-- a result of what is left is one of the whole
behind : {S : Type 0} (x y : Trace S) → IsTrace y → IsLeft x y → (r : S) (b : ℕ) → IsResult r (y b) → (n : ℕ) × IsResult r (x n)
behind x y is left r zero h = absurd (subst (IsResult r) (sym (is 0)) h)
behind {S} x y is left r (suc b) h = let d = behind-events left.seen y r b h in (suc d.0, subst (λ (z : Trace S). IsResult r (z (suc d.0))) (sym left.passed) d.1)

first-is-result : {S : Type 0} (r : S) (xs : List (Event S)) → first_result xs ≡ Some r → IsResult r xs
first-is-result r [] h = cc
first-is-result r (Tick ∷ xs) h = first-is-result r xs h
first-is-result r (Outside ∷ xs) h = first-is-result r xs h
first-is-result r (Res q ∷ xs) h = inl cc

at_end-no-state : {S : Type 0} (r : S) (n : ℕ) → State r ≡ at_end n → ⊥
at_end-no-state r zero h = cc
at_end-no-state r (suc n) h = cc

no-state : {S : Type 0} (r : S) (b : Bool) (n : ℕ) → State r ≡ (if b then Spent else at_end n) → ⊥
no-state r true n h = cc
no-state r false n h = at_end-no-state r n h

state-answered : {S : Type 0} (r : S) (o : Option S) (budget outside : ℕ) (xs : List (Event S)) → State r ≡ answer_or o budget outside xs → o ≡ Some r
state-answered r (Some q) budget outside xs h = cc
state-answered r None budget outside xs h = absurd (no-state r (count_of_ticks xs == budget) (min (outside + count_of_outsides xs) (2 ^ 64 - 1)) h)

pub led-event : {S P : Type 0} (m : Primitives S P) (t : TacNode P) (s : S) (y y' : Trace S) (e : Option (Event S)) → LeadsToResults m t s 1 → IsLeft (trace m t s 1) y → IsTrace y → Answers y e y' →
    IsSoundStart m t s → LeadsToEvent m t s e
unfolding event
led-event m t s y y' (Some Tick) led left is h start = tt
led-event m t s y y' (Some Outside) led left is h start = tt
led-event {S} m t s y y' (Some (Res r)) led left is h start =
    let d = behind (trace m t s 1) y is left r 1 (subst (λ (z : Trace S). IsResult r (z 1)) (sym h) (inl refl)) in led start d.0 r d.1
led-event m t s y y' None led left is h start = tt

pub led-answer : {S P : Type 0} (m : Primitives S P) (t : TacNode P) (s : S) (budget : ℕ) (y : Trace S) (ticks outside : ℕ) (y' : Trace S) (ticks' outside' : ℕ) (answer : Answer S) → LeadsToResults m t s 1 →
    IsLeft (trace m t s 1) y → IsTrace y → Asks budget y ticks outside y' ticks' outside' answer → IsSoundStart m t s → LeadsToAnswer m t s answer
led-answer m t s budget y ticks outside y' ticks' outside' (State r) led left is a start =
    let xs = y (budget - ticks) in
    let d = behind (trace m t s 1) y is left r (budget - ticks) (first-is-result r xs (state-answered r (first_result xs) (budget - ticks) outside xs a.answers)) in
    led start d.0 r d.1
led-answer m t s budget y ticks outside y' ticks' outside' NoMore led left is a start = tt
led-answer m t s budget y ticks outside y' ticks' outside' (NoMoreOutside n) led left is a start = tt
led-answer m t s budget y ticks outside y' ticks' outside' Spent led left is a start = tt
