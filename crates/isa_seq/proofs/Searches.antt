-- Laws of `collect` and of the search that takes the best state first.
use Rattle.std.proofs.Common.{◌≡◌, ℕ, zero, suc, ◌≤◌, ◌<◌, nat_lt, ◌==◌, ◌||◌, Bool, true, false, if◌then◌else◌, List, [], ◌∷◌, ◌++◌, map, inl, inr, refl, sym, ◌∙◌, ap, subst, arith}
use Rattle.std.proofs.lemmas.Bool.{cases_lt}
use Rattle.std.proofs.lemmas.Bool.Decides.{nat_tests}
use Rattle.isa_seq.specs.declared.event.Event.{Event}
use Rattle.isa_seq.specs.declared.event.Event.TheVariants.{Tick, Outside, Res}
use Rattle.isa_seq.specs.Traces.{Trace, IsTrace, cut, nothing, event}
use Rattle.isa_seq.specs.Meaning.{Primitives, AreLawful, is_solved}
use Rattle.isa_seq.specs.Asking.{count_of_ticks}
use Rattle.isa_seq.specs.Searches.{least, has_same, added, results_of, without_results, collect, best_first}
use Rattle.isa_seq.specs.Queues.{of_measure, enqueued, best_of}
use Rattle.isa_seq.proofs.Cuts.{cut-cut, cut-append-cut}
use Rattle.isa_seq.proofs.Laws.{same_trace, Steps, cut-self, choice-steps}
use Rattle.isa_seq.proofs.Productive.{cut-full}

cut-few : {S : Type 0} (n : ℕ) (xs : List (Event S)) → count_of_ticks xs < n → cut n xs ≡ xs
cut-few zero xs h = absurd (omega arith)
cut-few (suc n) [] h = refl
cut-few (suc n) (Tick ∷ xs) h = ap (λ z. Tick ∷ z) (cut-few n xs (omega arith))
cut-few (suc n) (Outside ∷ xs) h = ap (λ z. Outside ∷ z) (cut-few (suc n) xs h)
cut-few (suc n) (Res r ∷ xs) h = ap (λ z. Res r ∷ z) (cut-few (suc n) xs h)

ticks-without_results : {S : Type 0} (xs : List (Event S)) → count_of_ticks (without_results xs) ≡ count_of_ticks xs
ticks-without_results [] = refl
ticks-without_results (Tick ∷ xs) = ap suc (ticks-without_results xs)
ticks-without_results (Outside ∷ xs) = ticks-without_results xs
ticks-without_results (Res r ∷ xs) = ticks-without_results xs

without_results-cut : {S : Type 0} (n : ℕ) (xs : List (Event S)) → cut n (without_results (cut n xs)) ≡ cut n (without_results xs)
without_results-cut zero xs = refl
without_results-cut (suc n) [] = refl
without_results-cut (suc n) (Tick ∷ xs) = ap (λ z. Tick ∷ z) (without_results-cut n xs)
without_results-cut (suc n) (Outside ∷ xs) = ap (λ z. Outside ∷ z) (without_results-cut (suc n) xs)
without_results-cut (suc n) (Res r ∷ xs) = without_results-cut (suc n) xs

ticks-of-cut : {S : Type 0} (n : ℕ) (xs : List (Event S)) → n ≤ count_of_ticks xs → count_of_ticks (cut n xs) ≡ n
ticks-of-cut zero xs h = refl
ticks-of-cut (suc n) [] h = absurd (omega arith)
ticks-of-cut (suc n) (Tick ∷ xs) h = ap suc (ticks-of-cut n xs (omega arith))
ticks-of-cut (suc n) (Outside ∷ xs) h = ticks-of-cut (suc n) xs h
ticks-of-cut (suc n) (Res r ∷ xs) h = ticks-of-cut (suc n) xs h

-- where the events have as many ticks, nothing is seen of what follows
collect-late : {S : Type 0} (n : ℕ) (xs : List (Event S)) (ys : List (Event S)) → n ≤ count_of_ticks xs → cut n (without_results xs ++ ys) ≡ cut n (without_results xs)
collect-late n xs ys h = cut-full n (without_results xs) ys (let e = ticks-without_results xs in omega (arith, e))

pub collect-steps : {S : Type 0} (x : Trace S) (g : List S → Trace S) (n : ℕ) → Steps x n → ((rs : List S) → Steps (g rs) n) → Steps (collect x g) n
unfolding collect
collect-steps {S} x g n h k =
    let xs = x (suc n) in
    cut-cut n (suc n) (without_results xs ++ g (results_of xs) (suc n)) (omega arith)
    ∙ elim (cases_lt (count_of_ticks xs) n) [
      | inl l ↦ (let e : xs ≡ x n = sym (cut-few n xs l) ∙ h in
          sym (cut-append-cut n n (without_results xs) (g (results_of xs) (suc n)) (omega arith)) ∙ ap (λ z. cut n (without_results xs ++ z)) (k (results_of xs))
          ∙ ap (λ z. cut n (without_results z ++ g (results_of z) n)) e)
      | inr l ↦ (let l' : n ≤ count_of_ticks (x n) = let e : count_of_ticks (x n) ≡ n = ap count_of_ticks (sym h) ∙ ticks-of-cut n xs l in omega (arith, e) in
          collect-late n xs (g (results_of xs) (suc n)) l ∙ sym (without_results-cut n xs) ∙ ap (λ z. cut n (without_results z)) h ∙ sym (collect-late n (x n) (g (results_of (x n)) n) l'))
    ]

pub collect-nothing : {S : Type 0} (g : List S → Trace S) → IsTrace (g []) → collect nothing g ≡ g []
unfolding collect nothing
collect-nothing g h = same_trace (λ n. cut-self (g []) n (h n))

collect_tick_at : {S : Type 0} (x : Trace S) (g : List S → Trace S) → ((rs : List S) → IsTrace (g rs)) → (n : ℕ) → collect (event Tick x) g n ≡ event Tick (collect x g) n
unfolding collect event
collect_tick_at x g h zero = refl
collect_tick_at x g h (suc n) =
    ap (λ z. Tick ∷ z) (sym (cut-append-cut n n (without_results (x n)) (g (results_of (x n)) (suc n)) (omega arith)) ∙ ap (λ z. cut n (without_results (x n) ++ z)) (h (results_of (x n)) n))

pub collect-tick : {S : Type 0} (x : Trace S) (g : List S → Trace S) → ((rs : List S) → IsTrace (g rs)) → collect (event Tick x) g ≡ event Tick (collect x g)
collect-tick x g h = same_trace (collect_tick_at x g h)

collect_outside_at : {S : Type 0} (x : Trace S) (g : List S → Trace S) (n : ℕ) → collect (event Outside x) g n ≡ event Outside (collect x g) n
unfolding collect event
collect_outside_at x g zero = refl
collect_outside_at x g (suc n) = refl

pub collect-outside : {S : Type 0} (x : Trace S) (g : List S → Trace S) → collect (event Outside x) g ≡ event Outside (collect x g)
collect-outside x g = same_trace (collect_outside_at x g)

collect_result_at : {S : Type 0} (r : S) (x : Trace S) (g : List S → Trace S) (n : ℕ) → collect (event (Res r) x) g n ≡ collect x (λ rs. g (r ∷ rs)) n
unfolding collect event
collect_result_at r x g zero = refl
collect_result_at r x g (suc n) = refl

pub collect-result : {S : Type 0} (r : S) (x : Trace S) (g : List S → Trace S) → collect (event (Res r) x) g ≡ collect x (λ rs. g (r ∷ rs))
collect-result r x g = same_trace (collect_result_at r x g)

result-steps : {S : Type 0} (r : S) (x : Trace S) (n : ℕ) → Steps x n → Steps (event (Res r) x) n
unfolding event
result-steps r x zero h = refl
result-steps r x (suc n) h = ap (λ z. Res r ∷ z) h

choice_both : {S : Type 0} (b : Bool) (x y x' y' : Trace S) (n : ℕ) → x n ≡ x' n → y n ≡ y' n → (if b then x else y) n ≡ (if b then x' else y') n
choice_both true x y x' y' n h k = h
choice_both false x y x' y' n h k = k

event_at : {S : Type 0} (r : S) (x y : Trace S) (n : ℕ) → x n ≡ y n → event (Res r) x n ≡ event (Res r) y n
unfolding event
event_at r x y zero h = refl
event_at r x y (suc n) h = ap (λ z. Res r ∷ z) h

collect_at : {S : Type 0} (x : Trace S) (g h : List S → Trace S) (n : ℕ) → ((rs : List S) → g rs n ≡ h rs n) → collect x g n ≡ collect x h n
unfolding collect
collect_at x g h n e = ap (λ z. cut n (without_results (x n) ++ z)) (e (results_of (x n)))

best_of_unfolds_at : {S P : Type 0} (m : Primitives S P) (f : S → Trace S) (e : ℕ × S) (list : List (ℕ × S)) (n : ℕ) →
    let d = least (λ e. e.0) e list in
    best_of m f (e ∷ list) n ≡ event Tick (if is_solved m d.0.1 then event (Res d.0.1) (best_of m f d.1) else collect (f d.0.1) (λ rs. best_of m f (enqueued m d.1 rs))) n
unfolding best_of event
best_of_unfolds_at m f e list zero = refl
best_of_unfolds_at m f e list (suc n) =
    let d = least (λ e. e.0) e list in
    ap (λ z. Tick ∷ z) (choice_both (is_solved m d.0.1) (event (Res d.0.1) (λ k. best_of m f d.1 n)) (collect (f d.0.1) (λ rs k. best_of m f (enqueued m d.1 rs) n))
    (event (Res d.0.1) (best_of m f d.1)) (collect (f d.0.1) (λ rs. best_of m f (enqueued m d.1 rs))) n
    (event_at d.0.1 (λ k. best_of m f d.1 n) (best_of m f d.1) n refl)
    (collect_at (f d.0.1) (λ rs k. best_of m f (enqueued m d.1 rs) n) (λ rs. best_of m f (enqueued m d.1 rs)) n (λ rs. refl)))

-- one state of the search
pub best_of-unfolds : {S P : Type 0} (m : Primitives S P) (f : S → Trace S) (e : ℕ × S) (list : List (ℕ × S)) →
    let d = least (λ e. e.0) e list in
    best_of m f (e ∷ list) ≡ event Tick (if is_solved m d.0.1 then event (Res d.0.1) (best_of m f d.1) else collect (f d.0.1) (λ rs. best_of m f (enqueued m d.1 rs)))
best_of-unfolds m f e list = same_trace (best_of_unfolds_at m f e list)

best_of_none_at : {S P : Type 0} (m : Primitives S P) (f : S → Trace S) (n : ℕ) → best_of m f [] n ≡ nothing n
unfolding best_of nothing
best_of_none_at m f zero = refl
best_of_none_at m f (suc n) = refl

pub best_of-none : {S P : Type 0} (m : Primitives S P) (f : S → Trace S) → best_of m f [] ≡ nothing
best_of-none m f = same_trace (best_of_none_at m f)

pub best_of-steps : {S P : Type 0} (m : Primitives S P) (f : S → Trace S) → ((s : S) → IsTrace (f s)) → (n : ℕ) (list : List (ℕ × S)) → Steps (best_of m f list) n
unfolding best_of event
best_of-steps m f h zero list = refl
best_of-steps m f h (suc n) [] = refl
best_of-steps {S} m f h (suc n) (e ∷ list) =
    let d = least (λ e. e.0) e list in
    ap (λ (z : Trace S). cut (suc n) (z (suc (suc n)))) (best_of-unfolds m f e list)
    ∙ ap (λ z. Tick ∷ z) (choice-steps (is_solved m d.0.1) (event (Res d.0.1) (best_of m f d.1)) (collect (f d.0.1) (λ rs. best_of m f (enqueued m d.1 rs))) n
    (result-steps d.0.1 (best_of m f d.1) n (best_of-steps m f h n d.1))
    (collect-steps (f d.0.1) (λ rs. best_of m f (enqueued m d.1 rs)) n (h d.0.1 n) (λ rs. best_of-steps m f h n (enqueued m d.1 rs))))
    ∙ ap (λ (z : Trace S). z (suc n)) (sym (best_of-unfolds m f e list))

-- states with their measures
abbrev pub measured : {S P : Type 0} → Primitives S P → List S → List (ℕ × S)
measured m list = map (λ s. (m.measure s, s)) list

-- a state and others, with their measures
abbrev pair_of : {S P : Type 0} → Primitives S P → S × List S → (ℕ × S) × List (ℕ × S)
pair_of m d = ((m.measure d.0, d.0), measured m d.1)

least_of_choice : {S P : Type 0} (m : Primitives S P) (b : Bool) (s : S) (d : S × List S) (t : S) (ts : List S) →
    let l : (ℕ × S) × List (ℕ × S) = if b then ((m.measure d.0, d.0), (m.measure s, s) ∷ measured m d.1) else ((m.measure s, s), (m.measure t, t) ∷ measured m ts) in
    let e : S × List S = if b then (d.0, s ∷ d.1) else (s, t ∷ ts) in
    l ≡ pair_of m e
least_of_choice m true s d t ts = refl
least_of_choice m false s d t ts = refl

least-measured : {S P : Type 0} (m : Primitives S P) (s : S) (list : List S) →
    least (λ e. e.0) (m.measure s, s) (measured m list) ≡ pair_of m (least m.measure s list)
least-measured m s [] = refl
least-measured {S} {P} m s (t ∷ ts) =
    ap (λ (z : (ℕ × S) × List (ℕ × S)). if nat_lt z.0.0 (m.measure s) then (z.0, (m.measure s, s) ∷ z.1) else ((m.measure s, s), (m.measure t, t) ∷ measured m ts)) (least-measured m t ts)
    ∙ least_of_choice m (nat_lt (m.measure (least m.measure t ts).0) (m.measure s)) s (least m.measure t ts) t ts

not_of_measure : {S P : Type 0} (m : Primitives S P) → AreLawful m → (r s : S) → m.same r s ≡ true → (m.measure s == m.measure r) ≡ false → ⊥
not_of_measure m h r s e k = let l : m.measure r ≡ m.measure s = h.same_measure r s e in let t : (m.measure s == m.measure r) ≡ true = grind (arith, nat_tests) in cc

-- the same states have the same measure
same-of_measure : {S P : Type 0} (m : Primitives S P) → AreLawful m → (r : S) (list : List S) → has_same m.same r (of_measure (m.measure r) (measured m list)) ≡ has_same m.same r list
same-of_measure m h r [] = refl
same-of_measure {S} m h r (s ∷ list) = choose (m.measure s == m.measure r) (m.same r s) refl refl (same-of_measure m h r list)
  where
    others : List S
    others = of_measure (m.measure r) (measured m list)

    choose : (b c : Bool) → (m.measure s == m.measure r) ≡ b → m.same r s ≡ c → has_same m.same r others ≡ has_same m.same r list → has_same m.same r (if b then s ∷ others else others) ≡ (c || has_same m.same r list)
    choose true c e k j = ap (λ z. z || has_same m.same r others) k ∙ ap (λ z. c || z) j
    choose false false e k j = j
    choose false true e k j = absurd (not_of_measure m h r s k e)

measured-append : {S P : Type 0} (m : Primitives S P) (xs ys : List S) → measured m (xs ++ ys) ≡ measured m xs ++ measured m ys
measured-append m [] ys = refl
measured-append m (x ∷ xs) ys = ap (λ z. (m.measure x, x) ∷ z) (measured-append m xs ys)

measured-choice : {S P : Type 0} (m : Primitives S P) (b : Bool) (list : List S) (r : S) →
    (if b then measured m list else measured m list ++ (m.measure r, r) ∷ []) ≡ measured m (if b then list else list ++ r ∷ [])
measured-choice m true list r = refl
measured-choice m false list r = sym (measured-append m list (r ∷ []))

enqueued-measured : {S P : Type 0} (m : Primitives S P) → AreLawful m → (list rs : List S) → enqueued m (measured m list) rs ≡ measured m (added m.same list rs)
enqueued-measured m h list [] = refl
enqueued-measured m h list (r ∷ rs) =
    ap (λ z. enqueued m (if z then measured m list else measured m list ++ (m.measure r, r) ∷ []) rs) (same-of_measure m h r list)
    ∙ ap (λ z. enqueued m z rs) (measured-choice m (has_same m.same r list) list r)
    ∙ enqueued-measured m h (if has_same m.same r list then list else list ++ r ∷ []) rs

best_of_measured_at : {S P : Type 0} (m : Primitives S P) → AreLawful m → (f : S → Trace S) (n : ℕ) (list : List S) → best_of m f (measured m list) n ≡ best_first m f list n
unfolding best_of best_first
best_of_measured_at m h f zero list = refl
best_of_measured_at m h f (suc n) [] = refl
best_of_measured_at {S} {P} m h f (suc n) (s ∷ list) =
    let d = least m.measure s list in
    ap (λ (z : (ℕ × S) × List (ℕ × S)). Tick ∷ (if is_solved m z.0.1 then event (Res z.0.1) (λ k. best_of m f z.1 n) else collect (f z.0.1) (λ rs k. best_of m f (enqueued m z.1 rs) n)) n) (least-measured m s list)
    ∙ ap (λ z. Tick ∷ z) (choice_both (is_solved m d.0) (event (Res d.0) (λ k. best_of m f (measured m d.1) n)) (collect (f d.0) (λ rs k. best_of m f (enqueued m (measured m d.1) rs) n))
    (event (Res d.0) (λ k. best_first m f d.1 n)) (collect (f d.0) (λ rs k. best_first m f (added m.same d.1 rs) n)) n
    (event_at d.0 (λ k. best_of m f (measured m d.1) n) (λ k. best_first m f d.1 n) n (best_of_measured_at m h f n d.1))
    (collect_at (f d.0) (λ rs k. best_of m f (enqueued m (measured m d.1) rs) n) (λ rs k. best_first m f (added m.same d.1 rs) n) n
    (λ rs. ap (λ z. best_of m f z n) (enqueued-measured m h d.1 rs) ∙ best_of_measured_at m h f n (added m.same d.1 rs))))

-- the search over states with their measures is the search over states
pub best_of-measured : {S P : Type 0} (m : Primitives S P) → AreLawful m → (f : S → Trace S) (list : List S) → best_of m f (measured m list) ≡ best_first m f list
best_of-measured m h f list = same_trace (λ n. best_of_measured_at m h f n list)

pub best_first-steps : {S P : Type 0} (m : Primitives S P) → AreLawful m → (f : S → Trace S) → ((s : S) → IsTrace (f s)) → (n : ℕ) (list : List S) → Steps (best_first m f list) n
best_first-steps {S} m h f k n list = subst (λ (z : Trace S). Steps z n) (best_of-measured m h f list) (best_of-steps m f k n (measured m list))
