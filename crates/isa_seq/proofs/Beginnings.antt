-- Proofs of the laws.
use Rattle.std.proofs.Common.{◌≡◌, ℕ, zero, suc, ◌+◌, ◌-◌, ◌≤◌, List, [], ◌∷◌, ◌++◌, length, refl, sym, ◌∙◌, ap, subst, arith}
use Rattle.isa_seq.specs.declared.event.Event.{Event}
use Rattle.isa_seq.specs.declared.event.Event.TheVariants.{Tick, Outside, Res}
use Rattle.isa_seq.specs.Traces.{Trace, IsTrace, cut, event, then_each}
use Rattle.isa_seq.specs.Meaning.{Primitives, AreLawful, is_solved}
use Rattle.isa_seq.specs.Tactics.{trace}
use Rattle.isa_seq.specs.Laws.{IsBeginning, ShowsBeginnings, ThenIsAssociative, GiveTraces, AreTraces, Pulls, ResumedGivesTheRest}
use Rattle.isa_seq.proofs.Cuts.{cut-cut}
use Rattle.isa_seq.proofs.Laws.{same_trace, cut-self, nothing-steps, event-is_trace, append-steps, then_each-steps, or_else-steps, first-steps, repeat-steps, deepen-steps}
use Rattle.isa_seq.proofs.Traces.{trace-is_trace, upward-is_trace, downward-is_trace}
use Rattle.isa_seq.proofs.Searches.{collect-steps, best_first-steps}
use Rattle.isa_seq.proofs.Kth.{then_each-associative}

cut-is_beginning : {S : Type 0} (n : ℕ) (xs : List (Event S)) → IsBeginning (cut n xs) xs
cut-is_beginning zero xs = (xs, refl)
cut-is_beginning (suc n) [] = ([], refl)
cut-is_beginning (suc n) (Tick ∷ xs) = let h = cut-is_beginning n xs in (h.0, ap (λ z. Tick ∷ z) h.1)
cut-is_beginning (suc n) (Outside ∷ xs) = let h = cut-is_beginning (suc n) xs in (h.0, ap (λ z. Outside ∷ z) h.1)
cut-is_beginning (suc n) (Res r ∷ xs) = let h = cut-is_beginning (suc n) xs in (h.0, ap (λ z. Res r ∷ z) h.1)

cut-more : {S : Type 0} (x : Trace S) → IsTrace x → (n d : ℕ) → cut n (x (d + n)) ≡ x n
cut-more x h n zero = let e : zero + n ≡ n = omega arith in ap (λ k. cut n (x k)) e ∙ cut-self x n (h n)
cut-more x h n (suc d) =
    let e : suc d + n ≡ suc (d + n) = omega arith in
    ap (λ k. cut n (x k)) e ∙ sym (cut-cut n (d + n) (x (suc (d + n))) (omega arith)) ∙ ap (cut n) (h (d + n)) ∙ cut-more x h n d

pub shows-beginning : {S : Type 0} (x : Trace S) → IsTrace x → (n k : ℕ) → n ≤ k → IsBeginning (x n) (x k)
shows-beginning x h n k l =
    let e : (k - n) + n ≡ k = omega arith in
    let c : cut n (x k) ≡ x n = ap (λ z. cut n (x z)) (sym e) ∙ cut-more x h n (k - n) in
    subst (λ z. IsBeginning z (x k)) c (cut-is_beginning n (x k))

pub shows-beginnings : {S P : Type 0} (m : Primitives S P) → AreLawful m → ShowsBeginnings m
shows-beginnings m h t s i n k l = shows-beginning (trace m t s i) (trace-is_trace m h t s i) n k l

pub then-associative : {S P : Type 0} (m : Primitives S P) → ThenIsAssociative m
unfolding trace
then-associative m t u v tu uv e e' s i =
    ap (λ z. then_each (trace m z s i) (λ r. trace m v.node.value r i)) e
    ∙ then_each-associative (trace m t.node.value s i) (λ r. trace m u.node.value r i) (λ r. trace m v.node.value r i)
    ∙ ap (λ z. then_each (trace m t.node.value s i) (λ r. trace m z r i)) (sym e')

pub give-traces : (S : Type 0) → GiveTraces S
give-traces S = record {
  of_nothing = nothing-steps;
  of_event = λ e x h. event-is_trace e x h;
  of_append = λ x y h k n. append-steps x y n (h n) (k n);
  of_then_each = λ x f h k n. then_each-steps x f n (h n) (λ r. k r n);
  of_or_else = λ x y h k n. or_else-steps x y n (h n) (k n);
  of_first = λ x h n. first-steps x n (h n);
  of_repeat = λ f s h n. repeat-steps f h n s;
  of_upward = λ f s i n h. upward-is_trace f h s i n;
  of_downward = λ f n s h. downward-is_trace f h n s;
  of_collect = λ x g h k n. collect-steps x g n (h n) (λ rs. k rs n);
}

pub are-traces : {S P : Type 0} (m : Primitives S P) → AreLawful m → AreTraces m
are-traces m h = record {
  expressions = λ t s i. trace-is_trace m h t s i;
  depth_first = λ f s k n. deepen-steps (is_solved m) f k n s;
  best_first = λ f list k n. best_first-steps m h f k n list;
}

abbrev head_or : {S : Type 0} → Event S → List (Event S) → Event S
head_or d [] = d
head_or d (e ∷ es) = e

abbrev tail_of : {S : Type 0} → List (Event S) → List (Event S)
tail_of [] = []
tail_of (e ∷ es) = es

head-of-event : {S : Type 0} (d e : Event S) (y : Trace S) → head_or d (event e y 1) ≡ e
unfolding event
head-of-event d Tick y = refl
head-of-event d Outside y = refl
head-of-event d (Res r) y = refl

same-event : {S : Type 0} (e f : Event S) (y z : Trace S) → event e y ≡ event f z → e ≡ f
same-event e f y z h = sym (head-of-event e e y) ∙ ap (λ x. head_or e (x 1)) h ∙ head-of-event e f z

same-rest : {S : Type 0} (e : Event S) (y z : Trace S) → IsTrace y → IsTrace z → event e y ≡ event e z → y ≡ z
unfolding event
same-rest Tick y z h k same = same_trace (λ n. ap (λ x. tail_of (x (suc n))) same)
same-rest {S} Outside y z h k same = same_trace (at h k same)
  where
    at : IsTrace y → IsTrace z → event Outside y ≡ event Outside z → (n : ℕ) → y n ≡ z n
    at h k same zero = sym (h 0) ∙ k 0
    at h k same (suc n) = ap (λ x. tail_of (x (suc n))) same
same-rest {S} (Res r) y z h k same = same_trace (at h k same)
  where
    at : IsTrace y → IsTrace z → event (Res r) y ≡ event (Res r) z → (n : ℕ) → y n ≡ z n
    at h k same zero = sym (h 0) ∙ k 0
    at h k same (suc n) = ap (λ x. tail_of (x (suc n))) same

pulls-append : {S : Type 0} (x y z : Trace S) (es fs : List (Event S)) → Pulls x es y → Pulls y fs z → Pulls x (es ++ fs) z
pulls-append x y z [] fs h k = subst (λ w. Pulls w fs z) (sym h) k
pulls-append x y z (e ∷ es) fs h k = (h.0, h.1, h.2, pulls-append h.0 y z es fs h.3 k)

pulls-determined : {S : Type 0} (x x' y z : Trace S) (es fs : List (Event S)) → x ≡ x' → Pulls x es y → Pulls x' fs z → length es ≡ length fs → (es ≡ fs) × (y ≡ z)
pulls-determined x x' y z [] [] e h k l = (refl, sym h ∙ e ∙ k)
pulls-determined x x' y z [] (f ∷ fs) e h k l = absurd (omega arith)
pulls-determined x x' y z (e ∷ es) [] same h k l = absurd (omega arith)
pulls-determined {S} x x' y z (e ∷ es) (f ∷ fs) same h k l =
    let both : event e h.0 ≡ event f k.0 = sym h.2 ∙ same ∙ k.2 in
    let events : e ≡ f = same-event e f h.0 k.0 both in
    let rests : h.0 ≡ k.0 = same-rest e h.0 k.0 h.1 k.1 (both ∙ ap (λ g. event g k.0) (sym events)) in
    let rec = pulls-determined h.0 k.0 y z es fs rests h.3 k.3 (omega arith) in
    (ap (λ g. g ∷ es) events ∙ ap (λ gs. f ∷ gs) rec.0, rec.1)

pub resumed-gives-the-rest : (S : Type 0) → ResumedGivesTheRest S
resumed-gives-the-rest S x y z w es fs gs h k j l = pulls-determined x x w z gs (es ++ fs) refl j (pulls-append x y z es fs h k) l
