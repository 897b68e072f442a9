-- Traces that have a result if they end: a repetition is one, so no alternative behind it matters.
use Rattle.std.proofs.Common.{◌≡◌, ℕ, zero, suc, ◌≤◌, ◌<◌, Bool, true, false, List, [], ◌∷◌, ◌++◌, refl, sym, ◌∙◌, ap, subst, arith, inl, inr}
use Rattle.std.proofs.lemmas.Bool.{cases_lt}
use Rattle.isa_seq.specs.declared.event.Event.{Event}
use Rattle.isa_seq.specs.declared.event.Event.TheVariants.{Tick, Outside, Res}
use Rattle.isa_seq.specs.Traces.{Trace, IsTrace, cut, has_result, nothing, event, append, then_each, or_else, repeat}
use Rattle.isa_seq.specs.Asking.{count_of_ticks}
use Rattle.isa_seq.proofs.Laws.{same_trace, cut-self, or_else-found, or_else-not_found}

-- behind so many ticks nothing is seen
pub cut-full : {S : Type 0} (n : ℕ) (xs ys : List (Event S)) → n ≤ count_of_ticks xs → cut n (xs ++ ys) ≡ cut n xs
cut-full zero xs ys h = refl
cut-full (suc n) [] ys h = absurd (omega arith)
cut-full (suc n) (Tick ∷ xs) ys h = ap (λ z. Tick ∷ z) (cut-full n xs ys (omega arith))
cut-full (suc n) (Outside ∷ xs) ys h = ap (λ z. Outside ∷ z) (cut-full (suc n) xs ys h)
cut-full (suc n) (Res r ∷ xs) ys h = ap (λ z. Res r ∷ z) (cut-full (suc n) xs ys h)

-- with fewer ticks nothing is cut off
pub cut-all : {S : Type 0} (n : ℕ) (xs : List (Event S)) → count_of_ticks (cut n xs) < n → cut n xs ≡ xs
cut-all zero xs h = absurd (omega arith)
cut-all (suc n) [] h = refl
cut-all (suc n) (Tick ∷ xs) h = ap (λ z. Tick ∷ z) (cut-all n xs (omega arith))
cut-all (suc n) (Outside ∷ xs) h = ap (λ z. Outside ∷ z) (cut-all (suc n) xs h)
cut-all (suc n) (Res r ∷ xs) h = ap (λ z. Res r ∷ z) (cut-all (suc n) xs h)

has_result-append : {S : Type 0} (xs ys : List (Event S)) → has_result ys ≡ true → has_result (xs ++ ys) ≡ true
has_result-append [] ys h = h
has_result-append (Tick ∷ xs) ys h = has_result-append xs ys h
has_result-append (Outside ∷ xs) ys h = has_result-append xs ys h
has_result-append (Res r ∷ xs) ys h = refl

has_result-left : {S : Type 0} (n : ℕ) (xs ys : List (Event S)) → has_result (cut n xs) ≡ true → has_result (cut n (xs ++ ys)) ≡ true
has_result-left zero xs ys h = h
has_result-left (suc n) [] ys h = cc
has_result-left (suc n) (Tick ∷ xs) ys h = has_result-left n xs ys h
has_result-left (suc n) (Outside ∷ xs) ys h = has_result-left (suc n) xs ys h
has_result-left (suc n) (Res r ∷ xs) ys h = refl

-- where it has ended, there is a result
abbrev pub IsProductive : {S : Type 0} → Trace S → Type 0
IsProductive x = (n : ℕ) → count_of_ticks (x n) < n → has_result (x n) ≡ true

or_one_at : {S : Type 0} (x : Trace S) (s : S) (n : ℕ) (b : Bool) → has_result (x n) ≡ b → count_of_ticks (or_else x (event (Res s) nothing) n) < n → has_result (or_else x (event (Res s) nothing) n) ≡ true
unfolding event nothing append
or_one_at x s n true p h = ap has_result (or_else-found x (event (Res s) nothing) n p) ∙ p
or_one_at x s zero false p h = absurd (omega arith)
or_one_at {S} x s (suc n) false p h =
    let e = or_else-not_found x (event (Res s) nothing) (suc n) p in
    let l : count_of_ticks (cut (suc n) (x (suc n) ++ Res s ∷ [])) < suc n = subst (λ (z : List (Event S)). count_of_ticks z < suc n) e h in
    ap has_result (e ∙ cut-all (suc n) (x (suc n) ++ Res s ∷ []) l) ∙ has_result-append (x (suc n)) (Res s ∷ []) refl

pub repeat-productive : {S : Type 0} (f : S → Trace S) (s : S) → IsProductive (repeat f s)
unfolding repeat
repeat-productive f s zero h = absurd (omega arith)
repeat-productive f s (suc n) h = or_one_at (then_each (f s) (λ r k. repeat f r n)) s n _ refl (omega arith)

not_fewer : {S : Type 0} (n : ℕ) (xs : List (Event S)) → (count_of_ticks xs < n → has_result xs ≡ true) → has_result xs ≡ false → n ≤ count_of_ticks xs
not_fewer n xs h k = elim (cases_lt (count_of_ticks xs) n) [ inl l ↦ (let found = h l in cc) | inr l ↦ l ]

or_else_productive_at : {S : Type 0} (x z y : Trace S) → IsTrace x → IsProductive x → (n : ℕ) (b c : Bool) → has_result (append x z n) ≡ b → has_result (x n) ≡ c → or_else (append x z) y n ≡ append x z n
unfolding append
or_else_productive_at x z y h k n true c p q = or_else-found (append x z) y n p
or_else_productive_at {S} x z y h k n false true p q =
    let found : has_result (cut n (x n)) ≡ true = ap has_result (cut-self x n (h n)) ∙ q in
    let more : has_result (cut n (x n ++ z n)) ≡ true = has_result-left n (x n) (z n) found in
    cc
or_else_productive_at {S} x z y h k n false false p q =
    let late : n ≤ count_of_ticks (x n) = not_fewer n (x n) (k n) q in
    let e : append x z n ≡ x n = cut-full n (x n) (z n) late ∙ cut-self x n (h n) in
    or_else-not_found (append x z) y n p ∙ ap (λ w. cut n (w ++ y n)) e ∙ cut-full n (x n) (y n) late ∙ cut-self x n (h n) ∙ sym e

-- what begins with a trace that has a result if it ends needs no alternative
pub or_else-productive : {S : Type 0} (x z y : Trace S) → IsTrace x → IsProductive x → or_else (append x z) y ≡ append x z
or_else-productive x z y h k = same_trace (λ n. or_else_productive_at x z y h k n _ _ refl refl)
