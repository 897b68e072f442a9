-- A machine whose steps fall ends.
use Rattle.std.proofs.Common.{◌≡◌, ℕ, zero, suc, ◌<◌, ◌≤◌, refl, sym, ap, subst, ◌∙◌, arith}
use Rattle.isa_unify.specs.Descent.{Step, Done, Lighter, Solved, descend_within, descend, Ends, now, lighter, solved, Falls, Keeps}

-- the end of the machine from s is a, after some number of steps
abbrev pub Reaches : {S A : Type 0} → (S → Step S A) → A → S → Type 0
Reaches {S} {A} step a s = (k : ℕ) × Ends step a s k

module _ {S A : Type 0} (step : S → Step S A) (weight unsolved : S → ℕ) (out : A) (P : S → Type 0) (keeps : (s : S) → P s → Keeps P (step s)) (falls : (s : S) → P s → Falls weight unsolved s (step s)) where
  within_case : (n m : ℕ) (s : S) (r : Step S A) → step s ≡ r → Keeps P r → Falls weight unsolved s r → unsolved s ≤ n → weight s ≤ m
      → ((t : S) → P t → unsolved t < n → Reaches step (descend step weight out n t) t)
      → ((t : S) → P t → unsolved t ≤ n → weight t < m → Reaches step (descend_within step (λ u. descend step weight out n u) out m t) t)
      → Reaches step (elim r [ Done a ↦ a | Lighter t ↦ descend_within step (λ u. descend step weight out n u) out m t | Solved t ↦ descend step weight out n t ]) s
  within_case n m s (Done a) e p f h k above below = (0, now e)
  within_case n m s (Lighter t) e p f h k above below =
      let r = below t p (omega (arith, f.1)) (omega (arith, f.0)) in
      (suc r.0, lighter t e r.1)
  within_case n m s (Solved t) e p f h k above below =
      let r = above t p (omega (arith, f)) in
      (suc r.0, solved t e r.1)

  reaches_within : (n m : ℕ) (s : S) → P s → unsolved s ≤ n → weight s < m
      → ((t : S) → P t → unsolved t < n → Reaches step (descend step weight out n t) t)
      → Reaches step (descend_within step (λ u. descend step weight out n u) out m s) s
  unfolding descend_within
  reaches_within n zero s p h k above = absurd (omega arith)
  reaches_within n (suc m) s p h k above =
      within_case n m s (step s) refl (keeps s p) (falls s p) h (omega arith) above (λ t q h' k'. reaches_within n m t q h' k' above)

  -- the function gives the end
  pub reaches : (n : ℕ) (s : S) → P s → unsolved s < n → Reaches step (descend step weight out n s) s
  unfolding descend
  reaches zero s p h = absurd (omega arith)
  reaches (suc n) s p h = reaches_within n (suc (weight s)) s p (omega arith) (omega arith) (λ t q k. reaches n t q k)

done_same : {S A : Type 0} {a b : A} → ◌≡◌ {A = Step S A} (Done a) (Done b) → a ≡ b
done_same h = cc

lighter_same : {S A : Type 0} {s t : S} → ◌≡◌ {A = Step S A} (Lighter s) (Lighter t) → s ≡ t
lighter_same h = cc

solved_same : {S A : Type 0} {s t : S} → ◌≡◌ {A = Step S A} (Solved s) (Solved t) → s ≡ t
solved_same h = cc

-- The end and the number of steps are determined.
pub ends_once : {S A : Type 0} {step : S → Step S A} {a b : A} {s : S} {k m : ℕ} → Ends step a s k → Ends step b s m → (a ≡ b) × (k ≡ m)
ends_once (now e) (now f) = (done_same (sym e ∙ f), refl)
ends_once (now e) (lighter t f g) = absurd (cc)
ends_once (now e) (solved t f g) = absurd (cc)
ends_once (lighter t e h) (now f) = absurd (cc)
ends_once {step = step} {b = b} (lighter t e h) (lighter {k = m} u f g) =
    let r = ends_once h (subst (λ v. Ends step b v m) (lighter_same (sym f ∙ e)) g) in
    (r.0, ap (λ n. suc n) r.1)
ends_once (lighter t e h) (solved u f g) = absurd (cc)
ends_once (solved t e h) (now f) = absurd (cc)
ends_once (solved t e h) (lighter u f g) = absurd (cc)
ends_once {step = step} {b = b} (solved t e h) (solved {k = m} u f g) =
    let r = ends_once h (subst (λ v. Ends step b v m) (solved_same (sym f ∙ e)) g) in
    (r.0, ap (λ n. suc n) r.1)

-- Where the bound on what is left to solve is a relation: P n s says that from s at most n steps solve.

abbrev pub Within : {S A : Type 0} → (S → ℕ) → (ℕ → S → Type 0) → ℕ → S → Step S A → Type 0
Within weight P n s (Done a) = Unit {0}
Within weight P n s (Lighter t) = (weight t < weight s) × P n t
Within weight P n s (Solved t) = (m : ℕ) × (m < n) × P m t

module _ {S A : Type 0} (step : S → Step S A) (weight : S → ℕ) (out : A) (P : ℕ → S → Type 0) (goes : (n : ℕ) (s : S) → P n s → Within weight P n s (step s)) where
  bounded_case : (n l m : ℕ) (s : S) (r : Step S A) → step s ≡ r → Within weight P l s r → weight s ≤ m
      → ((k : ℕ) (t : S) → k < l → P k t → Reaches step (descend step weight out n t) t)
      → ((t : S) → P l t → weight t < m → Reaches step (descend_within step (λ u. descend step weight out n u) out m t) t)
      → Reaches step (elim r [ Done a ↦ a | Lighter t ↦ descend_within step (λ u. descend step weight out n u) out m t | Solved t ↦ descend step weight out n t ]) s
  bounded_case n l m s (Done a) e f k above below = (0, now e)
  bounded_case n l m s (Lighter t) e f k above below =
      let r = below t f.1 (omega (arith, f.0)) in
      (suc r.0, lighter t e r.1)
  bounded_case n l m s (Solved t) e f k above below =
      let r = above f.0 t f.1 f.2 in
      (suc r.0, solved t e r.1)

  bounded_within : (n l m : ℕ) (s : S) → P l s → weight s < m
      → ((k : ℕ) (t : S) → k < l → P k t → Reaches step (descend step weight out n t) t)
      → Reaches step (descend_within step (λ u. descend step weight out n u) out m s) s
  unfolding descend_within
  bounded_within n l zero s p k above = absurd (omega arith)
  bounded_within n l (suc m) s p k above = bounded_case n l m s (step s) refl (goes l s p) (omega arith) above (λ t q k'. bounded_within n l m t q k' above)

  -- the function gives the end
  pub bounded : (n l : ℕ) (s : S) → l < n → P l s → Reaches step (descend step weight out n s) s
  unfolding descend
  bounded zero l s h p = absurd (omega arith)
  bounded (suc n) l s h p = bounded_within n l (suc (weight s)) s p (omega arith) (λ k t j q. bounded n k t (omega (arith, j)) q)
