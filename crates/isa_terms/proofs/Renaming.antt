-- Laws of renaming and substitution.
use Rattle.std.proofs.Common.{◌≡◌, ℕ, zero, suc, refl, sym, ap, ◌∙◌}
use Rattle.isa_terms.proofs.Erased.{Erased, Atom, Var, Lam, Ap, up, ren, next, lift, sub, first}

abbrev pub Same : (ℕ → ℕ) → (ℕ → ℕ) → Type 0
Same r q = (n : ℕ) → r n ≡ q n

abbrev pub SameSub : (ℕ → Erased) → (ℕ → Erased) → Type 0
SameSub s t = (n : ℕ) → s n ≡ t n

up_same : {r q : ℕ → ℕ} → Same r q → Same (up r) (up q)
up_same h zero = refl
up_same h (suc n) = ap (λ m. suc m) (h n)

pub ren_same : (r q : ℕ → ℕ) → Same r q → (t : Erased) → ren r t ≡ ren q t
ren_same r q h (Atom c) = refl
ren_same r q h (Var n) = ap Var (h n)
ren_same r q h (Lam b) = ap Lam (ren_same (up r) (up q) (up_same h) b)
ren_same r q h (Ap f a) = λ i. Ap (ren_same r q h f i) (ren_same r q h a i)

lift_same : {s t : ℕ → Erased} → SameSub s t → SameSub (lift s) (lift t)
lift_same h zero = refl
lift_same h (suc n) = ap (ren next) (h n)

pub sub_same : (s q : ℕ → Erased) → SameSub s q → (t : Erased) → sub s t ≡ sub q t
sub_same s q h (Atom c) = refl
sub_same s q h (Var n) = h n
sub_same s q h (Lam b) = ap Lam (sub_same (lift s) (lift q) (lift_same h) b)
sub_same s q h (Ap f a) = λ i. Ap (sub_same s q h f i) (sub_same s q h a i)

up_up : (r q : ℕ → ℕ) → Same (λ n. up r (up q n)) (up (λ n. r (q n)))
up_up r q zero = refl
up_up r q (suc n) = refl

pub ren-ren : (r q : ℕ → ℕ) (t : Erased) → ren r (ren q t) ≡ ren (λ n. r (q n)) t
ren-ren r q (Atom c) = refl
ren-ren r q (Var n) = refl
ren-ren r q (Lam b) = ap Lam (ren-ren (up r) (up q) b ∙ ren_same _ _ (up_up r q) b)
ren-ren r q (Ap f a) = λ i. Ap (ren-ren r q f i) (ren-ren r q a i)

lift_up : (s : ℕ → Erased) (r : ℕ → ℕ) → SameSub (λ n. lift s (up r n)) (lift (λ n. s (r n)))
lift_up s r zero = refl
lift_up s r (suc n) = refl

pub sub-ren : (s : ℕ → Erased) (r : ℕ → ℕ) (t : Erased) → sub s (ren r t) ≡ sub (λ n. s (r n)) t
sub-ren s r (Atom c) = refl
sub-ren s r (Var n) = refl
sub-ren s r (Lam b) = ap Lam (sub-ren (lift s) (up r) b ∙ sub_same _ _ (lift_up s r) b)
sub-ren s r (Ap f a) = λ i. Ap (sub-ren s r f i) (sub-ren s r a i)

pub ren-up-next : (r : ℕ → ℕ) (t : Erased) → ren (up r) (ren next t) ≡ ren next (ren r t)
ren-up-next r t = ren-ren (up r) next t ∙ sym (ren-ren next r t)

up_lift : (r : ℕ → ℕ) (s : ℕ → Erased) → SameSub (λ n. ren (up r) (lift s n)) (lift (λ n. ren r (s n)))
up_lift r s zero = refl
up_lift r s (suc n) = ren-up-next r (s n)

pub ren-sub : (r : ℕ → ℕ) (s : ℕ → Erased) (t : Erased) → ren r (sub s t) ≡ sub (λ n. ren r (s n)) t
ren-sub r s (Atom c) = refl
ren-sub r s (Var n) = refl
ren-sub r s (Lam b) = ap Lam (ren-sub (up r) (lift s) b ∙ sub_same _ _ (up_lift r s) b)
ren-sub r s (Ap f a) = λ i. Ap (ren-sub r s f i) (ren-sub r s a i)

pub sub-lift-next : (s : ℕ → Erased) (t : Erased) → sub (lift s) (ren next t) ≡ ren next (sub s t)
sub-lift-next s t = sub-ren (lift s) next t ∙ sym (ren-sub next s t)

lift_lift : (s q : ℕ → Erased) → SameSub (λ n. sub (lift s) (lift q n)) (lift (λ n. sub s (q n)))
lift_lift s q zero = refl
lift_lift s q (suc n) = sub-lift-next s (q n)

pub sub-sub : (s q : ℕ → Erased) (t : Erased) → sub s (sub q t) ≡ sub (λ n. sub s (q n)) t
sub-sub s q (Atom c) = refl
sub-sub s q (Var n) = refl
sub-sub s q (Lam b) = ap Lam (sub-sub (lift s) (lift q) b ∙ sub_same _ _ (lift_lift s q) b)
sub-sub s q (Ap f a) = λ i. Ap (sub-sub s q f i) (sub-sub s q a i)

lift_var : SameSub (lift Var) Var
lift_var zero = refl
lift_var (suc n) = refl

pub sub-var : (t : Erased) → sub Var t ≡ t
sub-var (Atom c) = refl
sub-var (Var n) = refl
sub-var (Lam b) = ap Lam (sub_same _ _ lift_var b ∙ sub-var b)
sub-var (Ap f a) = λ i. Ap (sub-var f i) (sub-var a i)

-- what is replaced isn't there
pub sub-first-next : (a t : Erased) → sub (first a) (ren next t) ≡ t
sub-first-next a t = sub-ren (first a) next t ∙ sub-var t

ren_first : (r : ℕ → ℕ) (a : Erased) → SameSub (λ n. ren r (first a n)) (λ n. first (ren r a) (up r n))
ren_first r a zero = refl
ren_first r a (suc n) = refl

pub ren-sub-first : (r : ℕ → ℕ) (a b : Erased) → ren r (sub (first a) b) ≡ sub (first (ren r a)) (ren (up r) b)
ren-sub-first r a b = ren-sub r (first a) b ∙ sub_same _ _ (ren_first r a) b ∙ sym (sub-ren (first (ren r a)) (up r) b)

sub_first : (s : ℕ → Erased) (a : Erased) → SameSub (λ n. sub s (first a n)) (λ n. sub (first (sub s a)) (lift s n))
sub_first s a zero = refl
sub_first s a (suc n) = sym (sub-first-next (sub s a) (s n))

pub sub-sub-first : (s : ℕ → Erased) (a b : Erased) → sub s (sub (first a) b) ≡ sub (first (sub s a)) (sub (lift s) b)
sub-sub-first s a b = sub-sub s (first a) b ∙ sub_same _ _ (sub_first s a) b ∙ sym (sub-sub (first (sub s a)) (lift s) b)
