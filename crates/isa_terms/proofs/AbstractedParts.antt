-- A term put in the place of the variable that was put in its places gives the term that was there.
use Rattle.std.proofs.Common.{◌≡◌, ℕ, ◌+◌, ◌-◌, ◌<◌, ◌≤◌, [], Bool, true, false, cond, nat_eq, nat_lt, refl, sym, ap, ◌∙◌, arith}
use Rattle.std.proofs.lemmas.Bool.Decides.{nat_tests}
use Rattle.isa_terms.specs.Terms.{Tm, Const, Free, Unknown, Bound, Abs, App, bare}
use Rattle.isa_terms.specs.Equal.{tm_eq}
use Rattle.isa_terms.specs.Replace.{raise, put, replace}
use Rattle.isa_terms.specs.Abstraction.{or_variable, abstract_at, abstracted}
use Rattle.isa_terms.proofs.Bare.{tm_decides}

equal_numbers : (k : ℕ) → nat_eq k k ≡ true
equal_numbers k = grind (arith, nat_tests)

put_variable : (t : Tm) (k : ℕ) → put t k (Bound k) ≡ raise k 0 t
put_variable t k = ap (λ v. cond v (raise k 0 t) (cond (nat_lt k k) (Bound (k - 1)) (Bound k))) (equal_numbers k)

chosen_back : (t : Tm) (k : ℕ) (u other : Tm) (b : Bool) → tm_eq (raise k 0 t) u ≡ b → bare (put t k other) ≡ bare u → bare (put t k (cond b (Bound k) other)) ≡ bare u
chosen_back t k u other true h e = ap bare (put_variable t k) ∙ (tm_decides (raise k 0 t) u).0 h
chosen_back t k u other false h e = e

back : (t : Tm) (k : ℕ) (u other : Tm) → bare (put t k other) ≡ bare u → bare (put t k (or_variable t k u other)) ≡ bare u
back t k u other e = chosen_back t k u other (tm_eq (raise k 0 t) u) refl e

below_put : (t : Tm) (k i : ℕ) → i < k → put t k (Bound i) ≡ Bound i
below_put t k i h =
    let e : nat_eq i k ≡ false = grind (arith, nat_tests) in
    let l : nat_lt k i ≡ false = grind (arith, nat_tests) in
    λ j. cond (e j) (raise k 0 t) (cond (l j) (Bound (i - 1)) (Bound i))

above_put : (t : Tm) (k i : ℕ) → k ≤ i → put t k (Bound (i + 1)) ≡ Bound i
above_put t k i h =
    let e : nat_eq (i + 1) k ≡ false = grind (arith, nat_tests) in
    let l : nat_lt k (i + 1) ≡ true = grind (arith, nat_tests) in
    let m : i + 1 - 1 ≡ i = omega arith in
    (λ j. cond (e j) (raise k 0 t) (cond (l j) (Bound (i + 1 - 1)) (Bound (i + 1)))) ∙ ap Bound m

number_back : (t : Tm) (k i : ℕ) (b : Bool) → nat_lt i k ≡ b → bare (put t k (cond b (Bound i) (Bound (i + 1)))) ≡ Bound i
number_back t k i true h = let l : i < k = grind (arith, nat_tests) in ap bare (below_put t k i l)
number_back t k i false h = let l : k ≤ i = grind (arith, nat_tests) in ap bare (above_put t k i l)

abstract_back : (t : Tm) (k : ℕ) (u : Tm) → bare (put t k (abstract_at t k u)) ≡ bare u
abstract_back t k (Const x T) = back t k (Const x T) (Const x T) refl
abstract_back t k (Free x T) = back t k (Free x T) (Free x T) refl
abstract_back t k (Unknown x i T) = back t k (Unknown x i T) (Unknown x i T) refl
abstract_back t k (Bound i) = back t k (Bound i) (cond (nat_lt i k) (Bound i) (Bound (i + 1))) (number_back t k i (nat_lt i k) refl)
abstract_back t k (Abs x T b) = back t k (Abs x T b) (Abs x T (abstract_at t (k + 1) b)) (ap (Abs [] T) (abstract_back t (k + 1) b))
abstract_back t k (App f a) = back t k (App f a) (App (abstract_at t k f) (abstract_at t k a)) (λ i. App (abstract_back t k f i) (abstract_back t k a i))

pub abstracted_back : (t u : Tm) → bare (replace (abstracted t u) t) ≡ bare u
abstracted_back t u = abstract_back t 0 u

-- ---- where the term stands
pub abstract_here : (t h : Tm) (k : ℕ) (u : Tm) → h ≡ raise k 0 t → tm_eq h u ≡ true → abstract_at t k u ≡ Bound k
abstract_here t h k u e d = abstract_equal t k u (ap (λ g. tm_eq g u) (sym e) ∙ d)
  where
    abstract_equal : (t : Tm) (k : ℕ) (u : Tm) → tm_eq (raise k 0 t) u ≡ true → abstract_at t k u ≡ Bound k
    abstract_equal t k (Const x T) d = ap (λ b. cond b (Bound k) (Const x T)) d
    abstract_equal t k (Free x T) d = ap (λ b. cond b (Bound k) (Free x T)) d
    abstract_equal t k (Unknown x i T) d = ap (λ b. cond b (Bound k) (Unknown x i T)) d
    abstract_equal t k (Bound i) d = ap (λ b. cond b (Bound k) (cond (nat_lt i k) (Bound i) (Bound (i + 1)))) d
    abstract_equal t k (Abs x T c) d = ap (λ b. cond b (Bound k) (Abs x T (abstract_at t (k + 1) c))) d
    abstract_equal t k (App f a) d = ap (λ b. cond b (Bound k) (App (abstract_at t k f) (abstract_at t k a))) d
