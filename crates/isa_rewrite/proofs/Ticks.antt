-- Computations that agree up to a number of ticks.
use Rattle.std.proofs.Common.{◌≡◌, ℕ, zero, suc, ◌≤◌, Bool, true, false, cond, Option, Some, None, refl, sym, ap, ◌∙◌, arith}
use Rattle.isa_rewrite.specs.Ticking.{Spent, Past, Gives, Ticking, now, go_on, then_do, tick, choose, or_else}

-- no more ticks are left than there were
abbrev pub Left : {A : Type 0} → ℕ → Spent A → Type 0
Left n Past = Unit {0}
Left n (Gives u l) = l ≤ n

pub left_more : {A : Type 0} (n m : ℕ) (a : Spent A) → Left n a → n ≤ m → Left m a
left_more n m Past h e = tt
left_more n m (Gives u l) h e = omega (arith, h, e)

-- two computations do the same with up to m ticks, and leave no more than they were given
pub record Like (A : Type 0) (m : ℕ) (r s : ℕ → Spent A) : Type 0 where
  pub same : (n : ℕ) → n ≤ m → r n ≡ s n
  pub left : (n : ℕ) → n ≤ m → Left n (r n)

pub like_less : {A : Type 0} (n m : ℕ) (r s : ℕ → Spent A) → Like A m r s → n ≤ m → Like A n r s
like_less n m r s h e = record { same = λ k d. h.same k (omega (arith, d, e)); left = λ k d. h.left k (omega (arith, d, e)) }

pub like_now : {A : Type 0} (m : ℕ) (a : A) → Like A m (now a) (now a)
like_now m a = record { same = λ n e. refl; left = λ n e. omega arith }

pub like_past : {A : Type 0} (m : ℕ) → Like A m (λ n. Past) (λ n. Past)
like_past m = record { same = λ n e. refl; left = λ n e. tt }

pub like_then : {A B : Type 0} (m : ℕ) (r s : ℕ → Spent A) (f g : A → ℕ → Spent B) → Like A m r s → ((a : A) → Like B m (f a) (g a)) → Like B m (then_do r f) (then_do s g)
like_then {A} {B} m r s f g h k = record { same = λ n e. on_same n e (r n) (s n) (h.same n e) (h.left n e); left = λ n e. on_left n e (r n) (h.left n e) }
  where
    on_same : (n : ℕ) → n ≤ m → (x y : Spent A) → x ≡ y → Left n x → go_on x f ≡ go_on y g
    on_same n e Past y p l = ap (λ z. go_on z g) p
    on_same n e (Gives a j) y p l = (k a).same j (omega (arith, l, e)) ∙ ap (λ z. go_on z g) p

    on_left : (n : ℕ) → n ≤ m → (x : Spent A) → Left n x → Left n (go_on x f)
    on_left n e Past l = tt
    on_left n e (Gives a j) l = left_more j n (f a j) ((k a).left j (omega (arith, l, e))) l

-- a tick needs one more
pub like_tick : {A : Type 0} (m : ℕ) (r s : ℕ → Spent A) → Like A m r s → Like A (suc m) (tick r) (tick s)
like_tick {A} m r s h = record { same = same; left = left }
  where
    same : (n : ℕ) → n ≤ suc m → tick r n ≡ tick s n
    same zero e = refl
    same (suc n) e = h.same n (omega (arith, e))

    left : (n : ℕ) → n ≤ suc m → Left n (tick r n)
    left zero e = tt
    left (suc n) e = left_more n (suc n) (r n) (h.left n (omega (arith, e))) (omega arith)

pub like_choose : {A : Type 0} (m : ℕ) (o : Option A) (r s : ℕ → Spent (Option A)) → Like (Option A) m r s → Like (Option A) m (choose o r) (choose o s)
like_choose m None r s h = h
like_choose m (Some a) r s h = like_now m (Some a)

pub like_or : {A : Type 0} (m : ℕ) (r s p q : ℕ → Spent (Option A)) → Like (Option A) m r s → Like (Option A) m p q → Like (Option A) m (or_else r p) (or_else s q)
like_or m r s p q h k = like_then m r s (λ o. choose o p) (λ o. choose o q) h (λ o. like_choose m o p q k)

pub like_if : {A : Type 0} (m : ℕ) (b : Bool) (r s p q : ℕ → Spent A) → Like A m r s → Like A m p q → Like A m (cond b r p) (cond b s q)
like_if m true r s p q h k = h
like_if m false r s p q h k = k

pub go_now : {A : Type 0} (a : Spent A) → go_on a now ≡ a
go_now Past = refl
go_now (Gives u n) = refl

pub go_same : {A B : Type 0} (a : Spent A) (f g : A → ℕ → Spent B) → ((u : A) (n : ℕ) → f u n ≡ g u n) → go_on a f ≡ go_on a g
go_same Past f g h = refl
go_same (Gives u n) f g h = h u n

pub go_assoc : {A B C : Type 0} (a : Spent A) (f : A → ℕ → Spent B) (g : B → ℕ → Spent C) → go_on (go_on a f) g ≡ go_on a (λ u. then_do (f u) g)
go_assoc Past f g = refl
go_assoc (Gives u n) f g = refl
