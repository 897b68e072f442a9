-- Computations that tick.
-- Source: the state monad of functional programming, for a number of ticks that is spent.
use Rattle.std.specs.Prelude.{ℕ, zero, suc, Option, Some, None}

-- with so many ticks to spend: the result and the ticks left, or that more come
pub data Spent (A : Type 0) : Type 0 where
  Past : Spent A
  Gives : (result : A) (left : ℕ) → Spent A

abbrev pub Ticking : Type 0 → Type 0
Ticking A = ℕ → Spent A

-- a, without a tick
abbrev pub now : {A : Type 0} → A → Ticking A
now a n = Gives a n

abbrev pub go_on : {A B : Type 0} → Spent A → (A → Ticking B) → Spent B
go_on Past f = Past
go_on (Gives a n) f = f a n

-- m, and then f at its result
abbrev pub then_do : {A B : Type 0} → Ticking A → (A → Ticking B) → Ticking B
then_do m f n = go_on (m n) f

-- a tick, and then m
abbrev pub tick : {A : Type 0} → Ticking A → Ticking A
tick m zero = Past
tick m (suc n) = m n

abbrev pub choose : {A : Type 0} → Option A → Ticking (Option A) → Ticking (Option A)
choose (Some a) other = now (Some a)
choose None other = other

-- the result of the first, where it has one, or else that of the other
abbrev pub or_else : {A : Type 0} → Ticking (Option A) → Ticking (Option A) → Ticking (Option A)
or_else m other = then_do m (λ o. choose o other)
