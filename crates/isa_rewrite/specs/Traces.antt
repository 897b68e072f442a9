-- What events after each other say of the definition.
-- Source: this project.
use Rattle.std.specs.Prelude.{◌≡◌, ℕ, zero, suc, ◌<◌}
use Rattle.isa_terms.specs.Terms.{Tm}
use Rattle.isa_rewrite.specs.Ticking.{Spent, Gives, Ticking, now, tick}

-- x goes on as y after so many ticks
abbrev pub GoesOn : ℕ → Ticking Tm → Ticking Tm → Type 0
GoesOn zero x y = (n : ℕ) → x n ≡ y n
GoesOn (suc k) x y = (z : Ticking Tm) × ((n : ℕ) → x n ≡ tick z n) × GoesOn k z y

-- A rewriter that answered k times `Tick` and then `Done` with u: the definition gives u after k ticks, and nothing else. One that answered `Tick` once more: no result comes after k ticks or fewer.
pub record TicksAreCounted : Type 0 where
  pub done : (k : ℕ) (x : Ticking Tm) (u : Tm) → GoesOn k x (now u) → x k ≡ Gives u 0
  pub only : (k n : ℕ) (x : Ticking Tm) (u v : Tm) → GoesOn k x (now v) → x n ≡ Gives u 0 → (n ≡ k) × (u ≡ v)
  pub later : (k n : ℕ) (x y : Ticking Tm) (u : Tm) → GoesOn k x (tick y) → x n ≡ Gives u 0 → k < n
