-- The steps of simplification, as laws.
-- Source: the Simplifier of Isabelle (the Isabelle/Isar Reference Manual, "The Simplifier"); the order of the steps is this project's.
use Rattle.std.specs.Prelude.{◌≡◌, ℕ, List}
use Rattle.isa_terms.specs.Types.{Ty}
use Rattle.isa_terms.specs.Terms.{Tm, Abs}
use Rattle.isa_terms.specs.Normal.{IsHead}
use Rattle.isa_rewrite.specs.Ticking.{now, then_do, tick}
use Rattle.isa_rewrite.specs.Simpsets.{Simpset, Place}
use Rattle.isa_rewrite.specs.Opening.{opened, closed}
use Rattle.isa_rewrite.specs.Simplification.{by_candidates, cong_at, under, by_parts, go_on_with, root, simp}

-- the four steps, for each number n of ticks that may be spent
pub record GoesBySteps (ss : Simpset) : Type 0 where
  -- an abstraction gives the abstraction of its body's result
  pub abstraction : (p : Place) (x : List ℕ) (T : Ty) (b : Tm) (n : ℕ) → simp ss p (Abs x T b) n ≡ then_do (simp ss (under p) (opened p.level T b)) (λ c. now (closed p.level x T c)) n
  -- any other term is simplified by its parts, and what they give at its root
  pub parts : (p : Place) (t : Tm) (n : ℕ) → IsHead t → simp ss p t n ≡ then_do (by_parts (simp ss) p t (cong_at p t ss.congs)) (root ss p) n
  -- at the root: a tick, the first procedure or rule that applies, and simplification anew, or nothing more
  pub attempt : (p : Place) (t : Tm) (n : ℕ) → root ss p t n ≡ tick (then_do (by_candidates ss (simp ss) p t) (go_on_with (simp ss p) t)) n

abbrev pub SimplificationGoesBySteps : Type 0
SimplificationGoesBySteps = (ss : Simpset) → GoesBySteps ss
