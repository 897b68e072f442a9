-- A bound variable in the place of a part of a term.
-- Source: abstraction over a term (Isabelle's `Term.abstract_over`), here over one that may have loose bound variables.
use Rattle.std.specs.Prelude.{ℕ, ◌+◌, nat_lt, if◌then◌else◌}
use Rattle.isa_terms.specs.Terms.{Tm, Const, Free, Unknown, Bound, Abs, App}
use Rattle.isa_terms.specs.Equal.{tm_eq}
use Rattle.isa_terms.specs.Replace.{raise}

-- the variable k of k binders, where u is equal to t; else the other term
abbrev pub or_variable : Tm → ℕ → Tm → Tm → Tm
or_variable t k u other = if tm_eq (raise k 0 t) u then Bound k else other

-- The variable k of k binders in each place of u that is equal to t, but for the names of binders: such a place holds no variable of the k binders, and t's loose numbers are counted from outside of them. The other numbers that are loose in u make room for one more binder.
abbrev pub abstract_at : Tm → ℕ → Tm → Tm
abstract_at t k (Const x T) = or_variable t k (Const x T) (Const x T)
abstract_at t k (Free x T) = or_variable t k (Free x T) (Free x T)
abstract_at t k (Unknown x i T) = or_variable t k (Unknown x i T) (Unknown x i T)
abstract_at t k (Bound i) = or_variable t k (Bound i) (if nat_lt i k then Bound i else Bound (i + 1))
abstract_at t k (Abs x T b) = or_variable t k (Abs x T b) (Abs x T (abstract_at t (k + 1) b))
abstract_at t k (App f a) = or_variable t k (App f a) (App (abstract_at t k f) (abstract_at t k a))

-- the body of a binder over all places of u that are equal to t
abbrev pub abstracted : Tm → Tm → Tm
abstracted t u = abstract_at t 0 u
