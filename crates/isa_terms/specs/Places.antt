-- Places in a term: a list of turns, read from the top of the term.
-- Source: positions in terms (Baader and Nipkow, "Term rewriting and all that", 1998, chapter 3).
use Rattle.std.specs.Prelude.{List, [], ◌∷◌, Option, Some, None, option_map}
use Rattle.isa_terms.specs.Terms.{Tm, Abs, App}
use Rattle.isa_terms.specs.declared.typing.Turn.{Turn}
use Rattle.isa_terms.specs.declared.typing.Turn.TheVariants.{Fun, Arg, Body}

-- the part of the term at the place, if the term has that place
abbrev pub subterm_at : List Turn → Tm → Option Tm
subterm_at [] t = Some t
subterm_at (Fun ∷ p) (App f a) = subterm_at p f
subterm_at (Arg ∷ p) (App f a) = subterm_at p a
subterm_at (Body ∷ p) (Abs x T b) = subterm_at p b
subterm_at (turn ∷ p) t = None

-- the term with u at the place, if the term has that place; no number of u is raised
abbrev pub with_subterm_at : List Turn → Tm → Tm → Option Tm
with_subterm_at [] u t = Some u
with_subterm_at (Fun ∷ p) u (App f a) = option_map (λ g. App g a) (with_subterm_at p u f)
with_subterm_at (Arg ∷ p) u (App f a) = option_map (λ b. App f b) (with_subterm_at p u a)
with_subterm_at (Body ∷ p) u (Abs x T b) = option_map (λ c. Abs x T c) (with_subterm_at p u b)
with_subterm_at (turn ∷ p) u t = None
