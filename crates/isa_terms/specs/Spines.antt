-- The arguments of a term, and a head applied to arguments.
-- Source: applications as spines (Cervesato and Pfenning, "A linear spine calculus", 2003).
use Rattle.std.specs.Prelude.{List, [], ◌∷◌, ◌++◌, Option, Some, None}
use Rattle.isa_terms.specs.Terms.{Tm, App}

-- the arguments to which the head of the term is applied, from left to right
abbrev pub args_of : Tm → List Tm
args_of (App f a) = args_of f ++ a ∷ []
args_of t = []

-- h applied to the arguments, from left to right
abbrev pub applied_to : Tm → List Tm → Tm
applied_to h [] = h
applied_to h (u ∷ us) = applied_to (App h u) us

-- the values that are there
abbrev pub present : List (Option Tm) → List Tm
present [] = []
present (None ∷ os) = present os
present (Some t ∷ os) = t ∷ present os
