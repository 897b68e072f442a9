-- Terms that are equal up to a renaming of unknowns.
-- Source: permutative rewrite rules (the Isabelle/Isar Reference Manual, "The Simplifier", "Ordered rewriting").
use Rattle.std.specs.Prelude.{◌≡◌, ℕ, List, [], ◌∷◌, ◌++◌, Bool, true, false, ◌&&◌, Option, Some, None, is_some, if◌then◌else◌}
use Rattle.isa_terms.specs.Types.{Ty}
use Rattle.isa_terms.specs.Terms.{Tm, Const, Free, Unknown, Bound, Abs, App}
use Rattle.isa_terms.specs.Equal.{ty_eq, tm_eq}
use Rattle.isa_kernel.specs.Forms.{◌>>=◌}

abbrev pub both_or_neither : Bool → Bool → Bool
both_or_neither true b = b
both_or_neither false true = false
both_or_neither false false = true

-- whether u may be renamed to v: each pair has both as its sides, or neither
abbrev pub may_pair : List (Tm × Tm) → Tm → Tm → Bool
may_pair [] u v = true
may_pair (p ∷ ps) u v = both_or_neither (tm_eq p.0 u) (tm_eq p.1 v) && may_pair ps u v

-- the pairs of unknowns, with that one, where it may come to them
abbrev pub paired : List (Tm × Tm) → Tm → Tm → Option (List (Tm × Tm))
paired ps u v = if may_pair ps u v then Some (ps ++ (u, v) ∷ []) else None

-- the pairs, and those by which the unknowns of t are renamed to give u; types stay
abbrev pub renaming : List (Tm × Tm) → Tm → Tm → Option (List (Tm × Tm))
renaming ps (Unknown x i T) (Unknown y j U) = if ty_eq T U then paired ps (Unknown x i T) (Unknown y j U) else None
renaming ps (Abs x T b) (Abs y U c) = if ty_eq T U then renaming ps b c else None
renaming ps (App f a) (App g b) = do
  qs ← renaming ps f g
  renaming qs a b
renaming ps (Unknown x i T) u = None
renaming ps (Abs x T b) u = None
renaming ps (App f a) u = None
renaming ps t u = if tm_eq t u then Some ps else None

-- whether a renaming of unknowns, one to one, makes t equal to u
abbrev pub is_renamed : Tm → Tm → Bool
is_renamed t u = is_some (renaming [] t u)
