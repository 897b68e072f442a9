-- A quick test for terms that no instance makes equal: at some place two heads have other names, or other numbers of arguments.
-- Source: the rigid-rigid case of higher-order unification (Huet, "A unification algorithm for typed lambda-calculus", 1975), without its types and abstractions.
-- `fixed` says whether the unknowns of the right term count as constants, as they do in matching.
use Rattle.std.specs.Prelude.{Bool, true, false, not, ◌&&◌, ◌||◌}
use Rattle.isa_terms.specs.Terms.{Tm, Const, Free, Unknown, Abs, App}
use Rattle.isa_terms.specs.Equal.{name_eq}

-- whether a constant or a free variable stands at the head
abbrev pub is_named : Tm → Bool
is_named (Const x T) = true
is_named (Free x T) = true
is_named (App f a) = is_named f
is_named _ = false

-- whether no instance changes the head: it is no abstraction, and no unknown, unless unknowns count as constants
abbrev pub is_firm : Bool → Tm → Bool
is_firm fixed (Unknown x i T) = fixed
is_firm fixed (Abs x T b) = false
is_firm fixed (App f a) = is_firm fixed f
is_firm fixed _ = true

-- whether the terms differ where no instance changes their heads: the heads do, or arguments at one place; the arguments are compared from the last
abbrev pub differ_at : Bool → Tm → Tm → Bool
differ_at fixed (Const x S) (Const y T) = not (name_eq x y)
differ_at fixed (Free x S) (Free y T) = not (name_eq x y)
differ_at fixed (App f a) (App g b) = differ_at fixed f g || (is_named a && (is_firm fixed b && differ_at fixed a b))
differ_at fixed _ _ = true

-- whether they differ at a place that no instance changes
abbrev pub differ : Bool → Tm → Tm → Bool
differ fixed t u = is_named t && (is_firm fixed u && differ_at fixed t u)
