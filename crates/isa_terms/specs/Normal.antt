-- What a normal form is.
-- Source: textbooks on the lambda calculus.
use Rattle.std.specs.Prelude.{◌≡◌, nat_eq, Bool, false, not, ◌&&◌}
use Rattle.isa_terms.specs.Terms.{Tm, Bound, Abs, App}
use Rattle.isa_terms.specs.Norm.{loose}

-- whether the body of an abstraction is `f x`, x not in f
abbrev pub redex_at : Tm → Tm → Bool
redex_at f (Bound i) = nat_eq i 0 && not (loose 0 f)
redex_at f _ = false

abbrev pub redex : Tm → Bool
redex (App f a) = redex_at f a
redex _ = false

-- it is no abstraction
abbrev pub IsHead : Tm → Type 0
IsHead (Abs x T b) = ⊥
IsHead _ = Unit {0}

-- no abstraction is applied, and none is `%x. f x`, x not in f
abbrev pub IsNormal : Tm → Type 0
IsNormal (Abs x T b) = IsNormal b × (redex b ≡ false)
IsNormal (App f a) = IsHead f × (IsNormal f × IsNormal a)
IsNormal _ = Unit {0}
