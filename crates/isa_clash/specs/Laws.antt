-- What the test shows.
-- Source: terms that clash have no unifier and no match (Huet, 1975; for patterns Nipkow, "Functional unification of higher-order patterns", 1993).
use Rattle.std.specs.Prelude.{◌≡◌, ℕ, ◌⊎◌, Bool, true, false, List, [], ◌∷◌, None}
use Rattle.isa_terms.specs.Types.{Ty}
use Rattle.isa_terms.specs.Terms.{Tm, Const, Abs, App}
use Rattle.isa_terms.specs.Instance.{Instance}
use Rattle.isa_unify.specs.declared.equation.Equation.{Equation}
use Rattle.isa_unify.specs.declared.progress.Answer.TheVariants.{No}
use Rattle.isa_unify.specs.Clashes.{IsLifting}
use Rattle.isa_unify.specs.Matching.{all_from}
use Rattle.isa_unify.specs.Unification.{unify}
use Rattle.isa_clash.specs.Differing.{differ}

-- the terms differ, or their bodies do, or the arguments of one constant, as of `!!`
pub data Differ (fixed : Bool) : Tm → Tm → Type 0 where
  here : {t u : Tm} → differ fixed t u ≡ true → Differ fixed t u
  under : {x y : List ℕ} {S T : Ty} {t u : Tm} → Differ fixed t u → Differ fixed (Abs x S t) (Abs y T u)
  argument : {c : List ℕ} {S T : Ty} {t u : Tm} → Differ fixed t u → Differ fixed (App (Const c S) t) (App (Const c T) u)

-- the sides of one of the equations differ
abbrev pub HaveDifferent : List Equation → Type 0
HaveDifferent [] = ⊥
HaveDifferent (e ∷ es) = Differ false e.left e.right ⊎ HaveDifferent es

-- one of the patterns and the term at its place differ
abbrev pub MatchDifferent : List Tm → List Tm → Type 0
MatchDifferent (p ∷ ps) (t ∷ ts) = Differ true p t ⊎ MatchDifferent ps ts
MatchDifferent _ _ = ⊥

-- a lifted term differs where the term does
abbrev pub LiftingsDiffer : Type 0
LiftingsDiffer = (fixed : Bool) (k l t : Tm) → IsLifting k l → differ fixed k t ≡ true → differ fixed l t ≡ true

-- unification answers No
abbrev pub DifferingHaveNoUnifier : Type 0
DifferingHaveNoUnifier = (es : List Equation) (k : ℕ) → HaveDifferent es → unify es k ≡ No

-- there is no match, from whatever instance matching goes on
abbrev pub DifferingHaveNoMatch : Type 0
DifferingHaveNoMatch = (s : Instance) (ps ts : List Tm) → MatchDifferent ps ts → all_from s ps ts ≡ None
