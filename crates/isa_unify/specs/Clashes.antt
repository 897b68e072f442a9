-- Clashes: places at which two terms have rigid heads that disagree, so that no instance makes the terms equal.
-- Source: the rigid-rigid case of higher-order unification (Huet, "A unification algorithm for typed lambda-calculus", 1975; for patterns Nipkow, "Functional unification of higher-order patterns", 1993).
use Rattle.std.specs.Prelude.{◌≡◌, ℕ, zero, suc, ◌+◌, ◌↔◌, ◌⊎◌, Bool, true, false, List, [], ◌∷◌, length, slice_get, Some}
use Rattle.isa_terms.specs.Types.{Ty}
use Rattle.isa_terms.specs.Terms.{Tm, Const, Free, Unknown, Bound, Abs, App}
use Rattle.isa_terms.specs.Typing.{function_of}
use Rattle.isa_terms.specs.Normal.{IsHead}
use Rattle.isa_terms.specs.Instance.{Instance, inst_ty}
use Rattle.isa_terms.specs.declared.inst.TypeEntry.{TypeEntry}
use Rattle.isa_unify.specs.declared.equation.Equation.{Equation}
use Rattle.isa_unify.specs.Matching.{IsAsked, IsMatch}
use Rattle.isa_unify.specs.Spines.{head_of, args_of, is_flexible}
use Rattle.isa_unify.specs.Unification.{opened, clashes}

-- Below, `fixed` says whether the unknowns and type unknowns of the right term count as constants, as they do in matching.

-- two types that an instance makes equal
abbrev pub TypesAgree : Bool → Ty → Ty → Type 0
TypesAgree false S T = (r : List TypeEntry) × (inst_ty r S ≡ inst_ty r T)
TypesAgree true S T = (r : List TypeEntry) × (inst_ty r S ≡ T)

-- heads that agree: constants, or free variables, of one name whose types agree, or the same bound variable
abbrev pub HeadsAgree : Bool → Tm → Tm → Type 0
HeadsAgree fixed (Const x S) (Const y T) = (x ≡ y) × TypesAgree fixed S T
HeadsAgree fixed (Free x S) (Free y T) = (x ≡ y) × TypesAgree fixed S T
HeadsAgree fixed (Bound m) (Bound n) = m ≡ n
HeadsAgree fixed g h = ⊥

-- two rigid terms: they are no abstractions, and no unknown stands at their heads, but for one that counts as a constant
pub record AreRigid (fixed : Bool) (t u : Tm) : Type 0 where
  pub left_head : IsHead t
  pub right_head : IsHead u
  pub left : is_flexible t ≡ false
  pub right : fixed ≡ false → is_flexible u ≡ false

-- At some place both terms are rigid, and the heads don't agree or the numbers of arguments differ. Places are reached by
-- stripping abstractions together, a side that is none being applied to the new variable, and through the arguments of
-- rigid heads that agree.
pub data Clash (fixed : Bool) : Tm → Tm → Type 0 where
  heads : {t u : Tm} → AreRigid fixed t u → (HeadsAgree fixed (head_of t) (head_of u) → ⊥) → Clash fixed t u
  numbers : {t u : Tm} → AreRigid fixed t u → (length (args_of t) ≡ length (args_of u) → ⊥) → Clash fixed t u
  argument : {t u : Tm} → AreRigid fixed t u → HeadsAgree fixed (head_of t) (head_of u) → (i : ℕ) (a b : Tm) → slice_get (args_of t) i ≡ Some a → slice_get (args_of u) i ≡ Some b → Clash fixed a b → Clash fixed t u
  bodies : {x y : List ℕ} {S T : Ty} {b c : Tm} → Clash fixed b c → Clash fixed (Abs x S b) (Abs y T c)
  left : {x : List ℕ} {S : Ty} {b u : Tm} → IsHead u → Clash fixed b (opened u) → Clash fixed (Abs x S b) u
  right : {y : List ℕ} {T : Ty} {t c : Tm} → IsHead t → Clash fixed (opened t) c → Clash fixed t (Abs y T c)

-- the sides of one of the equations clash
abbrev pub HaveClash : List Equation → Type 0
HaveClash [] = ⊥
HaveClash (e ∷ es) = Clash false e.left e.right ⊎ HaveClash es

-- the test of unification finds the clashes, and nothing else
abbrev pub ClashesAreFound : Type 0
ClashesAreFound = (es : List Equation) → (clashes es ≡ true) ↔ HaveClash es

-- a pattern that clashes with a term whose unknowns count as constants has no match with it
abbrev pub ClashHasNoMatch : Type 0
ClashHasNoMatch = (p t : Tm) → IsAsked p t → Clash true p t → (s : Instance) → IsMatch p t s → ⊥

-- f applied to the bound variables of k binders, the outermost first, under d binders more
abbrev pub on_parameters : Tm → ℕ → ℕ → Tm
on_parameters f zero d = f
on_parameters f (suc k) d = on_parameters (App f (Bound (k + d))) k d

-- the type of functions from those types, the first one first
abbrev pub over_types : List Ty → Ty → Ty
over_types [] T = T
over_types (S ∷ Ss) T = function_of S (over_types Ss T)

-- the term under binders of those types, the first of them the outermost, with each unknown applied to all their variables; here under d binders more
abbrev pub lifted : List Ty → ℕ → Tm → Tm
lifted Ts d (Const x T) = Const x T
lifted Ts d (Free x T) = Free x T
lifted Ts d (Unknown x i T) = on_parameters (Unknown x i (over_types Ts T)) (length Ts) d
lifted Ts d (Bound i) = Bound i
lifted Ts d (Abs x T b) = Abs x T (lifted Ts (d + 1) b)
lifted Ts d (App f a) = App (lifted Ts d f) (lifted Ts d a)

-- u is t with terms that have unknowns at their heads in the places of its unknowns
abbrev pub IsLifting : Tm → Tm → Type 0
IsLifting (Const x T) u = Const x T ≡ u
IsLifting (Free x T) u = Free x T ≡ u
IsLifting (Unknown x i T) u = IsHead u × (is_flexible u ≡ true)
IsLifting (Bound n) u = Bound n ≡ u
IsLifting (Abs x T b) (Abs y U c) = IsLifting b c
IsLifting (App f a) (App g c) = IsLifting f g × IsLifting a c
IsLifting _ _ = ⊥

-- the lifted term is such a one
abbrev pub LiftedIsLifting : Type 0
LiftedIsLifting = (Ts : List Ty) (d : ℕ) (t : Tm) → IsLifting t (lifted Ts d t)

-- where a term clashes with another, so does the lifted term
abbrev pub LiftingsClash : Type 0
LiftingsClash = (fixed : Bool) (k l t : Tm) → IsLifting k l → Clash fixed k t → Clash fixed l t
