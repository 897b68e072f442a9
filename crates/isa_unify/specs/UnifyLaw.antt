-- What unification finds: an instance that makes the sides of the equations equal, and that is most general.
-- Source: most general unifiers (Robinson, 1965; for patterns Miller, 1991; Nipkow, "Functional unification of higher-order patterns", 1993).
use Rattle.std.specs.Prelude.{◌≡◌, ℕ, ◌+◌, ◌<◌, ◌≤◌, Bool, true, false, ◌||◌, List, [], ◌∷◌, Ok}
use Rattle.isa_terms.specs.Types.{Ty}
use Rattle.isa_terms.specs.Terms.{Tm, Unknown, Abs, App, bare}
use Rattle.isa_terms.specs.Typing.{type_at}
use Rattle.isa_terms.specs.Normal.{IsNormal}
use Rattle.isa_terms.specs.Instance.{Instance, inst_ty, instance_of}
use Rattle.isa_terms.specs.declared.inst.TypeEntry.{TypeEntry}
use Rattle.isa_terms.specs.declared.inst.TermEntry.{TermEntry}
use Rattle.isa_terms.specs.Instances.{KeepsTypes, IsFollowed}
use Rattle.isa_unify.specs.declared.equation.Equation.{Equation}
use Rattle.isa_unify.specs.declared.progress.Answer.TheVariants.{Yes, No}
use Rattle.isa_unify.specs.Matching.{has_unknown}
use Rattle.isa_unify.specs.Unification.{types_in, new_unknowns, unify}

-- each unknown of the term stands at the one type of its name and number, which is below n
abbrev pub HasUnknowns : (List ℕ → ℕ → Ty) → ℕ → Tm → Type 0
HasUnknowns typ n (Unknown x i T) = (T ≡ typ x i) × (i < n)
HasUnknowns typ n (Abs x T b) = HasUnknowns typ n b
HasUnknowns typ n (App f a) = HasUnknowns typ n f × HasUnknowns typ n a
HasUnknowns typ n _ = Unit {0}

-- the sides are well typed and normal
pub record IsGiven (typ : List ℕ → ℕ → Ty) (n : ℕ) (e : Equation) : Type 0 where
  pub left_type : Ty
  pub right_type : Ty
  pub left : type_at (types_in e.binders) e.left ≡ Ok left_type
  pub right : type_at (types_in e.binders) e.right ≡ Ok right_type
  pub left_normal : IsNormal e.left
  pub right_normal : IsNormal e.right
  pub left_unknowns : HasUnknowns typ n e.left
  pub right_unknowns : HasUnknowns typ n e.right

abbrev pub AreGiven : (List ℕ → ℕ → Ty) → ℕ → List Equation → Type 0
AreGiven typ n [] = Unit {0}
AreGiven typ n (e ∷ es) = IsGiven typ n e × AreGiven typ n es

-- the instance makes the sides of each equation equal
abbrev pub MakesEqual : Instance → List Equation → Type 0
MakesEqual r [] = Unit {0}
MakesEqual r (e ∷ es) = (bare (instance_of r e.left) ≡ bare (instance_of r e.right)) × MakesEqual r es

-- r is s and then q on the unknowns of the equations
abbrev pub GoesThrough : Instance → Instance → Instance → List Equation → Type 0
GoesThrough r s q [] = Unit {0}
GoesThrough r s q (e ∷ es) = (IsFollowed r.types r.terms s.types s.terms q.types q.terms e.left × IsFollowed r.types r.terms s.types s.terms q.types q.terms e.right) × GoesThrough r s q es

-- r is s followed by another instance
pub record IsThrough (r s : Instance) (es : List Equation) : Type 0 where
  pub rest : Instance
  pub keeps : KeepsTypes rest
  pub through : GoesThrough r s rest es

-- s makes the sides equal, and each instance that does is s followed by another
pub record IsMostGeneralFor (es : List Equation) (s : Instance) : Type 0 where
  pub keeps : KeepsTypes s
  pub equal : MakesEqual s es
  pub general : (r : Instance) → KeepsTypes r → MakesEqual r es → IsThrough r s es

-- whether the unknown stands at that type in an equation
abbrev pub equations_have : List ℕ → ℕ → Ty → List Equation → Bool
equations_have x i T [] = false
equations_have x i T (e ∷ es) = has_unknown x i T e.left || (has_unknown x i T e.right || equations_have x i T es)

-- whether it stands in the term of an entry
abbrev pub entries_have : List ℕ → ℕ → Ty → List TermEntry → Bool
entries_have x i T [] = false
entries_have x i T (f ∷ fs) = has_unknown x i T f.term || entries_have x i T fs

-- The numbers from old up to new, at most a million of them, were taken for new unknowns. Each unknown that stands in the
-- instance s is one of the equations, at the instance of its type, or a new one: so another unification may follow.
pub record GoesOn (typ : List ℕ → ℕ → Ty) (old new : ℕ) (es : List Equation) (s : Instance) : Type 0 where
  pub from : old ≤ new
  pub to : new ≤ old + new_unknowns
  pub types : List ℕ → ℕ → Ty
  pub stay : (x : List ℕ) (i : ℕ) → i < old → types x i ≡ inst_ty s.types (typ x i)
  pub unknowns : (x : List ℕ) (i : ℕ) (T : Ty) → entries_have x i T s.terms ≡ true → (T ≡ types x i) × (i < new)
  pub own : (x : List ℕ) (i : ℕ) (T : Ty) → entries_have x i T s.terms ≡ true → i < old → equations_have x i (typ x i) es ≡ true

-- no instance makes the sides equal
abbrev pub HaveNone : List Equation → Type 0
HaveNone es = (r : Instance) → KeepsTypes r → MakesEqual r es → ⊥

-- the answer No is right
abbrev pub NoIsRight : Type 0
NoIsRight = (typ : List ℕ → ℕ → Ty) (n : ℕ) (es : List Equation) → AreGiven typ n es → unify es n ≡ No → HaveNone es

-- the answer Yes is right: its instance makes the sides equal, and is most general
abbrev pub YesIsRight : Type 0
YesIsRight =
    (typ : List ℕ → ℕ → Ty) (n : ℕ) (es : List Equation) → AreGiven typ n es →
    (ts : List TypeEntry) (fs : List TermEntry) (m : ℕ) → unify es n ≡ Yes ts fs m → IsMostGeneralFor es (record { types = ts; terms = fs })

-- after the answer Yes another unification may follow
abbrev pub YesGoesOn : Type 0
YesGoesOn =
    (typ : List ℕ → ℕ → Ty) (n : ℕ) (es : List Equation) → AreGiven typ n es →
    (ts : List TypeEntry) (fs : List TermEntry) (m : ℕ) → unify es n ≡ Yes ts fs m → GoesOn typ n m es (record { types = ts; terms = fs })
