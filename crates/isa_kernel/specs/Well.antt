-- Terms that fit a theory, and why an axiom is refused.
-- Source: Isabelle/Pure's certified terms (The Isabelle/Isar Implementation Manual, "Types" and "Terms"), without sorts.
use Rattle.std.specs.Prelude.{◌≡◌, ℕ, List, [], Option, Some, None, Err, Ok, length}
use Rattle.isa_terms.specs.Types.{Ty, Tys, TyCon, TyFixed, TyUnknown, NoTys, MoreTys, list_of}
use Rattle.isa_terms.specs.Terms.{Tm, Const, Free, Unknown, Bound, Abs, App}
use Rattle.isa_terms.specs.Typing.{TypeFault, type_at, told}
use Rattle.isa_terms.specs.Instance.{inst_ty}
use Rattle.isa_terms.specs.declared.inst.TypeEntry.{TypeEntry}
use Rattle.isa_kernel.specs.Logic.{prop, IsProposition}
use Rattle.isa_kernel.specs.Theories.{arity_of, constant_type, axiom_prop, axiom_refusal}
use Rattle.isa_kernel.specs.declared.declarations.Declaration.{Declaration}
use Rattle.isa_kernel.specs.declared.declarations.TheoryFail.{TheoryFail}
use Rattle.isa_kernel.specs.declared.declarations.TheoryFail.TheVariants.{Duplicate, Misfit, IllTyped, NotProp, Memory}
use Rattle.isa_kernel.specs.declared.declarations.TheoryFail.TheVariants as fail

-- types for the type unknowns of S make it T
abbrev pub IsInstanceOf : Ty → Ty → Type 0
IsInstanceOf S T = (types : List TypeEntry) × (inst_ty types S ≡ T)

-- each type constructor is declared, with the number of arguments that it has
abbrev mutual
  pub WellTy : List Declaration → Ty → Type 0
  WellTy ds (TyCon x Ts) = (arity_of ds x ≡ Some (length (list_of Ts))) × WellTys ds Ts
  WellTy ds (TyFixed x) = Unit {0}
  WellTy ds (TyUnknown x i) = Unit {0}

  pub WellTys : List Declaration → Tys → Type 0
  WellTys ds NoTys = Unit {0}
  WellTys ds (MoreTys T Ts) = WellTy ds T × WellTys ds Ts

-- the constant is declared, and stands at an instance of its declared type
abbrev pub IsWellConstant : List Declaration → List ℕ → Ty → Type 0
IsWellConstant ds x T = (S : Ty) × (constant_type ds x ≡ Some S) × IsInstanceOf S T

-- each constant stands at an instance of its declared type, and each type constructor has its declared number of arguments
abbrev pub Well : List Declaration → Tm → Type 0
Well ds (Const x T) = IsWellConstant ds x T × WellTy ds T
Well ds (Free x T) = WellTy ds T
Well ds (Unknown x i T) = WellTy ds T
Well ds (Bound i) = Unit {0}
Well ds (Abs x T b) = WellTy ds T × Well ds b
Well ds (App f a) = Well ds f × Well ds a

-- what holds of an axiom where it is refused for a reason, or for none: first its name has to be new, then the term has to fit the theory, then it has to be well typed, and then a proposition
abbrev pub IsRefusedFor : List Declaration → List ℕ → Tm → Option TheoryFail → Type 0
IsRefusedFor ds x p None = (axiom_prop ds x ≡ None) × Well ds p × IsProposition p
IsRefusedFor ds x p (Some (Duplicate y)) = ((q : Tm) × (axiom_prop ds x ≡ Some q)) × (y ≡ x)
IsRefusedFor ds x p (Some (fail.Unknown y)) = (axiom_prop ds x ≡ None) × (Well ds p → ⊥)
IsRefusedFor ds x p (Some (Misfit y)) = (axiom_prop ds x ≡ None) × (Well ds p → ⊥)
IsRefusedFor ds x p (Some (IllTyped error)) = (axiom_prop ds x ≡ None) × Well ds p × ((fault : TypeFault) × (type_at [] p ≡ Err fault) × (error ≡ told fault))
IsRefusedFor ds x p (Some (NotProp T)) = (axiom_prop ds x ≡ None) × Well ds p × (type_at [] p ≡ Ok T) × (T ≡ prop → ⊥)
IsRefusedFor ds x p (Some Memory) = ⊥

-- an axiom is refused exactly where its name isn't new, it isn't `Well`, or it isn't of the type `prop`, in this order
abbrev pub AxiomsAreWell : Type 0
AxiomsAreWell = (ds : List Declaration) (x : List ℕ) (p : Tm) → IsRefusedFor ds x p (axiom_refusal ds x p)
