-- Laws of conversion and of normal forms.
-- Source: textbooks on the typed lambda calculus: normal forms exist, are unique, and represent the classes of conversion.
use Rattle.std.specs.Prelude.{◌≡◌, ℕ, List, map, Ok, ◌↔◌}
use Rattle.isa_terms.specs.Types.{Ty}
use Rattle.isa_terms.specs.Terms.{Tm, Abs, App, bare}
use Rattle.isa_terms.specs.Typing.{HasType, type_at}
use Rattle.isa_terms.specs.Replace.{replace}
use Rattle.isa_terms.specs.Instance.{Instance, inst_ty, inst_tm, instance_of}
use Rattle.isa_terms.specs.declared.inst.TypeEntry.{TypeEntry}
use Rattle.isa_terms.specs.declared.inst.TermEntry.{TermEntry}
use Rattle.isa_terms.specs.Norm.{norm}
use Rattle.isa_terms.specs.Normal.{IsNormal}
use Rattle.isa_terms.specs.Typed.{Typed}
use Rattle.isa_terms.specs.Conversion.{Conv}
use Rattle.isa_terms.specs.Instances.{IsKept, IsFollowed, KeepsTypes, followed_by, Each}

-- the type that a term is given by its parts is the one that the rules of typing give it
abbrev pub TypesAreGiven : Type 0
TypesAreGiven = (G : List Ty) (t : Tm) (T : Ty) → type_at G t ≡ Ok T ↔ Typed G t T

-- the normal form of a well-typed term has its type and is normal
abbrev pub NormalFormsAreNormal : Type 0
NormalFormsAreNormal = (t : Tm) (T : Ty) → HasType t T → HasType (norm t) T × IsNormal (norm t)

-- a normal term is its own normal form
abbrev pub NormalTermsStay : Type 0
NormalTermsStay = (t : Tm) → IsNormal t → norm t ≡ t

-- the normal form of a normal form is that form
abbrev pub NormalisingIsIdempotent : Type 0
NormalisingIsIdempotent = (t : Tm) (T : Ty) → HasType t T → norm (norm t) ≡ norm t

-- a well-typed term converts to its normal form
abbrev pub TermsConvertToNormalForms : Type 0
TermsConvertToNormalForms = (G : List Ty) (t : Tm) (T : Ty) → Typed G t T → Conv G T t (norm t)

-- terms convert where their normal forms are equal but for the names of binders, and nowhere else
abbrev pub NormalFormsAreUnique : Type 0
NormalFormsAreUnique = (G : List Ty) (T : Ty) (t u : Tm) → Typed G t T → Typed G u T → Conv G T t u ↔ (bare (norm t) ≡ bare (norm u))

-- a well-typed application of an abstraction is replacement in its body, and then normalising
abbrev pub ApplicationIsReplacement : Type 0
ApplicationIsReplacement = (x : List ℕ) (S T : Ty) (b a : Tm) → HasType (App (Abs x S b) a) T → bare (norm (App (Abs x S b) a)) ≡ bare (norm (replace b a))

-- an instance that keeps types gives a term of type T one of the instance of T
abbrev pub InstancesKeepTypes : Type 0
InstancesKeepTypes = (es : List TypeEntry) (fs : List TermEntry) (G : List Ty) (t : Tm) (T : Ty) → IsKept es fs → Typed G t T → Typed (map (inst_ty es) G) (inst_tm es fs t) (inst_ty es T)

-- convertible terms have convertible instances
abbrev pub InstancesKeepConversion : Type 0
InstancesKeepConversion = (es : List TypeEntry) (fs : List TermEntry) (G : List Ty) (T : Ty) (t u : Tm) → IsKept es fs → Conv G T t u → Conv (map (inst_ty es) G) (inst_ty es T) (inst_tm es fs t) (inst_tm es fs u)

-- the instance of a normal form has the normal form of the term's instance
abbrev pub InstancesOfNormalForms : Type 0
InstancesOfNormalForms = (es : List TypeEntry) (fs : List TermEntry) (t : Tm) (T : Ty) → IsKept es fs → HasType t T → bare (norm (inst_tm es fs (norm t))) ≡ bare (norm (inst_tm es fs t))

-- an instance that does on each type and unknown of a term what the first and then the second do, does so on the term
abbrev pub InstancesComposeByParts : Type 0
InstancesComposeByParts =
    (es : List TypeEntry) (fs : List TermEntry) (es1 : List TypeEntry) (fs1 : List TermEntry) (es2 : List TypeEntry) (fs2 : List TermEntry) (t : Tm) (T : Ty) →
    IsKept es fs → IsKept es1 fs1 → IsKept es2 fs2 → HasType t T → IsFollowed es fs es1 fs1 es2 fs2 t →
    bare (norm (inst_tm es fs t)) ≡ bare (norm (inst_tm es2 fs2 (norm (inst_tm es1 fs1 t))))

-- one instance and then another are one instance of given terms, which keeps types where both do
abbrev pub InstancesCompose : Type 0
InstancesCompose =
    (s r : Instance) (ts : List Tm) → KeepsTypes s → KeepsTypes r →
    KeepsTypes (followed_by s r ts) × Each (λ t. (T : Ty) → HasType t T → bare (instance_of (followed_by s r ts) t) ≡ bare (instance_of r (instance_of s t))) ts
