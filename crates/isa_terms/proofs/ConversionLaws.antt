-- The laws of conversion and of normal forms.
use Rattle.std.proofs.Common.{◌≡◌, ℕ, List, [], ◌∷◌}
use Rattle.isa_terms.specs.Types.{Ty}
use Rattle.isa_terms.specs.Terms.{Tm, Abs, App, bare}
use Rattle.isa_terms.specs.Replace.{replace}
use Rattle.isa_terms.specs.Norm.{norm}
use Rattle.isa_terms.specs.ConversionLaws.{TypesAreGiven, NormalFormsAreNormal, NormalTermsStay, NormalisingIsIdempotent, TermsConvertToNormalForms, NormalFormsAreUnique, ApplicationIsReplacement, InstancesKeepTypes, InstancesKeepConversion, InstancesOfNormalForms, InstancesComposeByParts, InstancesCompose}
use Rattle.isa_terms.specs.Typed.{Typed, TAbs, TApp}
use Rattle.isa_terms.specs.Conversion.{Conv, CBeta}
use Rattle.isa_terms.proofs.Typed.{typed_of_type, type_of_typed}
use Rattle.isa_terms.proofs.Conv.{right_typed, norm_conv}
use Rattle.isa_terms.proofs.NormalForms.{norm_normal, norm_same}
use Rattle.isa_terms.proofs.FreeNames.{norm_same_conv}
use Rattle.isa_terms.specs.Instance.{Instance, instance_of}
use Rattle.isa_terms.specs.Typing.{HasType}
use Rattle.isa_terms.specs.Instances.{IsFollowed, KeepsTypes, followed_by, all_after, Each}
use Rattle.isa_terms.proofs.Instances.{inst_typed, inst_conv, inst_norm}
use Rattle.isa_terms.proofs.Composing.{followed_norm, after_kept, all_are_after, all_followed}
use Rattle.isa_terms.proofs.Unique.{conv_norm}

pub types_are_given_law : TypesAreGiven
types_are_given_law G t T = (λ e. typed_of_type G t T e, λ d. type_of_typed d)

pub normal_forms_are_normal_law : NormalFormsAreNormal
normal_forms_are_normal_law t T h = let d = typed_of_type [] t T h in (type_of_typed (right_typed (norm_conv d)), norm_normal d)

pub normal_terms_stay_law : NormalTermsStay
normal_terms_stay_law t n = norm_same t n

-- normalising twice is normalising once
pub norm_twice : {G : List Ty} {t : Tm} {T : Ty} → Typed G t T → norm (norm t) ≡ norm t
norm_twice {G} {t} {T} d = norm_same (norm t) (norm_normal d)

pub normalising_is_idempotent_law : NormalisingIsIdempotent
normalising_is_idempotent_law t T h = norm_twice (typed_of_type [] t T h)

pub terms_convert_law : TermsConvertToNormalForms
terms_convert_law G t T d = norm_conv d

pub normal_forms_are_unique_law : NormalFormsAreUnique
normal_forms_are_unique_law G T t u d e = (λ c. conv_norm c, λ s. norm_same_conv d e s)

-- a redex converts to what it becomes
pub beta_conv : {G : List Ty} {x : List ℕ} {S T : Ty} {b a : Tm} → Typed G (App (Abs x S b) a) T → Conv G T (App (Abs x S b) a) (replace b a)
beta_conv (TApp (TAbs d) e) = CBeta d e

pub beta_norm : {G : List Ty} {x : List ℕ} {S T : Ty} {b a : Tm} → Typed G (App (Abs x S b) a) T → bare (norm (App (Abs x S b) a)) ≡ bare (norm (replace b a))
beta_norm d = conv_norm (beta_conv d)

pub application_is_replacement_law : ApplicationIsReplacement
application_is_replacement_law x S T b a h = beta_norm (typed_of_type [] (App (Abs x S b) a) T h)

pub instances_keep_types_law : InstancesKeepTypes
instances_keep_types_law es fs G t T k d = inst_typed es fs k d

pub instances_keep_conversion_law : InstancesKeepConversion
instances_keep_conversion_law es fs G T t u k c = inst_conv es fs k c

pub instances_of_normal_forms_law : InstancesOfNormalForms
instances_of_normal_forms_law es fs t T k h = inst_norm es fs k (typed_of_type [] t T h)

pub instances_compose_by_parts_law : InstancesComposeByParts
instances_compose_by_parts_law es fs es1 fs1 es2 fs2 t T k k1 k2 h f = followed_norm es fs es1 fs1 es2 fs2 k k1 k2 (typed_of_type [] t T h) f

each_compose : (s r q : Instance) → KeepsTypes s → KeepsTypes r → KeepsTypes q → (ts : List Tm) → Each (λ t. IsFollowed q.types q.terms s.types s.terms r.types r.terms t) ts → Each (λ t. (T : Ty) → HasType t T → bare (instance_of q t) ≡ bare (instance_of r (instance_of s t))) ts
each_compose s r q ks kr kq [] e = tt
each_compose s r q ks kr kq (t ∷ ts) e = (λ T h. followed_norm q.types q.terms s.types s.terms r.types r.terms kq ks kr (typed_of_type [] t T h) e.0, each_compose s r q ks kr kq ts e.1)

pub instances_compose_law : InstancesCompose
instances_compose_law s r ts ks kr =
    let kept = after_kept s.types s.terms r.types r.terms ks kr (all_after s.types s.terms r.types r.terms ts) (all_are_after s.types s.terms r.types r.terms ts) in
    (kept, each_compose s r (followed_by s r ts) ks kr kept ts (all_followed s.types s.terms r.types r.terms ks kr ts))
