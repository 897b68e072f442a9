-- What a test or a step that led to Some shows, and what a type of functions is made of.
use Rattle.std.proofs.Common.{◌≡◌, Bool, true, false, cond, Option, Some, None, refl, codes}
use Rattle.std.specs.Prelude.{option_and_then}
use Rattle.std.specs.Cmp.Lexicographic.{bytes_decides}
use Rattle.isa_terms.specs.Types.{Ty, Tys, TyCon, TyFixed, TyUnknown, NoTys, MoreTys}
use Rattle.isa_terms.specs.Equal.{name_eq}
use Rattle.isa_terms.specs.Typing.{function_parts, function_of, two_args}

-- a test that led to Some was true
pub cond_some : {A : Type 0} (b : Bool) (o : Option A) {y : A} → cond b o None ≡ Some y → (b ≡ true) × (o ≡ Some y)
cond_some true o e = (refl, e)
cond_some false o e = cc

-- a step that led to Some had a value
pub bind_some : {A B : Type 0} (o : Option A) (f : A → Option B) {y : B} → option_and_then f o ≡ Some y → (x : A) × (o ≡ Some x) × (f x ≡ Some y)
bind_some None f e = cc
bind_some (Some x) f e = (x, refl, e)

two_args_made : (args : Tys) (p : Ty × Ty) → two_args args ≡ Some p → args ≡ MoreTys p.0 (MoreTys p.1 NoTys)
two_args_made NoTys p e = cc
two_args_made (MoreTys X NoTys) p e = cc
two_args_made (MoreTys X (MoreTys Y NoTys)) p e = let q : (X, Y) ≡ p = cc in λ i. MoreTys ((q i).0) (MoreTys ((q i).1) NoTys)
two_args_made (MoreTys X (MoreTys Y (MoreTys Z rest))) p e = cc

pub function_made : (F : Ty) (p : Ty × Ty) → function_parts F ≡ Some p → F ≡ function_of p.0 p.1
function_made (TyCon name args) p e =
    let t = cond_some (name_eq name (codes "fun")) (two_args args) e in
    let n = (bytes_decides name (codes "fun")).0 t.0 in
    let a = two_args_made args p t.1 in
    λ i. TyCon (n i) (a i)
function_made (TyFixed name) p e = cc
function_made (TyUnknown name number) p e = cc
