-- Convertible terms have one normal form.
use Rattle.std.proofs.Common.{◌≡◌, ◌⊎◌, inl, inr, ℕ, List, [], ◌∷◌, Some, refl, sym, ap, ◌∙◌, subst}
use Rattle.std.specs.List.{slice_get}
use Rattle.isa_terms.specs.Types.{Ty}
use Rattle.isa_terms.specs.Terms.{Tm, Const, Free, Unknown, Bound, Abs, App, bare}
use Rattle.isa_terms.specs.Typing.{function_of}
use Rattle.isa_terms.specs.Norm.{norm}
use Rattle.isa_terms.specs.Normal.{IsHead, IsNormal}
use Rattle.isa_terms.specs.Typed.{Typed, TConst, TFree, TUnknown, TBound, TAbs, TApp}
use Rattle.isa_terms.specs.Conversion.{Conv, CSym, CTrans}
use Rattle.isa_terms.proofs.Conv.{left_typed, right_typed, norm_conv}
use Rattle.isa_terms.proofs.NormalForms.{norm_normal}
use Rattle.isa_terms.proofs.Erased.{Erased, Atom, Var, Lam, Ap}
use Rattle.isa_terms.proofs.Diamond.{lam_same, fun_same, arg_same}
use Rattle.isa_terms.proofs.Confluence.{stuck_is_unique}
use Rattle.isa_terms.proofs.Erasing.{erase, linked, stuck}

pub domain_same : {A B C D : Ty} → function_of A B ≡ function_of C D → A ≡ C
domain_same e = cc (e)

pub range_same : {A B C D : Ty} → function_of A B ≡ function_of C D → B ≡ D
range_same e = cc (e)

pub atom_same : {c d : Tm} → Atom c ≡ Atom d → c ≡ d
atom_same e = cc

-- ---- what erases to the same is made the same
pub atom_case : {G : List Ty} {u : Tm} {U : Ty} → Typed G u U → (c : Tm) → Atom c ≡ erase u → c ≡ u
atom_case TConst c s = atom_same s
atom_case TFree c s = atom_same s
atom_case TUnknown c s = atom_same s
atom_case (TBound h) c s = absurd (cc)
atom_case (TAbs d) c s = absurd (cc)
atom_case (TApp d e) c s = absurd (cc)

pub bound_case : (u : Tm) (n : ℕ) → Var n ≡ erase u → Bound n ≡ u
bound_case (Bound m) n s = cc
bound_case (Const x T) n s = absurd (cc)
bound_case (Free x T) n s = absurd (cc)
bound_case (Unknown x i T) n s = absurd (cc)
bound_case (Abs x T b) n s = absurd (cc)
bound_case (App f a) n s = absurd (cc)

pub record IsAbs (b : Erased) (u : Tm) : Type 0 where
  pub name : List ℕ
  pub typ : Ty
  pub body : Tm
  pub made : u ≡ Abs name typ body
  pub same : b ≡ erase body

pub abs_case : (u : Tm) (b : Erased) → Lam b ≡ erase u → IsAbs b u
abs_case (Abs x T c) b s = record { name = x; typ = T; body = c; made = refl; same = lam_same s }
abs_case (Const x T) b s = absurd (cc)
abs_case (Free x T) b s = absurd (cc)
abs_case (Unknown x i T) b s = absurd (cc)
abs_case (Bound i) b s = absurd (cc)
abs_case (App f a) b s = absurd (cc)

pub record IsApp (f a : Erased) (u : Tm) : Type 0 where
  pub fun : Tm
  pub arg : Tm
  pub made : u ≡ App fun arg
  pub same_fun : f ≡ erase fun
  pub same_arg : a ≡ erase arg

pub app_case : (u : Tm) (f a : Erased) → Ap f a ≡ erase u → IsApp f a u
app_case (App g b) f a s = record { fun = g; arg = b; made = refl; same_fun = fun_same s; same_arg = arg_same s }
app_case (Const x T) f a s = absurd (cc)
app_case (Free x T) f a s = absurd (cc)
app_case (Unknown x i T) f a s = absurd (cc)
app_case (Bound i) f a s = absurd (cc)
app_case (Abs x T b) f a s = absurd (cc)

pub app_typed : {G : List Ty} {f a : Tm} {T : Ty} → Typed G (App f a) T → (S : Ty) × Typed G f (function_of S T) × Typed G a S
app_typed (TApp {S} d e) = (S, d, e)

pub abs_typed : {G : List Ty} {x : List ℕ} {S : Ty} {b : Tm} {U : Ty} → Typed G (Abs x S b) U → (T : Ty) × (U ≡ function_of S T) × Typed (S ∷ G) b T
abs_typed (TAbs {T} d) = (T, refl, d)

pub const_typed : {G : List Ty} {x : List ℕ} {T : Ty} (u : Tm) {U : Ty} → Typed G u U → Const x T ≡ u → T ≡ U
const_typed u TConst s = cc
const_typed u TFree s = cc
const_typed u TUnknown s = cc
const_typed u (TBound h) s = absurd (cc)
const_typed u (TAbs d) s = absurd (cc)
const_typed u (TApp d e) s = absurd (cc)

pub free_typed : {G : List Ty} {x : List ℕ} {T : Ty} (u : Tm) {U : Ty} → Typed G u U → Free x T ≡ u → T ≡ U
free_typed u TConst s = cc
free_typed u TFree s = cc
free_typed u TUnknown s = cc
free_typed u (TBound h) s = absurd (cc)
free_typed u (TAbs d) s = absurd (cc)
free_typed u (TApp d e) s = absurd (cc)

pub unknown_typed : {G : List Ty} {x : List ℕ} {i : ℕ} {T : Ty} (u : Tm) {U : Ty} → Typed G u U → Unknown x i T ≡ u → T ≡ U
unknown_typed u TConst s = cc
unknown_typed u TFree s = cc
unknown_typed u TUnknown s = cc
unknown_typed u (TBound h) s = absurd (cc)
unknown_typed u (TAbs d) s = absurd (cc)
unknown_typed u (TApp d e) s = absurd (cc)

pub bound_typed : {G : List Ty} {n : ℕ} {T : Ty} (u : Tm) {U : Ty} → Typed G u U → Bound n ≡ u → slice_get G n ≡ Some T → T ≡ U
bound_typed {n} {T} u (TBound {G} {n = m} {T = U} h) s g =
    let q : n ≡ m = cc in
    let o : Some T ≡ Some U = sym g ∙ ap (slice_get G) q ∙ h in
    cc
bound_typed u TConst s g = absurd (cc)
bound_typed u TFree s g = absurd (cc)
bound_typed u TUnknown s g = absurd (cc)
bound_typed u (TAbs d) s g = absurd (cc)
bound_typed u (TApp d e) s g = absurd (cc)

-- the types in a normal term are found again: a head shows its own, and those of its arguments; an abstraction's are in its type
same_typed : {G : List Ty} {t : Tm} {T : Ty} → Typed G t T → (u : Tm) (U : Ty) → Typed G u U → IsNormal t → IsNormal u → erase t ≡ erase u → IsHead t ⊎ (T ≡ U) → (bare t ≡ bare u) × (T ≡ U)
same_typed (TConst {x} {T}) u U e n m s w = let q = atom_case e (Const x T) s in (ap bare q, const_typed u e q)
same_typed (TFree {x} {T}) u U e n m s w = let q = atom_case e (Free x T) s in (ap bare q, free_typed u e q)
same_typed (TUnknown {x} {i} {T}) u U e n m s w = let q = atom_case e (Unknown x i T) s in (ap bare q, unknown_typed u e q)
same_typed (TBound {n = k} h) u U e n m s w = let q = bound_case u k s in (ap bare q, bound_typed u e q h)
same_typed (TAbs d) u U e n m s (inl h) = absurd h
same_typed (TAbs {G} {x} {S} {T} {b} d) u U e n m s (inr w) =
    let v = abs_case u (erase b) s in
    let c = abs_typed (subst (λ t. Typed G t U) v.made e) in
    let f : function_of S T ≡ function_of v.typ c.0 = w ∙ c.1 in
    let body : Typed (S ∷ G) v.body c.0 = subst (λ K. Typed (K ∷ G) v.body c.0) (sym (domain_same f)) c.2 in
    let nm : IsNormal (Abs v.name v.typ v.body) = subst IsNormal v.made m in
    let r = same_typed d v.body c.0 body n.0 nm.0 v.same (inr (range_same f)) in
    ((λ i. Abs [] (domain_same f i) (r.0 i)) ∙ ap bare (sym v.made), w)
same_typed (TApp {G} {S} {T} {f} {a} d g) u U e n m s w =
    let v = app_case u (erase f) (erase a) s in
    let c = app_typed (subst (λ t. Typed G t U) v.made e) in
    let nm : IsNormal (App v.fun v.arg) = subst IsNormal v.made m in
    let r = same_typed d v.fun (function_of c.0 U) c.1 n.1.0 nm.1.0 v.same_fun (inl n.0) in
    let q = same_typed g v.arg c.0 c.2 n.1.1 nm.1.1 v.same_arg (inr (domain_same r.1)) in
    ((λ i. App (r.0 i) (q.0 i)) ∙ ap bare (sym v.made), range_same r.1)

-- convertible normal terms differ in the names of their binders only
pub normal_unique : {G : List Ty} {T : Ty} {t u : Tm} → Conv G T t u → IsNormal t → IsNormal u → bare t ≡ bare u
normal_unique {G} {T} {t} {u} c n m = (same_typed (left_typed c) u T (right_typed c) n m (stuck_is_unique (erase t) (erase u) (linked c) (stuck t n) (stuck u m)) (inr refl)).0

-- the normal forms of convertible terms differ in the names of their binders only
pub conv_norm : {G : List Ty} {T : Ty} {t u : Tm} → Conv G T t u → bare (norm t) ≡ bare (norm u)
conv_norm c =
    let d = left_typed c in
    let e = right_typed c in
    normal_unique (CTrans (CSym (norm_conv d)) (CTrans c (norm_conv e))) (norm_normal d) (norm_normal e)
