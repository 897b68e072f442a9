-- Heads and arguments of normal forms.
use Rattle.std.proofs.Common.{◌≡◌, List, [], ◌∷◌, ◌++◌, map, Ok, refl, sym, ap, ◌∙◌, subst}
use Rattle.isa_terms.specs.Types.{Ty}
use Rattle.isa_terms.specs.Terms.{Tm, Const, Free, Unknown, Bound, Abs, App, bare}
use Rattle.isa_terms.specs.Typing.{function_of, type_at}
use Rattle.isa_terms.specs.Norm.{norm, levels}
use Rattle.isa_terms.specs.Normal.{IsHead, IsNormal}
use Rattle.isa_terms.specs.Instance.{inst_tm}
use Rattle.isa_terms.specs.declared.inst.TypeEntry.{TypeEntry}
use Rattle.isa_terms.specs.declared.inst.TermEntry.{TermEntry}
use Rattle.isa_terms.proofs.Bare.{type_at_bare}
use Rattle.isa_terms.specs.Typed.{Typed}
use Rattle.isa_terms.specs.Conversion.{Conv}
use Rattle.isa_terms.proofs.Typed.{type_of_typed}
use Rattle.isa_terms.proofs.Conv.{left_typed, right_typed, norm_conv}
use Rattle.isa_terms.proofs.NormalForms.{apply_head}
use Rattle.isa_terms.proofs.FreeNames.{norm_same_conv}
use Rattle.isa_terms.proofs.Unique.{conv_norm, app_typed, domain_same}

-- what is applied is no abstraction
abbrev pub IsSpine : Tm → Type 0
IsSpine (App f a) = IsSpine f
IsSpine (Abs x T b) = ⊥
IsSpine t = Unit {0}

-- what is applied is a constant, a free variable or a bound one
abbrev pub IsRigid : Tm → Type 0
IsRigid (App f a) = IsRigid f
IsRigid (Abs x T b) = ⊥
IsRigid (Unknown x i T) = ⊥
IsRigid t = Unit {0}

-- what is applied
abbrev pub head_of : Tm → Tm
head_of (App f a) = head_of f
head_of t = t

-- the arguments, from left to right
abbrev pub args_of : Tm → List Tm
args_of (App f a) = args_of f ++ a ∷ []
args_of t = []

pub rigid_spine : (t : Tm) → IsRigid t → IsSpine t
rigid_spine (App f a) h = rigid_spine f h
rigid_spine (Const x T) h = tt
rigid_spine (Free x T) h = tt
rigid_spine (Bound n) h = tt
rigid_spine (Unknown x i T) h = tt
rigid_spine (Abs x T b) h = h

pub normal_spine : (t : Tm) → IsHead t → IsNormal t → IsSpine t
normal_spine (App f a) h n = normal_spine f n.0 n.1.0
normal_spine (Const x T) h n = tt
normal_spine (Free x T) h n = tt
normal_spine (Bound k) h n = tt
normal_spine (Unknown x i T) h n = tt
normal_spine (Abs x T b) h n = h

-- ---- the normal form has the head, and the normal forms of the arguments
pub spine_norm : (t : Tm) → IsSpine t → IsHead (norm t)
spine_norm (App f a) h = subst IsHead (sym (apply_head (levels (norm f)) (norm f) (norm a) (spine_norm f h))) tt
spine_norm (Const x T) h = tt
spine_norm (Free x T) h = tt
spine_norm (Bound k) h = tt
spine_norm (Unknown x i T) h = tt
spine_norm (Abs x T b) h = absurd h

pub app_norm : (f a : Tm) → IsSpine f → norm (App f a) ≡ App (norm f) (norm a)
app_norm f a h = apply_head (levels (norm f)) (norm f) (norm a) (spine_norm f h)

pub head_norm : (t : Tm) → IsSpine t → head_of (norm t) ≡ head_of t
head_norm (App f a) h = ap head_of (app_norm f a h) ∙ head_norm f h
head_norm (Const x T) h = refl
head_norm (Free x T) h = refl
head_norm (Bound k) h = refl
head_norm (Unknown x i T) h = refl
head_norm (Abs x T b) h = absurd h

pub map_append : (f : Tm → Tm) (ts us : List Tm) → map f (ts ++ us) ≡ map f ts ++ map f us
map_append f [] us = refl
map_append f (t ∷ ts) us = ap (λ vs. f t ∷ vs) (map_append f ts us)

pub args_norm : (t : Tm) → IsSpine t → args_of (norm t) ≡ map norm (args_of t)
args_norm (App f a) h = ap args_of (app_norm f a h) ∙ ap (λ ts. ts ++ norm a ∷ []) (args_norm f h) ∙ sym (map_append norm (args_of f) (a ∷ []))
args_norm (Const x T) h = refl
args_norm (Free x T) h = refl
args_norm (Bound k) h = refl
args_norm (Unknown x i T) h = refl
args_norm (Abs x T b) h = absurd h

pub args_bare : (t : Tm) → args_of (bare t) ≡ map bare (args_of t)
args_bare (App f a) = ap (λ ts. ts ++ bare a ∷ []) (args_bare f) ∙ sym (map_append bare (args_of f) (a ∷ []))
args_bare (Const x T) = refl
args_bare (Free x T) = refl
args_bare (Bound k) = refl
args_bare (Unknown x i T) = refl
args_bare (Abs x T b) = refl

pub head_bare : (t : Tm) → head_of (bare t) ≡ bare (head_of t)
head_bare (App f a) = head_bare f
head_bare (Const x T) = refl
head_bare (Free x T) = refl
head_bare (Bound k) = refl
head_bare (Unknown x i T) = refl
head_bare (Abs x T b) = refl

-- ---- instances
pub inst_rigid : (es : List TypeEntry) (fs : List TermEntry) (t : Tm) → IsRigid t → IsRigid (inst_tm es fs t)
inst_rigid es fs (App f a) h = inst_rigid es fs f h
inst_rigid es fs (Const x T) h = tt
inst_rigid es fs (Free x T) h = tt
inst_rigid es fs (Bound k) h = tt
inst_rigid es fs (Unknown x i T) h = absurd h
inst_rigid es fs (Abs x T b) h = absurd h

pub head_inst : (es : List TypeEntry) (fs : List TermEntry) (t : Tm) → IsRigid t → head_of (inst_tm es fs t) ≡ inst_tm es fs (head_of t)
head_inst es fs (App f a) h = head_inst es fs f h
head_inst es fs (Const x T) h = refl
head_inst es fs (Free x T) h = refl
head_inst es fs (Bound k) h = refl
head_inst es fs (Unknown x i T) h = absurd h
head_inst es fs (Abs x T b) h = absurd h

pub args_inst : (es : List TypeEntry) (fs : List TermEntry) (t : Tm) → IsRigid t → args_of (inst_tm es fs t) ≡ map (inst_tm es fs) (args_of t)
args_inst es fs (App f a) h = ap (λ ts. ts ++ inst_tm es fs a ∷ []) (args_inst es fs f h) ∙ sym (map_append (inst_tm es fs) (args_of f) (a ∷ []))
args_inst es fs (Const x T) h = refl
args_inst es fs (Free x T) h = refl
args_inst es fs (Bound k) h = refl
args_inst es fs (Unknown x i T) h = absurd h
args_inst es fs (Abs x T b) h = absurd h

-- ---- decomposition
pub app_fun : {f g a b : Tm} → App f a ≡ App g b → f ≡ g
app_fun e = cc

pub app_arg : {f g a b : Tm} → App f a ≡ App g b → a ≡ b
app_arg e = cc

-- applications with one normal form have functions and arguments with one
pub apps_same : (f g a b : Tm) → IsSpine f → IsSpine g → bare (norm (App f a)) ≡ bare (norm (App g b)) → (bare (norm f) ≡ bare (norm g)) × (bare (norm a) ≡ bare (norm b))
apps_same f g a b h k e =
    let q : App (bare (norm f)) (bare (norm a)) ≡ App (bare (norm g)) (bare (norm b)) = sym (ap bare (app_norm f a h)) ∙ e ∙ ap bare (app_norm g b k) in
    (app_fun q, app_arg q)

pub apps_again : (f g a b : Tm) → IsSpine f → IsSpine g → bare (norm f) ≡ bare (norm g) → bare (norm a) ≡ bare (norm b) → bare (norm (App f a)) ≡ bare (norm (App g b))
apps_again f g a b h k e d = ap bare (app_norm f a h) ∙ (λ i. App (e i) (d i)) ∙ sym (ap bare (app_norm g b k))

-- terms with one normal form have the same head, where none is an abstraction
pub heads_same : (t u : Tm) → IsSpine t → IsSpine u → bare (norm t) ≡ bare (norm u) → bare (head_of t) ≡ bare (head_of u)
heads_same t u h k e =
    sym (head_bare (norm t) ∙ ap bare (head_norm t h)) ∙ ap head_of e ∙ (head_bare (norm u) ∙ ap bare (head_norm u k))

-- and the same normal forms of the arguments
pub args_same : (t u : Tm) → IsSpine t → IsSpine u → bare (norm t) ≡ bare (norm u) → map (λ a. bare (norm a)) (args_of t) ≡ map (λ a. bare (norm a)) (args_of u)
args_same t u h k e = sym (made t h) ∙ ap args_of e ∙ made u k
  where
    map_map : (ts : List Tm) → map bare (map norm ts) ≡ map (λ a. bare (norm a)) ts
    map_map [] = refl
    map_map (t ∷ ts) = ap (λ us. bare (norm t) ∷ us) (map_map ts)

    made : (t : Tm) → IsSpine t → args_of (bare (norm t)) ≡ map (λ a. bare (norm a)) (args_of t)
    made t h = args_bare (norm t) ∙ ap (map bare) (args_norm t h) ∙ map_map (args_of t)

-- ---- the same for conversion
-- a term has one type
pub one_type : {G : List Ty} {t u : Tm} {T U : Ty} → Typed G t T → Typed G u U → bare t ≡ bare u → T ≡ U
one_type {G} {t} {u} {T} {U} d e s =
    let q : Ok T ≡ Ok U = sym (type_of_typed d) ∙ sym (type_at_bare G t) ∙ ap (type_at G) s ∙ type_at_bare G u ∙ type_of_typed e in
    cc

pub record AppsConv (G : List Ty) (T : Ty) (f g a b : Tm) : Type 0 where
  pub domain : Ty
  pub functions : Conv G (function_of domain T) f g
  pub arguments : Conv G domain a b

pub apps_conv : {G : List Ty} {T : Ty} {f g a b : Tm} → IsSpine f → IsSpine g → Conv G T (App f a) (App g b) → AppsConv G T f g a b
apps_conv {G} {T} {f} {g} {a} {b} h k c =
    let p = app_typed (left_typed c) in
    let q = app_typed (right_typed c) in
    let s = apps_same f g a b h k (conv_norm c) in
    let o : function_of p.0 T ≡ function_of q.0 T = one_type (right_typed (norm_conv p.1)) (right_typed (norm_conv q.1)) s.0 in
    let g_typed : Typed G g (function_of p.0 T) = subst (λ U. Typed G g U) (sym o) q.1 in
    let b_typed : Typed G b p.0 = subst (λ U. Typed G b U) (sym (domain_same o)) q.2 in
    record { domain = p.0; functions = norm_same_conv p.1 g_typed s.0; arguments = norm_same_conv p.2 b_typed s.1 }
