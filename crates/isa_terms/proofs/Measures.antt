-- The size of a term's eta-long normal form: convertible terms have one.
use Rattle.std.proofs.Common.{◌≡◌, ℕ, ◌+◌, ◌<◌, ◌≤◌, List, [], ◌∷◌, Bool, true, false, cond, nat_eq, Some, Result, Ok, Err, refl, sym, ap, ◌∙◌, subst, arith}
use Rattle.std.specs.List.{slice_get}
use Rattle.std.proofs.lemmas.Bool.Decides.{nat_tests}
use Rattle.isa_terms.specs.Types.{Ty, Tys, TyCon, TyFixed, TyUnknown, NoTys, MoreTys}
use Rattle.isa_terms.specs.Terms.{Tm, Const, Free, Unknown, Bound, Abs, App, bare}
use Rattle.isa_terms.specs.Typing.{TypeFault, function_of, type_at}
use Rattle.isa_terms.specs.Replace.{replace}
use Rattle.isa_terms.specs.Norm.{loose, eta, norm}
use Rattle.isa_terms.specs.Normal.{IsHead, IsNormal}
use Rattle.isa_terms.proofs.Bare.{type_at_bare}
use Rattle.isa_terms.specs.Typed.{Typed, TConst, TFree, TUnknown, TBound, TAbs, TApp}
use Rattle.isa_terms.specs.Conversion.{Conv}
use Rattle.isa_terms.proofs.Typed.{type_of_typed, unloose, drop_typed}
use Rattle.isa_terms.proofs.Conv.{right_typed, norm_conv}
use Rattle.isa_terms.proofs.NormalForms.{norm_normal, lower_head}
use Rattle.isa_terms.proofs.Unique.{conv_norm, app_typed}
use Rattle.isa_terms.proofs.Erased.{up, next}
use Rattle.isa_terms.proofs.Renames.{rename, next_is}
use Rattle.isa_terms.proofs.Opening.{IsRenaming, up_renaming, next_renaming, rename_typed, rename_closed, over, over_number, over_is, over_renaming, over_typed}
use Rattle.isa_terms.proofs.RenamedNormal.{rename_norm}
use Rattle.isa_terms.proofs.Heads.{IsSpine, spine_norm, app_norm}
use Rattle.isa_terms.proofs.Abstracting.{on_bounds, AreDistinct, AreMissing, arrow, AreKnown, tower, tower_typed, tower_application, on_bounds_typed}

-- what the arguments that a type takes cost, as variables
abbrev mutual
  pub cost : Ty → ℕ
  cost (TyCon x Ts) = costs Ts
  cost (TyFixed x) = 0
  cost (TyUnknown x i) = 0

  pub costs : Tys → ℕ
  costs NoTys = 1
  costs (MoreTys T Ts) = cost T + costs Ts

abbrev pub ty_cost : Result Ty TypeFault → ℕ
ty_cost (Ok T) = cost T
ty_cost (Err e) = 0

-- the size of a normal term, as if each place had all the arguments that its type takes
abbrev mutual
  pub long : List Ty → Tm → ℕ
  long G (Const x T) = 1 + ty_cost (type_at G (Const x T))
  long G (Free x T) = 1 + ty_cost (type_at G (Free x T))
  long G (Unknown x i T) = 1 + ty_cost (type_at G (Unknown x i T))
  long G (Bound n) = 1 + ty_cost (type_at G (Bound n))
  long G (Abs x T b) = long (T ∷ G) b
  long G (App f a) = (spine G f + long G a) + ty_cost (type_at G (App f a))

  pub spine : List Ty → Tm → ℕ
  spine G (Const x T) = 1
  spine G (Free x T) = 1
  spine G (Unknown x i T) = 1
  spine G (Bound n) = 1
  spine G (Abs x T b) = 1
  spine G (App f a) = spine G f + long G a

long_head : (G : List Ty) (t : Tm) → IsHead t → long G t ≡ spine G t + ty_cost (type_at G t)
long_head G (Const x T) h = refl
long_head G (Free x T) h = refl
long_head G (Unknown x i T) h = refl
long_head G (Bound n) h = refl
long_head G (Abs x T b) h = absurd h
long_head G (App f a) h = refl

-- ---- the names of binders
abbrev Same : List Ty → Tm → Tm → Type 0
Same G t u = (long G t ≡ long G u) × (spine G t ≡ spine G u)

both_bare : (G : List Ty) (t : Tm) → Same G (bare t) t
both_bare G (Const x T) = (refl, refl)
both_bare G (Free x T) = (refl, refl)
both_bare G (Unknown x i T) = (refl, refl)
both_bare G (Bound n) = (refl, refl)
both_bare G (Abs x T b) = ((both_bare (T ∷ G) b).0, refl)
both_bare G (App f a) =
    let h = both_bare G f in
    let k = both_bare G a in
    ((λ i. (h.1 i + k.0 i) + ty_cost (type_at_bare G (App f a) i)), (λ i. h.1 i + k.0 i))

pub long_bare : (G : List Ty) (t : Tm) → long G (bare t) ≡ long G t
long_bare G t = (both_bare G t).0

-- ---- renaming
bound_same : (G K : List Ty) (n m : ℕ) (T : Ty) → slice_get G n ≡ Some T → slice_get K m ≡ Some T → long K (Bound m) ≡ long G (Bound n)
bound_same G K n m T g k =
    let d : Typed G (Bound n) T = TBound g in
    let e : Typed K (Bound m) T = TBound k in
    ap (λ e. 1 + ty_cost e) (type_of_typed e ∙ sym (type_of_typed d))

pub renamed_both : (r : ℕ → ℕ) (K : List Ty) {G : List Ty} {t : Tm} {T : Ty} → Typed G t T → IsRenaming r G K → (long K (rename r t) ≡ long G t) × (spine K (rename r t) ≡ spine G t)
renamed_both r K TConst h = (refl, refl)
renamed_both r K TFree h = (refl, refl)
renamed_both r K TUnknown h = (refl, refl)
renamed_both r K (TBound {G} {n} {T} g) h = (bound_same G K n (r n) T g (h n T g), refl)
renamed_both r K (TAbs {G} {S} d) h = ((renamed_both (up r) (S ∷ K) d (up_renaming r G K S h)).0, refl)
renamed_both r K (TApp {G} {S} {T} {f} {a} d e) h =
    let p = renamed_both r K d h in
    let q = renamed_both r K e h in
    let t = type_of_typed (rename_typed r K (TApp d e) h) ∙ sym (type_of_typed (TApp d e)) in
    ((λ i. (p.1 i + q.0 i) + ty_cost (t i)), (λ i. p.1 i + q.0 i))

-- ---- eta
long_hit : (G : List Ty) (S T : Ty) (f : Tm) → Typed (S ∷ G) f (function_of S T) → IsHead f → loose 0 f ≡ false → long G (replace f (Bound 0)) ≡ long (S ∷ G) (App f (Bound 0))
long_hit G S T f d h l =
    let g = replace f (Bound 0) in
    let g_typed : Typed G g (function_of S T) = drop_typed [] G S (Bound 0) refl l d in
    let is : f ≡ rename next g = sym (unloose (Bound 0) 0 f l) ∙ next_is g in
    let s : spine (S ∷ G) f ≡ spine G g = ap (spine (S ∷ G)) is ∙ (renamed_both next (S ∷ G) g_typed (next_renaming S G)).1 in
    let left : long G g ≡ spine G g + (cost S + (cost T + 1)) = long_head G g (lower_head (Bound 0) 0 f l h) ∙ ap (λ e. spine G g + ty_cost e) (type_of_typed g_typed) in
    let z : Typed (S ∷ G) (Bound 0) S = TBound refl in
    let whole : Typed (S ∷ G) (App f (Bound 0)) T = TApp d z in
    let right : long (S ∷ G) (App f (Bound 0)) ≡ (spine (S ∷ G) f + (1 + cost S)) + cost T = ap (λ e. (spine (S ∷ G) f + (1 + cost S)) + ty_cost e) (type_of_typed whole) in
    let same : spine G g + (cost S + (cost T + 1)) ≡ (spine (S ∷ G) f + (1 + cost S)) + cost T = omega (arith, s) in
    left ∙ same ∙ sym right

long_last : (G : List Ty) (x : List ℕ) (S T : Ty) (f : Tm) (i : ℕ) (b c : Bool) → nat_eq i 0 ≡ b → loose 0 f ≡ c → Typed (S ∷ G) (App f (Bound i)) T → IsHead f → long G (cond b (cond c (Abs x S (App f (Bound i))) (replace f (Bound 0))) (Abs x S (App f (Bound i)))) ≡ long (S ∷ G) (App f (Bound i))
long_last G x S T f i false c h l d k = refl
long_last G x S T f i true true h l d k = refl
long_last G x S T f i true false h l d k =
    let z : i ≡ 0 = grind (arith, nat_tests) in
    let d' : Typed (S ∷ G) (App f (Bound 0)) T = subst (λ n. Typed (S ∷ G) (App f (Bound n)) T) z d in
    let p = app_typed d' in
    long_hit G S T f (subst (λ U. Typed (S ∷ G) f (function_of U T)) (sym (own p.2)) p.1) k l ∙ ap (λ n. long (S ∷ G) (App f (Bound n))) (sym z)
  where
    own : {U : Ty} → Typed (S ∷ G) (Bound 0) U → S ≡ U
    own (TBound g) = cc

long_eta : {G : List Ty} (x : List ℕ) (S : Ty) (b : Tm) {T : Ty} → Typed (S ∷ G) b T → IsNormal b → long G (eta x S b) ≡ long (S ∷ G) b
long_eta {G} x S (App f (Bound i)) {T} d n = long_last G x S T f i (nat_eq i 0) (loose 0 f) refl refl d n.0
long_eta x S (App f (Const y U)) d n = refl
long_eta x S (App f (Free y U)) d n = refl
long_eta x S (App f (Unknown y i U)) d n = refl
long_eta x S (App f (Abs y U b)) d n = refl
long_eta x S (App f (App g a)) d n = refl
long_eta x S (Const y U) d n = refl
long_eta x S (Free y U) d n = refl
long_eta x S (Unknown y i U) d n = refl
long_eta x S (Bound i) d n = refl
long_eta x S (Abs y U b) d n = refl

-- ---- the size of a term is that of its normal form
abbrev pub size : List Ty → Tm → ℕ
size G t = long G (norm t)

pub size_conv : {G : List Ty} {T : Ty} {t u : Tm} → Conv G T t u → size G t ≡ size G u
size_conv {G} {T} {t} {u} c = sym (long_bare G (norm t)) ∙ ap (long G) (conv_norm c) ∙ long_bare G (norm u)

pub size_abs : {G : List Ty} (x : List ℕ) {S T : Ty} {b : Tm} → Typed (S ∷ G) b T → size G (Abs x S b) ≡ size (S ∷ G) b
size_abs x {S} {T} {b} d = long_eta x S (norm b) (right_typed (norm_conv d)) (norm_normal d)

pub size_rename : (r : ℕ → ℕ) (K : List Ty) {G : List Ty} {t : Tm} {T : Ty} → Typed G t T → IsRenaming r G K → size K (rename r t) ≡ size G t
size_rename r K {G} {t} {T} d h =
    sym (long_bare K (norm (rename r t))) ∙ ap (long K) (rename_norm r K d h) ∙ long_bare K (rename r (norm t)) ∙ (renamed_both r K (right_typed (norm_conv d)) h).0

pub size_over : {G : List Ty} (n : ℕ) {S T : Ty} {t : Tm} → slice_get G n ≡ Some S → Typed G t T → size (S ∷ G) (over n 0 t) ≡ size G t
size_over {G} n {S} {T} {t} g d = ap (size (S ∷ G)) (over_is n 0 t) ∙ size_rename (over_number n 0) (S ∷ G) d (over_renaming G n S g)

pub size_closed : (G : List Ty) {t : Tm} {T : Ty} → Typed [] t T → size G t ≡ size [] t
size_closed G {t} d = ap (size G) (sym (rename_closed d next (λ j lt. absurd (omega arith)))) ∙ size_rename next G d (λ n T e. cc)

pub size_tower : (N : ℕ → List ℕ) (Y : ℕ → Ty) {G : List Ty} (ns : List ℕ) {t : Tm} {T : Ty} → AreKnown N Y G ns → Typed G t T → size G (tower N Y ns t) ≡ size G t
size_tower N Y [] k d = refl
size_tower N Y (n ∷ ns) k d =
    let e = tower_typed N Y ns k.1 d in
    size_abs (N n) (over_typed n k.0 e) ∙ size_over n k.0 e ∙ size_tower N Y ns k.1 d

-- at distinct variables that it has not, a function's size stays
pub size_applied : (N : ℕ → List ℕ) (Y : ℕ → Ty) {G : List Ty} (ns : List ℕ) {v : Tm} (T : Ty) → AreKnown N Y G ns → AreDistinct ns → AreMissing ns v → Typed G v (arrow N Y ns T) → size G (on_bounds v ns) ≡ size G v
size_applied N Y ns T k a m d = sym (size_tower N Y ns k (on_bounds_typed N Y ns k d)) ∙ size_conv (tower_application N Y ns T k a m d)

-- ---- parts of applications
abbrev pub spine_size : List Ty → Tm → ℕ
spine_size G t = spine G (norm t)

pub spine_size_app : (G : List Ty) (f a : Tm) → IsSpine f → spine_size G (App f a) ≡ spine_size G f + size G a
spine_size_app G f a h = ap (spine G) (app_norm f a h)

pub spine_size_le : (G : List Ty) (t : Tm) → IsSpine t → spine_size G t ≤ size G t
spine_size_le G t h = let e = long_head G (norm t) (spine_norm t h) in omega (arith, e)

pub spine_some : (G : List Ty) (t : Tm) → 1 ≤ spine G t
spine_some G (Const x T) = omega arith
spine_some G (Free x T) = omega arith
spine_some G (Unknown x i T) = omega arith
spine_some G (Bound n) = omega arith
spine_some G (Abs x T b) = omega arith
spine_some G (App f a) = let h = spine_some G f in omega (arith, h)

-- an argument is smaller than the application
pub size_arg : (G : List Ty) (f a : Tm) → IsSpine f → size G a < spine_size G (App f a)
size_arg G f a h =
    let e = spine_size_app G f a h in
    let s = spine_some G (norm f) in
    omega (arith, e, s)

pub size_fun : (G : List Ty) (f a : Tm) → IsSpine f → spine_size G f ≤ spine_size G (App f a)
size_fun G f a h = let e = spine_size_app G f a h in omega (arith, e)
