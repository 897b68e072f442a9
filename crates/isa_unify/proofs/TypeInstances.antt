-- Instances of types.
use Rattle.std.proofs.Common.{◌≡◌, ℕ, ◌≤◌, ◌+◌, List, [], ◌∷◌, ◌++◌, map, Bool, true, false, ◌&&◌, ◌||◌, nat_eq, refl, sym, ap, ◌∙◌, cond, ◌⊎◌, inl, inr, arith, Option, Some, None, unwrap_or, option_map}
use Rattle.isa_terms.specs.Types.{Ty, Tys, TyCon, TyFixed, TyUnknown, NoTys, MoreTys, ty_depth, tys_depth}
use Rattle.isa_terms.specs.Equal.{name_eq, ty_eq}
use Rattle.isa_terms.specs.Instance.{find_type, inst_ty, inst_tys}
use Rattle.isa_terms.specs.declared.inst.TypeEntry.{TypeEntry}
use Rattle.isa_unify.specs.TypeUnification.{ty_has, tys_have, one, followed_by}
use Rattle.isa_unify.proofs.Tests.{or_left, or_right, neither, neither_true, key_self, key_true, key_turned, either}

pub find_append : (s r : List TypeEntry) (x : List ℕ) (i : ℕ) → find_type x i (s ++ r) ≡ either (find_type x i s) (find_type x i r)
find_append [] r x i = refl
find_append (e ∷ s) r x i =
    elim (name_eq x e.name && nat_eq i e.number) as (λ c. cond c (Some e.typ) (find_type x i (s ++ r)) ≡ either (cond c (Some e.typ) (find_type x i s)) (find_type x i r)) [
      | true ↦ refl
      | false ↦ find_append s r x i
    ]

find_map : (r s : List TypeEntry) (x : List ℕ) (i : ℕ) → find_type x i (map (λ (e : TypeEntry). record e { typ = inst_ty r e.typ }) s) ≡ option_map (inst_ty r) (find_type x i s)
find_map r [] x i = refl
find_map r (e ∷ s) x i =
    elim (name_eq x e.name && nat_eq i e.number) as (λ c. cond c (Some (inst_ty r e.typ)) (find_type x i (map (λ (e : TypeEntry). record e { typ = inst_ty r e.typ }) s)) ≡ option_map (inst_ty r) (cond c (Some e.typ) (find_type x i s))) [
      | true ↦ refl
      | false ↦ find_map r s x i
    ]

unwrapped : (r : List TypeEntry) (x : List ℕ) (i : ℕ) (o : Option Ty) → unwrap_or (either (option_map (inst_ty r) o) (find_type x i r)) (TyUnknown x i) ≡ inst_ty r (unwrap_or o (TyUnknown x i))
unwrapped r x i None = refl
unwrapped r x i (Some u) = refl

mutual
  pub inst_followed : (s r : List TypeEntry) (T : Ty) → inst_ty (followed_by s r) T ≡ inst_ty r (inst_ty s T)
  inst_followed s r (TyCon c Ts) = ap (TyCon c) (insts_followed s r Ts)
  inst_followed s r (TyFixed a) = refl
  inst_followed s r (TyUnknown x i) =
      ap (λ o. unwrap_or o (TyUnknown x i)) (find_append (map (λ (e : TypeEntry). record e { typ = inst_ty r e.typ }) s) r x i ∙ ap (λ o. either o (find_type x i r)) (find_map r s x i))
      ∙ unwrapped r x i (find_type x i s)

  insts_followed : (s r : List TypeEntry) (Ts : Tys) → inst_tys (followed_by s r) Ts ≡ inst_tys r (inst_tys s Ts)
  insts_followed s r NoTys = refl
  insts_followed s r (MoreTys T Ts) = λ i. MoreTys (inst_followed s r T i) (insts_followed s r Ts i)

mutual
  pub inst_nothing : (T : Ty) → inst_ty [] T ≡ T
  inst_nothing (TyCon c Ts) = ap (TyCon c) (insts_nothing Ts)
  inst_nothing (TyFixed a) = refl
  inst_nothing (TyUnknown x i) = refl

  insts_nothing : (Ts : Tys) → inst_tys [] Ts ≡ Ts
  insts_nothing NoTys = refl
  insts_nothing (MoreTys T Ts) = λ i. MoreTys (inst_nothing T i) (insts_nothing Ts i)

pub has_self : (x : List ℕ) (i : ℕ) → ty_has x i (TyUnknown x i) ≡ true
has_self x i = key_self x i

pub same_unknown : (x : List ℕ) (i : ℕ) (y : List ℕ) (j : ℕ) → (name_eq x y && nat_eq i j) ≡ true → TyUnknown x i ≡ TyUnknown y j
same_unknown x i y j h = let k = key_true x i y j h in λ l. TyUnknown (k.0 l) (k.1 l)

pub inst_one : (x : List ℕ) (i : ℕ) (T : Ty) → inst_ty (one x i T) (TyUnknown x i) ≡ T
inst_one x i T = ap (λ c. unwrap_or (cond c (Some T) None) (TyUnknown x i)) (key_self x i)

one_without_unknown : (x : List ℕ) (i : ℕ) (T : Ty) (y : List ℕ) (j : ℕ) (c : Bool) → ty_has x i (TyUnknown y j) ≡ c → c ≡ false → unwrap_or (cond c (Some T) None) (TyUnknown y j) ≡ TyUnknown y j
one_without_unknown x i T y j true e h = absurd (cc)
one_without_unknown x i T y j false e h = refl

-- a type without the unknown stays
mutual
  pub one_without : (x : List ℕ) (i : ℕ) (T U : Ty) → ty_has x i U ≡ false → inst_ty (one x i T) U ≡ U
  one_without x i T (TyCon c Us) h = ap (TyCon c) (ones_without x i T Us h)
  one_without x i T (TyFixed a) h = refl
  one_without x i T (TyUnknown y j) h = one_without_unknown x i T y j (ty_has x i (TyUnknown y j)) refl h

  ones_without : (x : List ℕ) (i : ℕ) (T : Ty) (Us : Tys) → tys_have x i Us ≡ false → inst_tys (one x i T) Us ≡ Us
  ones_without x i T NoTys h = refl
  ones_without x i T (MoreTys U Us) h =
      let p = neither_true (ty_has x i U) (tys_have x i Us) h in
      λ l. MoreTys (one_without x i T U p.0 l) (ones_without x i T Us p.1 l)

inst_one_unknown : (r : List TypeEntry) (x : List ℕ) (i : ℕ) (T : Ty) → inst_ty r (TyUnknown x i) ≡ inst_ty r T → (y : List ℕ) (j : ℕ) (c : Bool) → ty_has x i (TyUnknown y j) ≡ c → inst_ty r (unwrap_or (cond c (Some T) None) (TyUnknown y j)) ≡ inst_ty r (TyUnknown y j)
inst_one_unknown r x i T h y j true e = sym h ∙ ap (inst_ty r) (sym (same_unknown y j x i e))
inst_one_unknown r x i T h y j false e = refl

-- an instance that makes the unknown and T equal doesn't see the replacement
mutual
  pub inst_inst_one : (r : List TypeEntry) (x : List ℕ) (i : ℕ) (T : Ty) → inst_ty r (TyUnknown x i) ≡ inst_ty r T → (U : Ty) → inst_ty r (inst_ty (one x i T) U) ≡ inst_ty r U
  inst_inst_one r x i T h (TyCon c Us) = ap (TyCon c) (insts_inst_one r x i T h Us)
  inst_inst_one r x i T h (TyFixed a) = refl
  inst_inst_one r x i T h (TyUnknown y j) = inst_one_unknown r x i T h y j (ty_has x i (TyUnknown y j)) refl

  insts_inst_one : (r : List TypeEntry) (x : List ℕ) (i : ℕ) (T : Ty) → inst_ty r (TyUnknown x i) ≡ inst_ty r T → (Us : Tys) → inst_tys r (inst_tys (one x i T) Us) ≡ inst_tys r Us
  insts_inst_one r x i T h NoTys = refl
  insts_inst_one r x i T h (MoreTys U Us) = λ l. MoreTys (inst_inst_one r x i T h U l) (insts_inst_one r x i T h Us l)

-- no instance makes an unknown and a larger type with it equal
depth_case : (d m n : ℕ) (a b : Bool) → (a || b) ≡ true → (a ≡ true → d ≤ m) → (b ≡ true → d ≤ n) → d ≤ m + n + 1
depth_case d m n true b h p q = let l = p refl in omega (arith, l)
depth_case d m n false b h p q = let l = q h in omega (arith, l)

mutual
  has_depth : (r : List TypeEntry) (x : List ℕ) (i : ℕ) (T : Ty) → ty_has x i T ≡ true → ty_depth (inst_ty r (TyUnknown x i)) ≤ ty_depth (inst_ty r T)
  has_depth r x i (TyCon c Ts) h = let l = have_depth r x i Ts h in omega (arith, l)
  has_depth r x i (TyFixed a) h = absurd (cc)
  has_depth r x i (TyUnknown y j) h =
      let e : ty_depth (inst_ty r (TyUnknown y j)) ≡ ty_depth (inst_ty r (TyUnknown x i)) = ap (λ t. ty_depth (inst_ty r t)) (same_unknown y j x i h) in
      omega (arith, e)

  have_depth : (r : List TypeEntry) (x : List ℕ) (i : ℕ) (Ts : Tys) → tys_have x i Ts ≡ true → ty_depth (inst_ty r (TyUnknown x i)) ≤ tys_depth (inst_tys r Ts)
  have_depth r x i NoTys h = absurd (cc)
  have_depth r x i (MoreTys T Ts) h =
      depth_case (ty_depth (inst_ty r (TyUnknown x i))) (ty_depth (inst_ty r T)) (tys_depth (inst_tys r Ts)) (ty_has x i T) (tys_have x i Ts) h (λ k. has_depth r x i T k) (λ k. have_depth r x i Ts k)

pub no_cycle : (r : List TypeEntry) (x : List ℕ) (i : ℕ) (T : Ty) → ty_eq (TyUnknown x i) T ≡ false → ty_has x i T ≡ true → inst_ty r (TyUnknown x i) ≡ inst_ty r T → ⊥
no_cycle r x i (TyFixed a) d h e = cc
no_cycle r x i (TyUnknown y j) d h e =
    let k : ty_eq (TyUnknown x i) (TyUnknown y j) ≡ true = key_turned y j x i h in
    cc
no_cycle r x i (TyCon c Ts) d h e =
    let same : ty_depth (inst_ty r (TyUnknown x i)) ≡ ty_depth (inst_ty r (TyCon c Ts)) = ap ty_depth e in
    omega (arith, same, have_depth r x i Ts h)

-- what stands in a type after a replacement
under_one_unknown : (x : List ℕ) (i : ℕ) (T : Ty) (y : List ℕ) (j : ℕ) (z : List ℕ) (k : ℕ) (c : Bool) → ty_has y j (unwrap_or (cond c (Some T) None) (TyUnknown z k)) ≡ true → (ty_has y j (TyUnknown z k) ≡ true) ⊎ (ty_has y j T ≡ true)
under_one_unknown x i T y j z k true d = inr d
under_one_unknown x i T y j z k false d = inl d

widened : (a b c : Bool) → (a ≡ true) ⊎ (c ≡ true) → ((a || b) ≡ true) ⊎ (c ≡ true)
widened a b c (inl d) = inl (or_left a b d)
widened a b c (inr d) = inr d

widened_right : (a b c : Bool) → (b ≡ true) ⊎ (c ≡ true) → ((a || b) ≡ true) ⊎ (c ≡ true)
widened_right a b c (inl d) = inl (or_right a b d)
widened_right a b c (inr d) = inr d

joined_case : (p q a b c : Bool) → (p || q) ≡ true → (p ≡ true → (a ≡ true) ⊎ (c ≡ true)) → (q ≡ true → (b ≡ true) ⊎ (c ≡ true)) → ((a || b) ≡ true) ⊎ (c ≡ true)
joined_case true q a b c h f g = widened a b c (f refl)
joined_case false q a b c h f g = widened_right a b c (g h)

mutual
  pub has_under_one : (x : List ℕ) (i : ℕ) (T : Ty) (y : List ℕ) (j : ℕ) (U : Ty) → ty_has y j (inst_ty (one x i T) U) ≡ true → (ty_has y j U ≡ true) ⊎ (ty_has y j T ≡ true)
  has_under_one x i T y j (TyCon c Us) h = have_under_one x i T y j Us h
  has_under_one x i T y j (TyFixed a) h = inl h
  has_under_one x i T y j (TyUnknown z k) h = under_one_unknown x i T y j z k (ty_has x i (TyUnknown z k)) h

  have_under_one : (x : List ℕ) (i : ℕ) (T : Ty) (y : List ℕ) (j : ℕ) (Us : Tys) → tys_have y j (inst_tys (one x i T) Us) ≡ true → (tys_have y j Us ≡ true) ⊎ (ty_has y j T ≡ true)
  have_under_one x i T y j NoTys h = inl h
  have_under_one x i T y j (MoreTys U Us) h =
      joined_case (ty_has y j (inst_ty (one x i T) U)) (tys_have y j (inst_tys (one x i T) Us)) (ty_has y j U) (tys_have y j Us) (ty_has y j T) h (λ d. has_under_one x i T y j U d) (λ d. have_under_one x i T y j Us d)

replaced_unknown : (x : List ℕ) (i : ℕ) (T : Ty) → ty_has x i T ≡ false → (y : List ℕ) (j : ℕ) (c : Bool) → ty_has x i (TyUnknown y j) ≡ c → ty_has x i (unwrap_or (cond c (Some T) None) (TyUnknown y j)) ≡ false
replaced_unknown x i T h y j true e = h
replaced_unknown x i T h y j false e = e

mutual
  pub has_replaced : (x : List ℕ) (i : ℕ) (T : Ty) → ty_has x i T ≡ false → (U : Ty) → ty_has x i (inst_ty (one x i T) U) ≡ false
  has_replaced x i T h (TyCon c Us) = have_replaced x i T h Us
  has_replaced x i T h (TyFixed a) = refl
  has_replaced x i T h (TyUnknown y j) = replaced_unknown x i T h y j (ty_has x i (TyUnknown y j)) refl

  have_replaced : (x : List ℕ) (i : ℕ) (T : Ty) → ty_has x i T ≡ false → (Us : Tys) → tys_have x i (inst_tys (one x i T) Us) ≡ false
  have_replaced x i T h NoTys = refl
  have_replaced x i T h (MoreTys U Us) = neither (ty_has x i (inst_ty (one x i T) U)) (tys_have x i (inst_tys (one x i T) Us)) (has_replaced x i T h U) (have_replaced x i T h Us)
