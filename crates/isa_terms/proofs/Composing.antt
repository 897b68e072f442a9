-- One instance after another is one instance.
use Rattle.std.proofs.Common.{◌≡◌, ℕ, List, [], ◌∷◌, ◌++◌, map, Bool, true, false, cond, ◌&&◌, nat_eq, Option, Some, None, is_some, unwrap_or, arith, refl, sym, ap, ◌∙◌, subst}
use Rattle.isa_terms.specs.Types.{Ty, Tys, TyCon, TyFixed, TyUnknown, NoTys, MoreTys}
use Rattle.isa_terms.specs.Terms.{Tm, Const, Free, Unknown, Bound, Abs, App, bare}
use Rattle.isa_terms.specs.Equal.{name_eq, ty_eq}
use Rattle.isa_terms.specs.Typing.{function_of}
use Rattle.isa_terms.specs.Norm.{norm}
use Rattle.isa_terms.specs.Instance.{find_type, find_term, inst_ty, inst_tys, inst_tm}
use Rattle.isa_terms.specs.declared.inst.TypeEntry.{TypeEntry}
use Rattle.isa_terms.specs.declared.inst.TermEntry.{TermEntry}
use Rattle.isa_terms.proofs.Equal.{ty_decides}
use Rattle.std.specs.Cmp.Lexicographic.{bytes_decides}
use Rattle.std.proofs.lemmas.Bool.Decides.{nat_tests}
use Rattle.isa_terms.specs.Typed.{Typed, TConst, TFree, TUnknown, TBound, TAbs, TApp}
use Rattle.isa_terms.specs.Conversion.{Conv, CRefl, CApp, CAbs}
use Rattle.isa_terms.specs.Instances.{IsKept, IsFollowed, types_after, terms_after, all_after, Each}
use Rattle.isa_terms.proofs.Typed.{type_of_typed}
use Rattle.isa_terms.proofs.FreeNames.{norm_same_conv}
use Rattle.isa_terms.proofs.Unique.{conv_norm}
use Rattle.isa_terms.proofs.Instances.{closed_anywhere, unknown_typed, inst_typed, inst_norm}

-- ---- an instance that is the first and then the second
module _ (es : List TypeEntry) (fs : List TermEntry) (es1 : List TypeEntry) (fs1 : List TermEntry) (es2 : List TypeEntry) (fs2 : List TermEntry) (kept : IsKept es fs) (kept1 : IsKept es1 fs1) (kept2 : IsKept es2 fs2) where
  abbrev Both : Tm → Tm
  Both t = inst_tm es2 fs2 (inst_tm es1 fs1 t)

  pub unknown_followed : (G : List Ty) (x : List ℕ) (i : ℕ) (T : Ty) → IsFollowed es fs es1 fs1 es2 fs2 (Unknown x i T) → Conv G (inst_ty es T) (inst_tm es fs (Unknown x i T)) (Both (Unknown x i T))
  unknown_followed G x i T h =
      let d : Typed [] (inst_tm es1 fs1 (Unknown x i T)) (inst_ty es1 T) = unknown_typed es1 fs1 [] x i T kept1 in
      let e : Typed (map (inst_ty es2) []) (Both (Unknown x i T)) (inst_ty es2 (inst_ty es1 T)) = inst_typed es2 fs2 kept2 d in
      let e' : Typed G (Both (Unknown x i T)) (inst_ty es T) = subst (λ U. Typed G (Both (Unknown x i T)) U) (sym h.0) (closed_anywhere G e) in
      norm_same_conv (unknown_typed es fs G x i T kept) e' (h.1 ∙ inst_norm es2 fs2 kept2 d)

  pub followed_conv : {G : List Ty} {t : Tm} {T : Ty} → Typed G t T → IsFollowed es fs es1 fs1 es2 fs2 t → Conv (map (inst_ty es) G) (inst_ty es T) (inst_tm es fs t) (Both t)
  followed_conv (TConst {G} {x} {T}) h = subst (λ U. Conv (map (inst_ty es) G) (inst_ty es T) (Const x (inst_ty es T)) (Const x U)) h (CRefl TConst)
  followed_conv (TFree {G} {x} {T}) h = subst (λ U. Conv (map (inst_ty es) G) (inst_ty es T) (Free x (inst_ty es T)) (Free x U)) h (CRefl TFree)
  followed_conv (TUnknown {G} {x} {i} {T}) h = unknown_followed (map (inst_ty es) G) x i T h
  followed_conv (TBound d) h = CRefl (inst_typed es fs kept (TBound d))
  followed_conv (TAbs {G} {x} {S} {T} {b} d) h =
      subst (λ U. Conv (map (inst_ty es) G) (inst_ty es (function_of S T)) (Abs x (inst_ty es S) (inst_tm es fs b)) (Abs x U (Both b))) h.0 (CAbs (followed_conv d h.1))
  followed_conv (TApp d e) h = CApp (followed_conv d h.0) (followed_conv e h.1)

  pub followed_norm : {G : List Ty} {t : Tm} {T : Ty} → Typed G t T → IsFollowed es fs es1 fs1 es2 fs2 t → bare (norm (inst_tm es fs t)) ≡ bare (norm (inst_tm es2 fs2 (norm (inst_tm es1 fs1 t))))
  followed_norm d h = conv_norm (followed_conv d h) ∙ sym (inst_norm es2 fs2 kept2 (inst_typed es1 fs1 kept1 d))

-- ---- the instance that is made for given terms
pub after_found : (es1 es2 : List TypeEntry) (x : List ℕ) (i : ℕ) → unwrap_or (find_type x i (types_after es1 es2)) (TyUnknown x i) ≡ inst_ty es2 (unwrap_or (find_type x i es1) (TyUnknown x i))
after_found [] es2 x i = refl
after_found (e ∷ es1) es2 x i = choice (name_eq x e.name && nat_eq i e.number) (after_found es1 es2 x i)
  where
    choice : (b : Bool) → unwrap_or (find_type x i (types_after es1 es2)) (TyUnknown x i) ≡ inst_ty es2 (unwrap_or (find_type x i es1) (TyUnknown x i)) → unwrap_or (cond b (Some (inst_ty es2 e.typ)) (find_type x i (types_after es1 es2))) (TyUnknown x i) ≡ inst_ty es2 (unwrap_or (cond b (Some e.typ) (find_type x i es1)) (TyUnknown x i))
    choice true h = refl
    choice false h = h

mutual
  pub after_ty : (es1 es2 : List TypeEntry) (T : Ty) → inst_ty (types_after es1 es2) T ≡ inst_ty es2 (inst_ty es1 T)
  after_ty es1 es2 (TyCon x Ts) = ap (TyCon x) (after_tys es1 es2 Ts)
  after_ty es1 es2 (TyFixed x) = refl
  after_ty es1 es2 (TyUnknown x i) = after_found es1 es2 x i

  after_tys : (es1 es2 : List TypeEntry) (Ts : Tys) → inst_tys (types_after es1 es2) Ts ≡ inst_tys es2 (inst_tys es1 Ts)
  after_tys es1 es2 NoTys = refl
  after_tys es1 es2 (MoreTys T Ts) = λ i. MoreTys (after_ty es1 es2 T i) (after_tys es1 es2 Ts i)

-- the unknowns of the term have entries
abbrev pub Covers : List TermEntry → Tm → Type 0
Covers fs (Unknown x i T) = is_some (find_term x i T fs) ≡ true
Covers fs (Abs x T b) = Covers fs b
Covers fs (App f a) = Covers fs f × Covers fs a
Covers fs _ = Unit {0}

pub some_front : (x : List ℕ) (i : ℕ) (T : Ty) (fs gs : List TermEntry) → is_some (find_term x i T fs) ≡ true → is_some (find_term x i T (fs ++ gs)) ≡ true
some_front x i T [] gs h = cc
some_front x i T (f ∷ fs) gs h = choice (name_eq x f.name && (nat_eq i f.number && ty_eq T f.typ)) (λ k. some_front x i T fs gs k) h
  where
    choice : (b : Bool) → (is_some (find_term x i T fs) ≡ true → is_some (find_term x i T (fs ++ gs)) ≡ true) → is_some (cond b (Some f.term) (find_term x i T fs)) ≡ true → is_some (cond b (Some f.term) (find_term x i T (fs ++ gs))) ≡ true
    choice true r k = refl
    choice false r k = r k

pub some_back : (x : List ℕ) (i : ℕ) (T : Ty) (fs gs : List TermEntry) → is_some (find_term x i T gs) ≡ true → is_some (find_term x i T (fs ++ gs)) ≡ true
some_back x i T [] gs h = h
some_back x i T (f ∷ fs) gs h = choice (name_eq x f.name && (nat_eq i f.number && ty_eq T f.typ)) (some_back x i T fs gs h)
  where
    choice : (b : Bool) → is_some (find_term x i T (fs ++ gs)) ≡ true → is_some (cond b (Some f.term) (find_term x i T (fs ++ gs))) ≡ true
    choice true r = refl
    choice false r = r

pub covers_front : (fs gs : List TermEntry) (t : Tm) → Covers fs t → Covers (fs ++ gs) t
covers_front fs gs (Const x T) h = tt
covers_front fs gs (Free x T) h = tt
covers_front fs gs (Unknown x i T) h = some_front x i T fs gs h
covers_front fs gs (Bound n) h = tt
covers_front fs gs (Abs x T b) h = covers_front fs gs b h
covers_front fs gs (App f a) h = (covers_front fs gs f h.0, covers_front fs gs a h.1)

pub covers_back : (fs gs : List TermEntry) (t : Tm) → Covers gs t → Covers (fs ++ gs) t
covers_back fs gs (Const x T) h = tt
covers_back fs gs (Free x T) h = tt
covers_back fs gs (Unknown x i T) h = some_back x i T fs gs h
covers_back fs gs (Bound n) h = tt
covers_back fs gs (Abs x T b) h = covers_back fs gs b h
covers_back fs gs (App f a) h = (covers_back fs gs f h.0, covers_back fs gs a h.1)

name_self : (x : List ℕ) → name_eq x x ≡ true
name_self x = (bytes_decides x x).1 refl

pub number_self : (i : ℕ) → nat_eq i i ≡ true
number_self i = grind (arith, nat_tests)

pub typ_self : (T : Ty) → ty_eq T T ≡ true
typ_self T = (ty_decides T T).1 refl

pub and_true : (a b : Bool) → (a && b) ≡ true → (a ≡ true) × (b ≡ true)
and_true true b e = (refl, e)
and_true false b e = cc

pub kept_append : (es : List TypeEntry) (fs gs : List TermEntry) → IsKept es fs → IsKept es gs → IsKept es (fs ++ gs)
kept_append es [] gs h k = k
kept_append es (f ∷ fs) gs h k = (h.0, kept_append es fs gs h.1 k)

module _ (es1 : List TypeEntry) (fs1 : List TermEntry) (es2 : List TypeEntry) (fs2 : List TermEntry) where
  -- each entry gives its unknown what the two instances make of it
  abbrev pub AreAfter : List TermEntry → Type 0
  AreAfter [] = Unit {0}
  AreAfter (f ∷ fs) = (f.term ≡ inst_tm es2 fs2 (inst_tm es1 fs1 (Unknown f.name f.number f.typ))) × AreAfter fs

  pub after_append : (fs gs : List TermEntry) → AreAfter fs → AreAfter gs → AreAfter (fs ++ gs)
  after_append [] gs h k = k
  after_append (f ∷ fs) gs h k = (h.0, after_append fs gs h.1 k)

  pub terms_are_after : (t : Tm) → AreAfter (terms_after es1 fs1 es2 fs2 t)
  terms_are_after (Const x T) = tt
  terms_are_after (Free x T) = tt
  terms_are_after (Unknown x i T) = (refl, tt)
  terms_are_after (Bound n) = tt
  terms_are_after (Abs x T b) = terms_are_after b
  terms_are_after (App f a) = after_append (terms_after es1 fs1 es2 fs2 f) (terms_after es1 fs1 es2 fs2 a) (terms_are_after f) (terms_are_after a)

  pub all_are_after : (ts : List Tm) → AreAfter (all_after es1 fs1 es2 fs2 ts)
  all_are_after [] = tt
  all_are_after (t ∷ ts) = after_append (terms_after es1 fs1 es2 fs2 t) (all_after es1 fs1 es2 fs2 ts) (terms_are_after t) (all_are_after ts)

  pub terms_cover : (t : Tm) → Covers (terms_after es1 fs1 es2 fs2 t) t
  terms_cover (Const x T) = tt
  terms_cover (Free x T) = tt
  terms_cover (Unknown x i T) =
      let v : Option Tm = Some (inst_tm es2 fs2 (inst_tm es1 fs1 (Unknown x i T))) in
      λ j. is_some (cond (name_self x j && (number_self i j && typ_self T j)) v None)
  terms_cover (Bound n) = tt
  terms_cover (Abs x T b) = terms_cover b
  terms_cover (App f a) =
      let fs = terms_after es1 fs1 es2 fs2 f in
      let gs = terms_after es1 fs1 es2 fs2 a in
      (covers_front fs gs f (terms_cover f), covers_back fs gs a (terms_cover a))

  pub cover_back : (fs gs : List TermEntry) (ts : List Tm) → Each (λ t. Covers gs t) ts → Each (λ t. Covers (fs ++ gs) t) ts
  cover_back fs gs [] c = tt
  cover_back fs gs (t ∷ ts) c = (covers_back fs gs t c.0, cover_back fs gs ts c.1)

  pub all_cover : (ts : List Tm) → Each (λ t. Covers (all_after es1 fs1 es2 fs2 ts) t) ts
  all_cover [] = tt
  all_cover (t ∷ ts) =
      let fs = terms_after es1 fs1 es2 fs2 t in
      let gs = all_after es1 fs1 es2 fs2 ts in
      (covers_front fs gs t (terms_cover t), cover_back fs gs ts (all_cover ts))

  -- what is found for an unknown
  pub found_after : (x : List ℕ) (i : ℕ) (T : Ty) (fs : List TermEntry) → AreAfter fs → is_some (find_term x i T fs) ≡ true → (u : Tm) → unwrap_or (find_term x i T fs) u ≡ inst_tm es2 fs2 (inst_tm es1 fs1 (Unknown x i T))
  found_after x i T [] h k u = cc
  found_after x i T (f ∷ fs) h k u = choice (name_eq x f.name && (nat_eq i f.number && ty_eq T f.typ)) refl (λ l. found_after x i T fs h.1 l u) k
    where
      same : (name_eq x f.name && (nat_eq i f.number && ty_eq T f.typ)) ≡ true → Unknown f.name f.number f.typ ≡ Unknown x i T
      same e =
          let p = and_true (name_eq x f.name) (nat_eq i f.number && ty_eq T f.typ) e in
          let q = and_true (nat_eq i f.number) (ty_eq T f.typ) p.1 in
          let n = (bytes_decides x f.name).0 p.0 in
          let m : i ≡ f.number = grind (arith, nat_tests, q.0) in
          let t = (ty_decides T f.typ).0 q.1 in
          sym (λ j. Unknown (n j) (m j) (t j))

      choice : (b : Bool) → (name_eq x f.name && (nat_eq i f.number && ty_eq T f.typ)) ≡ b → (is_some (find_term x i T fs) ≡ true → unwrap_or (find_term x i T fs) u ≡ inst_tm es2 fs2 (inst_tm es1 fs1 (Unknown x i T))) → is_some (cond b (Some f.term) (find_term x i T fs)) ≡ true → unwrap_or (cond b (Some f.term) (find_term x i T fs)) u ≡ inst_tm es2 fs2 (inst_tm es1 fs1 (Unknown x i T))
      choice true e r l = h.0 ∙ ap (λ v. inst_tm es2 fs2 (inst_tm es1 fs1 v)) (same e)
      choice false e r l = r l

  module _ (kept1 : IsKept es1 fs1) (kept2 : IsKept es2 fs2) where
    pub after_followed : (fs : List TermEntry) → AreAfter fs → (t : Tm) → Covers fs t → IsFollowed (types_after es1 es2) fs es1 fs1 es2 fs2 t
    after_followed fs h (Const x T) c = after_ty es1 es2 T
    after_followed fs h (Free x T) c = after_ty es1 es2 T
    after_followed fs h (Unknown x i T) c =
        let d : Typed [] (inst_tm es1 fs1 (Unknown x i T)) (inst_ty es1 T) = unknown_typed es1 fs1 [] x i T kept1 in
        (after_ty es1 es2 T, ap (λ u. bare (norm u)) (found_after x i T fs h c (Unknown x i (inst_ty (types_after es1 es2) T))) ∙ sym (inst_norm es2 fs2 kept2 d))
    after_followed fs h (Bound n) c = tt
    after_followed fs h (Abs x T b) c = (after_ty es1 es2 T, after_followed fs h b c)
    after_followed fs h (App f a) c = (after_followed fs h f c.0, after_followed fs h a c.1)

    -- what is made keeps types
    pub after_kept : (fs : List TermEntry) → AreAfter fs → IsKept (types_after es1 es2) fs
    after_kept [] h = tt
    after_kept (f ∷ fs) h =
        let d : Typed [] (inst_tm es1 fs1 (Unknown f.name f.number f.typ)) (inst_ty es1 f.typ) = unknown_typed es1 fs1 [] f.name f.number f.typ kept1 in
        let e : Typed [] (inst_tm es2 fs2 (inst_tm es1 fs1 (Unknown f.name f.number f.typ))) (inst_ty es2 (inst_ty es1 f.typ)) = inst_typed es2 fs2 kept2 d in
        let g : Typed [] f.term (inst_ty es2 (inst_ty es1 f.typ)) = subst (λ v. Typed [] v (inst_ty es2 (inst_ty es1 f.typ))) (sym h.0) e in
        (type_of_typed (subst (λ U. Typed [] f.term U) (sym (after_ty es1 es2 f.typ)) g), after_kept fs h.1)

    each_followed : (fs : List TermEntry) → AreAfter fs → (ts : List Tm) → Each (λ t. Covers fs t) ts → Each (λ t. IsFollowed (types_after es1 es2) fs es1 fs1 es2 fs2 t) ts
    each_followed fs h [] c = tt
    each_followed fs h (t ∷ ts) c = (after_followed fs h t c.0, each_followed fs h ts c.1)

    -- it is the first instance and then the second, on each of the terms
    pub all_followed : (ts : List Tm) → Each (λ t. IsFollowed (types_after es1 es2) (all_after es1 fs1 es2 fs2 ts) es1 fs1 es2 fs2 t) ts
    all_followed ts = each_followed (all_after es1 fs1 es2 fs2 ts) (all_are_after ts) ts (all_cover ts)
