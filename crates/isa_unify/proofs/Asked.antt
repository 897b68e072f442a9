-- The answer's entries: what they make of the terms that were asked for, and how instances go through them.
use Rattle.std.proofs.Common.{◌≡◌, ℕ, List, [], ◌∷◌, ◌++◌, map, Bool, true, false, cond, ◌&&◌, nat_eq, Some, None, is_some, unwrap_or, refl, sym, ap, ◌∙◌, subst, arith}
use Rattle.std.specs.Cmp.Lexicographic.{bytes_decides}
use Rattle.std.proofs.lemmas.Bool.Decides.{nat_tests}
use Rattle.isa_terms.specs.Types.{Ty, Tys, TyCon, TyFixed, TyUnknown, NoTys, MoreTys}
use Rattle.isa_terms.specs.Terms.{Tm, Const, Free, Unknown, Bound, Abs, App, bare}
use Rattle.isa_terms.specs.Equal.{name_eq, ty_eq}
use Rattle.isa_terms.specs.Typing.{function_of}
use Rattle.isa_terms.specs.Norm.{norm}
use Rattle.isa_terms.specs.Instance.{find_type, find_term, inst_ty, inst_tys, inst_tm}
use Rattle.isa_terms.specs.declared.inst.TypeEntry.{TypeEntry}
use Rattle.isa_terms.specs.declared.inst.TermEntry.{TermEntry}
use Rattle.isa_terms.proofs.Equal.{ty_decides}
use Rattle.isa_terms.specs.Typed.{Typed, TConst, TFree, TUnknown, TBound, TAbs, TApp}
use Rattle.isa_terms.specs.Conversion.{Conv, CRefl, CApp, CAbs}
use Rattle.isa_terms.specs.Instances.{IsKept}
use Rattle.isa_terms.proofs.Typed.{type_of_typed}
use Rattle.isa_terms.proofs.Conv.{right_typed, norm_conv}
use Rattle.isa_terms.proofs.FreeNames.{norm_same_conv}
use Rattle.isa_terms.proofs.Heads.{one_type}
use Rattle.isa_terms.proofs.Instances.{get_inst}
use Rattle.isa_terms.proofs.Composing.{Covers, covers_front, covers_back, some_front, number_self, typ_self, and_true}
use Rattle.isa_terms.proofs.Valuations.{Values, val, AreFit, conv_anywhere}
use Rattle.isa_unify.specs.TypeUnification.{entries_under}
use Rattle.isa_unify.specs.declared.equation.Equation.{Equation}
use Rattle.isa_unify.specs.Unification.{becomes, with_type_unknowns, with_all_type_unknowns, with_types, with_unknowns, asked_types, asked_terms}
use Rattle.isa_unify.proofs.Changing.{IsTyped, TermsTyped}
use Rattle.isa_unify.proofs.Outcomes.{TermsUnder}

name_self : (x : List ℕ) → name_eq x x ≡ true
name_self x = (bytes_decides x x).1 refl

-- ---- type unknowns
abbrev mutual
  pub HasTypes : List TypeEntry → Ty → Type 0
  HasTypes ts (TyCon x Ts) = HaveTypes ts Ts
  HasTypes ts (TyFixed x) = Unit {0}
  HasTypes ts (TyUnknown x i) = is_some (find_type x i ts) ≡ true

  pub HaveTypes : List TypeEntry → Tys → Type 0
  HaveTypes ts NoTys = Unit {0}
  HaveTypes ts (MoreTys T Ts) = HasTypes ts T × HaveTypes ts Ts

-- each entry is the type unknown itself
abbrev pub AreThemselves : List TypeEntry → Type 0
AreThemselves [] = Unit {0}
AreThemselves (e ∷ es) = (e.typ ≡ TyUnknown e.name e.number) × AreThemselves es

abbrev pub Grows : List TypeEntry → List TypeEntry → Type 0
Grows ts us = (x : List ℕ) (i : ℕ) → is_some (find_type x i ts) ≡ true → is_some (find_type x i us) ≡ true

mutual
  grown : (ts us : List TypeEntry) → Grows ts us → (T : Ty) → HasTypes ts T → HasTypes us T
  grown ts us g (TyCon x Ts) h = all_grown ts us g Ts h
  grown ts us g (TyFixed x) h = tt
  grown ts us g (TyUnknown x i) h = g x i h

  all_grown : (ts us : List TypeEntry) → Grows ts us → (Ts : Tys) → HaveTypes ts Ts → HaveTypes us Ts
  all_grown ts us g NoTys h = tt
  all_grown ts us g (MoreTys T Ts) h = (grown ts us g T h.0, all_grown ts us g Ts h.1)

found_self : (r : List TypeEntry) (x : List ℕ) (i : ℕ) (ts : List TypeEntry) → AreThemselves ts → is_some (find_type x i ts) ≡ true → unwrap_or (find_type x i (entries_under r ts)) (TyUnknown x i) ≡ inst_ty r (TyUnknown x i)
found_self r x i [] s h = absurd (cc)
found_self r x i (e ∷ es) s h = go (name_eq x e.name && nat_eq i e.number) refl h (λ k. found_self r x i es s.1 k)
  where
    go : (b : Bool) → (name_eq x e.name && nat_eq i e.number) ≡ b → is_some (cond b (Some e.typ) (find_type x i es)) ≡ true → (is_some (find_type x i es) ≡ true → unwrap_or (find_type x i (entries_under r es)) (TyUnknown x i) ≡ inst_ty r (TyUnknown x i)) → unwrap_or (cond b (Some (inst_ty r e.typ)) (find_type x i (entries_under r es))) (TyUnknown x i) ≡ inst_ty r (TyUnknown x i)
    go true p k ih =
        let q = and_true (name_eq x e.name) (nat_eq i e.number) p in
        let n : e.name ≡ x = sym ((bytes_decides x e.name).0 q.0) in
        let m : e.number ≡ i = grind (arith, nat_tests, q.1) in
        ap (inst_ty r) (s.0 ∙ (λ j. TyUnknown (n j) (m j)))
    go false p k ih = ih k

mutual
  pub under_ty : (r ts : List TypeEntry) → AreThemselves ts → (T : Ty) → HasTypes ts T → inst_ty (entries_under r ts) T ≡ inst_ty r T
  under_ty r ts s (TyCon x Ts) h = ap (TyCon x) (under_tys r ts s Ts h)
  under_ty r ts s (TyFixed x) h = refl
  under_ty r ts s (TyUnknown x i) h = found_self r x i ts s h

  under_tys : (r ts : List TypeEntry) → AreThemselves ts → (Ts : Tys) → HaveTypes ts Ts → inst_tys (entries_under r ts) Ts ≡ inst_tys r Ts
  under_tys r ts s NoTys h = refl
  under_tys r ts s (MoreTys T Ts) h = λ i. MoreTys (under_ty r ts s T h.0 i) (under_tys r ts s Ts h.1 i)

-- ---- the type unknowns that are asked for
selves_snoc : (es : List TypeEntry) (x : List ℕ) (i : ℕ) → AreThemselves es → AreThemselves (es ++ record { name = x; number = i; typ = TyUnknown x i } ∷ [])
selves_snoc [] x i h = (refl, tt)
selves_snoc (e ∷ es) x i h = (h.0, selves_snoc es x i h.1)

grows_snoc : (es : List TypeEntry) (f : TypeEntry) → Grows es (es ++ f ∷ [])
grows_snoc [] f x i h = absurd (cc)
grows_snoc (e ∷ es) f x i h = go (name_eq x e.name && nat_eq i e.number) h (λ k. grows_snoc es f x i k)
  where
    go : (b : Bool) → is_some (cond b (Some e.typ) (find_type x i es)) ≡ true → (is_some (find_type x i es) ≡ true → is_some (find_type x i (es ++ f ∷ [])) ≡ true) → is_some (cond b (Some e.typ) (find_type x i (es ++ f ∷ []))) ≡ true
    go true k ih = refl
    go false k ih = ih k

snoc_has : (es : List TypeEntry) (x : List ℕ) (i : ℕ) → is_some (find_type x i (es ++ record { name = x; number = i; typ = TyUnknown x i } ∷ [])) ≡ true
snoc_has [] x i = λ j. is_some (cond (name_self x j && number_self i j) (Some (TyUnknown x i)) None)
snoc_has (e ∷ es) x i = go (name_eq x e.name && nat_eq i e.number) (snoc_has es x i)
  where
    go : (b : Bool) → is_some (find_type x i (es ++ record { name = x; number = i; typ = TyUnknown x i } ∷ [])) ≡ true → is_some (cond b (Some e.typ) (find_type x i (es ++ record { name = x; number = i; typ = TyUnknown x i } ∷ []))) ≡ true
    go true k = refl
    go false k = k

pub record Asks (before after : List TypeEntry) (P : List TypeEntry → Type 0) : Type 0 where
  pub selves : AreThemselves before → AreThemselves after
  pub grows : Grows before after
  pub has : P after

asks_unknown : (es : List TypeEntry) (x : List ℕ) (i : ℕ) → Asks es (with_type_unknowns es (TyUnknown x i)) (λ us. is_some (find_type x i us) ≡ true)
asks_unknown es x i = go (is_some (find_type x i es)) refl
  where
    go : (b : Bool) → is_some (find_type x i es) ≡ b → Asks es (cond b es (es ++ record { name = x; number = i; typ = TyUnknown x i } ∷ [])) (λ us. is_some (find_type x i us) ≡ true)
    go true p = record { selves = λ h. h; grows = λ y j h. h; has = p }
    go false p = record { selves = λ h. selves_snoc es x i h; grows = grows_snoc es (record { name = x; number = i; typ = TyUnknown x i }); has = snoc_has es x i }

mutual
  asks_ty : (es : List TypeEntry) (T : Ty) → Asks es (with_type_unknowns es T) (λ us. HasTypes us T)
  asks_ty es (TyCon x Ts) = let a = asks_tys es Ts in record { selves = a.selves; grows = a.grows; has = a.has }
  asks_ty es (TyFixed x) = record { selves = λ h. h; grows = λ y j h. h; has = tt }
  asks_ty es (TyUnknown x i) = asks_unknown es x i

  asks_tys : (es : List TypeEntry) (Ts : Tys) → Asks es (with_all_type_unknowns es Ts) (λ us. HaveTypes us Ts)
  asks_tys es NoTys = record { selves = λ h. h; grows = λ y j h. h; has = tt }
  asks_tys es (MoreTys T Ts) =
      let a = asks_ty es T in
      let b = asks_tys (with_type_unknowns es T) Ts in
      record {
        selves = λ h. b.selves (a.selves h);
        grows = λ y j h. b.grows y j (a.grows y j h);
        has = (grown (with_type_unknowns es T) (with_all_type_unknowns (with_type_unknowns es T) Ts) b.grows T a.has, b.has);
      }

-- the types in a term
abbrev pub TypesIn : List TypeEntry → Tm → Type 0
TypesIn ts (Const x T) = HasTypes ts T
TypesIn ts (Free x T) = HasTypes ts T
TypesIn ts (Unknown x i T) = HasTypes ts T
TypesIn ts (Bound n) = Unit {0}
TypesIn ts (Abs x T b) = HasTypes ts T × TypesIn ts b
TypesIn ts (App f a) = TypesIn ts f × TypesIn ts a

pub types_grown : (ts us : List TypeEntry) → Grows ts us → (t : Tm) → TypesIn ts t → TypesIn us t
types_grown ts us g (Const x T) h = grown ts us g T h
types_grown ts us g (Free x T) h = grown ts us g T h
types_grown ts us g (Unknown x i T) h = grown ts us g T h
types_grown ts us g (Bound n) h = tt
types_grown ts us g (Abs x T b) h = (grown ts us g T h.0, types_grown ts us g b h.1)
types_grown ts us g (App f a) h = (types_grown ts us g f h.0, types_grown ts us g a h.1)

pub asks_tm : (es : List TypeEntry) (t : Tm) → Asks es (with_types es t) (λ us. TypesIn us t)
asks_tm es (Const x T) = asks_ty es T
asks_tm es (Free x T) = asks_ty es T
asks_tm es (Unknown x i T) = asks_ty es T
asks_tm es (Bound n) = record { selves = λ h. h; grows = λ y j h. h; has = tt }
asks_tm es (Abs x T b) =
    let a = asks_ty es T in
    let c = asks_tm (with_type_unknowns es T) b in
    record {
      selves = λ h. c.selves (a.selves h);
      grows = λ y j h. c.grows y j (a.grows y j h);
      has = (grown (with_type_unknowns es T) (with_types (with_type_unknowns es T) b) c.grows T a.has, c.has);
    }
asks_tm es (App f a) =
    let c = asks_tm es f in
    let d = asks_tm (with_types es f) a in
    record {
      selves = λ h. d.selves (c.selves h);
      grows = λ y j h. d.grows y j (c.grows y j h);
      has = (types_grown (with_types es f) (with_types (with_types es f) a) d.grows f c.has, d.has);
    }

abbrev pub TypesInEach : List TypeEntry → List Equation → Type 0
TypesInEach ts [] = Unit {0}
TypesInEach ts (e ∷ es) = (TypesIn ts e.left × TypesIn ts e.right) × TypesInEach ts es

each_types_grown : (ts us : List TypeEntry) → Grows ts us → (es : List Equation) → TypesInEach ts es → TypesInEach us es
each_types_grown ts us g [] h = tt
each_types_grown ts us g (e ∷ es) h = ((types_grown ts us g e.left h.0.0, types_grown ts us g e.right h.0.1), each_types_grown ts us g es h.1)

pub asks_each : (ts : List TypeEntry) (es : List Equation) → Asks ts (asked_types ts es) (λ us. TypesInEach us es)
asks_each ts [] = record { selves = λ h. h; grows = λ y j h. h; has = tt }
asks_each ts (e ∷ es) =
    let us = with_types ts e.left in
    let vs = with_types us e.right in
    let a = asks_tm ts e.left in
    let b = asks_tm us e.right in
    let c = asks_each vs es in
    let ws = asked_types vs es in
    record {
      selves = λ h. c.selves (b.selves (a.selves h));
      grows = λ y j h. c.grows y j (b.grows y j (a.grows y j h));
      has = ((types_grown us ws (λ y j h. c.grows y j (b.grows y j h)) e.left a.has, types_grown vs ws c.grows e.right b.has), c.has);
    }

-- ---- the unknowns that are asked for
-- each entry is the unknown itself, at a type whose type unknowns are asked for
abbrev pub TermsThemselves : List TypeEntry → List TermEntry → Type 0
TermsThemselves ts [] = Unit {0}
TermsThemselves ts (e ∷ es) = ((e.term ≡ Unknown e.name e.number e.typ) × HasTypes ts e.typ) × TermsThemselves ts es

terms_snoc : (ts : List TypeEntry) (es : List TermEntry) (x : List ℕ) (i : ℕ) (T : Ty) → HasTypes ts T → TermsThemselves ts es → TermsThemselves ts (es ++ becomes x i T (Unknown x i T) ∷ [])
terms_snoc ts [] x i T h k = ((refl, h), tt)
terms_snoc ts (e ∷ es) x i T h k = (k.0, terms_snoc ts es x i T h k.1)

pub unknowns_themselves : (ts : List TypeEntry) (es : List TermEntry) (t : Tm) → TypesIn ts t → TermsThemselves ts es → TermsThemselves ts (with_unknowns es t)
unknowns_themselves ts es (Const x T) h k = k
unknowns_themselves ts es (Free x T) h k = k
unknowns_themselves ts es (Bound n) h k = k
unknowns_themselves ts es (Abs x T b) h k = unknowns_themselves ts es b h.1 k
unknowns_themselves ts es (App f a) h k = unknowns_themselves ts (with_unknowns es f) a h.1 (unknowns_themselves ts es f h.0 k)
unknowns_themselves ts es (Unknown x i T) h k = go (is_some (find_term x i T es))
  where
    go : (b : Bool) → TermsThemselves ts (cond b es (es ++ becomes x i T (Unknown x i T) ∷ []))
    go true = k
    go false = terms_snoc ts es x i T h k

pub asked_themselves : (ts : List TypeEntry) (fs : List TermEntry) (es : List Equation) → TypesInEach ts es → TermsThemselves ts fs → TermsThemselves ts (asked_terms fs es)
asked_themselves ts fs [] h k = k
asked_themselves ts fs (e ∷ es) h k = asked_themselves ts (with_unknowns (with_unknowns fs e.left) e.right) es h.1 (unknowns_themselves ts (with_unknowns fs e.left) e.right h.0.1 (unknowns_themselves ts fs e.left h.0.0 k))

pub covers_more : (fs gs : List TermEntry) → ((x : List ℕ) (i : ℕ) (T : Ty) → is_some (find_term x i T fs) ≡ true → is_some (find_term x i T gs) ≡ true) → (t : Tm) → Covers fs t → Covers gs t
covers_more fs gs g (Const x T) h = tt
covers_more fs gs g (Free x T) h = tt
covers_more fs gs g (Unknown x i T) h = g x i T h
covers_more fs gs g (Bound n) h = tt
covers_more fs gs g (Abs x T b) h = covers_more fs gs g b h
covers_more fs gs g (App f a) h = (covers_more fs gs g f h.0, covers_more fs gs g a h.1)

pub record AsksTerms (before after : List TermEntry) (P : List TermEntry → Type 0) : Type 0 where
  pub grows : (x : List ℕ) (i : ℕ) (T : Ty) → is_some (find_term x i T before) ≡ true → is_some (find_term x i T after) ≡ true
  pub has : P after

term_snoc_has : (es : List TermEntry) (x : List ℕ) (i : ℕ) (T : Ty) → is_some (find_term x i T (es ++ becomes x i T (Unknown x i T) ∷ [])) ≡ true
term_snoc_has [] x i T = λ j. is_some (cond (name_self x j && (number_self i j && typ_self T j)) (Some (Unknown x i T)) None)
term_snoc_has (e ∷ es) x i T = go (name_eq x e.name && (nat_eq i e.number && ty_eq T e.typ)) (term_snoc_has es x i T)
  where
    go : (b : Bool) → is_some (find_term x i T (es ++ becomes x i T (Unknown x i T) ∷ [])) ≡ true → is_some (cond b (Some e.term) (find_term x i T (es ++ becomes x i T (Unknown x i T) ∷ []))) ≡ true
    go true k = refl
    go false k = k

pub asks_unknowns : (es : List TermEntry) (t : Tm) → AsksTerms es (with_unknowns es t) (λ us. Covers us t)
asks_unknowns es (Const x T) = record { grows = λ y j U h. h; has = tt }
asks_unknowns es (Free x T) = record { grows = λ y j U h. h; has = tt }
asks_unknowns es (Bound n) = record { grows = λ y j U h. h; has = tt }
asks_unknowns es (Abs x T b) = let a = asks_unknowns es b in record { grows = a.grows; has = a.has }
asks_unknowns es (App f a) =
    let c = asks_unknowns es f in
    let d = asks_unknowns (with_unknowns es f) a in
    record {
      grows = λ y j U h. d.grows y j U (c.grows y j U h);
      has = (covers_more (with_unknowns es f) (with_unknowns (with_unknowns es f) a) d.grows f c.has, d.has);
    }
asks_unknowns es (Unknown x i T) = go (is_some (find_term x i T es)) refl
  where
    go : (b : Bool) → is_some (find_term x i T es) ≡ b → AsksTerms es (cond b es (es ++ becomes x i T (Unknown x i T) ∷ [])) (λ us. is_some (find_term x i T us) ≡ true)
    go true p = record { grows = λ y j U h. h; has = p }
    go false p = record { grows = λ y j U h. some_front y j U es (becomes x i T (Unknown x i T) ∷ []) h; has = term_snoc_has es x i T }

abbrev pub CoversEach : List TermEntry → List Equation → Type 0
CoversEach fs [] = Unit {0}
CoversEach fs (e ∷ es) = (Covers fs e.left × Covers fs e.right) × CoversEach fs es

pub asks_terms : (fs : List TermEntry) (es : List Equation) → AsksTerms fs (asked_terms fs es) (λ us. CoversEach us es)
asks_terms fs [] = record { grows = λ y j U h. h; has = tt }
asks_terms fs (e ∷ es) =
    let gs = with_unknowns fs e.left in
    let hs = with_unknowns gs e.right in
    let a = asks_unknowns fs e.left in
    let b = asks_unknowns gs e.right in
    let c = asks_terms hs es in
    let ks = asked_terms hs es in
    record {
      grows = λ y j U h. c.grows y j U (b.grows y j U (a.grows y j U h));
      has = ((covers_more gs ks (λ y j U h. c.grows y j U (b.grows y j U h)) e.left a.has, covers_more hs ks c.grows e.right b.has), c.has);
    }

-- ---- the answer's terms
module _ (r : List TypeEntry) (v : Values) (fit : AreFit r v) where
  -- an answer's term converts to the value of its unknown
  term_conv : (x : List ℕ) (i : ℕ) (T : Ty) (t : Tm) → IsTyped t → bare (norm t) ≡ bare (norm (v x i T)) → Conv [] (inst_ty r T) (v x i T) t
  term_conv x i T t d e =
      let q : d.typ ≡ inst_ty r T = one_type (right_typed (norm_conv d.typed)) (right_typed (norm_conv (fit x i T))) e in
      norm_same_conv (fit x i T) (subst (λ U. Typed [] t U) q d.typed) (sym e)

  pub found_under : (ts : List TypeEntry) (es fs : List TermEntry) → TermsThemselves ts es → TermsUnder r v es fs → TermsTyped fs → (x : List ℕ) (i : ℕ) (T : Ty) → is_some (find_term x i T es) ≡ true → (u : Tm) → Conv [] (inst_ty r T) (v x i T) (unwrap_or (find_term x i T fs) u)
  found_under ts [] fs s h d x i T k u = absurd (cc)
  found_under ts (e ∷ es) [] s h d x i T k u = absurd h
  found_under ts (e ∷ es) (f ∷ fs) s h d x i T k u =
      let test : (name_eq x e.name && (nat_eq i e.number && ty_eq T e.typ)) ≡ (name_eq x f.name && (nat_eq i f.number && ty_eq T f.typ)) = λ j. name_eq x (sym h.0.0 j) && (nat_eq i (sym h.0.1 j) && ty_eq T (sym h.0.2 j)) in
      subst (λ b. Conv [] (inst_ty r T) (v x i T) (unwrap_or (cond b (Some f.term) (find_term x i T fs)) u)) test (go (name_eq x e.name && (nat_eq i e.number && ty_eq T e.typ)) refl k (λ l. found_under ts es fs s.1 h.1 d.1 x i T l u))
    where
      go : (b : Bool) → (name_eq x e.name && (nat_eq i e.number && ty_eq T e.typ)) ≡ b → is_some (cond b (Some e.term) (find_term x i T es)) ≡ true → (is_some (find_term x i T es) ≡ true → Conv [] (inst_ty r T) (v x i T) (unwrap_or (find_term x i T fs) u)) → Conv [] (inst_ty r T) (v x i T) (unwrap_or (cond b (Some f.term) (find_term x i T fs)) u)
      go true p l ih =
          let q = and_true (name_eq x e.name) (nat_eq i e.number && ty_eq T e.typ) p in
          let w = and_true (nat_eq i e.number) (ty_eq T e.typ) q.1 in
          let n = (bytes_decides x e.name).0 q.0 in
          let m : i ≡ e.number = grind (arith, nat_tests, w.0) in
          let t = (ty_decides T e.typ).0 w.1 in
          let is : val r v e.term ≡ v x i T = ap (val r v) s.0.0 ∙ sym (λ j. v (n j) (m j) (t j)) in
          term_conv x i T f.term d.0 (h.0.3 ∙ ap (λ z. bare (norm z)) is)
      go false p l ih = ih l

  pub under_kept : (ts : List TypeEntry) (es fs : List TermEntry) → AreThemselves ts → TermsThemselves ts es → TermsUnder r v es fs → TermsTyped fs → IsKept (entries_under r ts) fs
  under_kept ts [] [] a s h d = tt
  under_kept ts [] (f ∷ fs) a s h d = absurd h
  under_kept ts (e ∷ es) [] a s h d = absurd h
  under_kept ts (e ∷ es) (f ∷ fs) a s h d =
      let is : val r v e.term ≡ v e.name e.number e.typ = ap (val r v) s.0.0 in
      let c = term_conv e.name e.number e.typ f.term d.0 (h.0.3 ∙ ap (λ z. bare (norm z)) is) in
      let q : inst_ty r e.typ ≡ inst_ty (entries_under r ts) f.typ = sym (under_ty r ts a e.typ s.0.1) ∙ ap (inst_ty (entries_under r ts)) (sym h.0.2) in
      (type_of_typed (subst (λ U. Typed [] f.term U) q (right_typed c)), under_kept ts es fs a s.1 h.1 d.1)

  -- a term under the answer converts to its value
  pub asked_conv : (ts : List TypeEntry) (es fs : List TermEntry) → AreThemselves ts → TermsThemselves ts es → TermsUnder r v es fs → TermsTyped fs → {G : List Ty} {t : Tm} {T : Ty} → Typed G t T → TypesIn ts t → Covers es t → Conv (map (inst_ty r) G) (inst_ty r T) (val r v t) (inst_tm (entries_under r ts) fs t)
  asked_conv ts es fs a s h d (TConst {G} {x} {T}) i c = subst (λ U. Conv (map (inst_ty r) G) (inst_ty r T) (Const x (inst_ty r T)) (Const x U)) (sym (under_ty r ts a T i)) (CRefl TConst)
  asked_conv ts es fs a s h d (TFree {G} {x} {T}) i c = subst (λ U. Conv (map (inst_ty r) G) (inst_ty r T) (Free x (inst_ty r T)) (Free x U)) (sym (under_ty r ts a T i)) (CRefl TFree)
  asked_conv ts es fs a s h d (TUnknown {G} {x} {i = n} {T}) i c = conv_anywhere (map (inst_ty r) G) (found_under ts es fs s h d x n T c (Unknown x n (inst_ty (entries_under r ts) T)))
  asked_conv ts es fs a s h d (TBound {G} {n} {T} g) i c = CRefl (TBound (get_inst r G n T g))
  asked_conv ts es fs a s h d (TAbs {G} {x} {S} {T} {b} e) i c =
      subst (λ U. Conv (map (inst_ty r) G) (inst_ty r (function_of S T)) (Abs x (inst_ty r S) (val r v b)) (Abs x U (inst_tm (entries_under r ts) fs b))) (sym (under_ty r ts a S i.0)) (CAbs (asked_conv ts es fs a s h d e i.1 c))
  asked_conv ts es fs a s h d (TApp e f) i c = CApp (asked_conv ts es fs a s h d e i.0 c.0) (asked_conv ts es fs a s h d f i.1 c.1)

-- ---- entries for values
abbrev pub entries_for : Values → Tm → List TermEntry
entries_for v (Unknown x i T) = becomes x i T (v x i T) ∷ []
entries_for v (Abs x T b) = entries_for v b
entries_for v (App f a) = entries_for v f ++ entries_for v a
entries_for v _ = []

abbrev pub all_entries_for : Values → List TermEntry → List TermEntry
all_entries_for v [] = []
all_entries_for v (f ∷ fs) = entries_for v (norm f.term) ++ all_entries_for v fs

abbrev pub AreValues : Values → List TermEntry → Type 0
AreValues v [] = Unit {0}
AreValues v (e ∷ es) = (e.term ≡ v e.name e.number e.typ) × AreValues v es

values_append : (v : Values) (es fs : List TermEntry) → AreValues v es → AreValues v fs → AreValues v (es ++ fs)
values_append v [] fs h k = k
values_append v (e ∷ es) fs h k = (h.0, values_append v es fs h.1 k)

for_values : (v : Values) (t : Tm) → AreValues v (entries_for v t)
for_values v (Const x T) = tt
for_values v (Free x T) = tt
for_values v (Unknown x i T) = (refl, tt)
for_values v (Bound n) = tt
for_values v (Abs x T b) = for_values v b
for_values v (App f a) = values_append v (entries_for v f) (entries_for v a) (for_values v f) (for_values v a)

pub all_values : (v : Values) (fs : List TermEntry) → AreValues v (all_entries_for v fs)
all_values v [] = tt
all_values v (f ∷ fs) = values_append v (entries_for v (norm f.term)) (all_entries_for v fs) (for_values v (norm f.term)) (all_values v fs)

for_covers : (v : Values) (t : Tm) → Covers (entries_for v t) t
for_covers v (Const x T) = tt
for_covers v (Free x T) = tt
for_covers v (Unknown x i T) = λ j. is_some (cond (name_self x j && (number_self i j && typ_self T j)) (Some (v x i T)) None)
for_covers v (Bound n) = tt
for_covers v (Abs x T b) = for_covers v b
for_covers v (App f a) = (covers_front (entries_for v f) (entries_for v a) f (for_covers v f), covers_back (entries_for v f) (entries_for v a) a (for_covers v a))

abbrev pub AllCovered : List TermEntry → List TermEntry → Type 0
AllCovered gs [] = Unit {0}
AllCovered gs (f ∷ fs) = Covers gs (norm f.term) × AllCovered gs fs

covered_back : (es gs fs : List TermEntry) → AllCovered gs fs → AllCovered (es ++ gs) fs
covered_back es gs [] h = tt
covered_back es gs (f ∷ fs) h = (covers_back es gs (norm f.term) h.0, covered_back es gs fs h.1)

pub all_covered : (v : Values) (fs : List TermEntry) → AllCovered (all_entries_for v fs) fs
all_covered v [] = tt
all_covered v (f ∷ fs) =
    (covers_front (entries_for v (norm f.term)) (all_entries_for v fs) (norm f.term) (for_covers v (norm f.term)), covered_back (entries_for v (norm f.term)) (all_entries_for v fs) fs (all_covered v fs))

-- what is found for an unknown that has an entry of the first list, whose keys the second has
pub found_in : (r : List TypeEntry) (v : Values) (gs es fs : List TermEntry) → TermsUnder r v es fs → AllCovered gs fs → (x : List ℕ) (i : ℕ) (T : Ty) → is_some (find_term x i T es) ≡ true → (u : Tm) → Covers gs (norm (unwrap_or (find_term x i T fs) u))
found_in r v gs [] fs h a x i T k u = absurd (cc)
found_in r v gs (e ∷ es) [] h a x i T k u = absurd h
found_in r v gs (e ∷ es) (f ∷ fs) h a x i T k u =
    let test : (name_eq x e.name && (nat_eq i e.number && ty_eq T e.typ)) ≡ (name_eq x f.name && (nat_eq i f.number && ty_eq T f.typ)) = λ j. name_eq x (sym h.0.0 j) && (nat_eq i (sym h.0.1 j) && ty_eq T (sym h.0.2 j)) in
    subst (λ b. Covers gs (norm (unwrap_or (cond b (Some f.term) (find_term x i T fs)) u))) test (go (name_eq x e.name && (nat_eq i e.number && ty_eq T e.typ)) k (λ l. found_in r v gs es fs h.1 a.1 x i T l u))
  where
    go : (b : Bool) → is_some (cond b (Some e.term) (find_term x i T es)) ≡ true → (is_some (find_term x i T es) ≡ true → Covers gs (norm (unwrap_or (find_term x i T fs) u))) → Covers gs (norm (unwrap_or (cond b (Some f.term) (find_term x i T fs)) u))
    go true l ih = a.0
    go false l ih = ih l

found_value : (v : Values) (x : List ℕ) (i : ℕ) (T : Ty) (fs : List TermEntry) → AreValues v fs → is_some (find_term x i T fs) ≡ true → (u : Tm) → unwrap_or (find_term x i T fs) u ≡ v x i T
found_value v x i T [] h k u = absurd (cc)
found_value v x i T (f ∷ fs) h k u = go (name_eq x f.name && (nat_eq i f.number && ty_eq T f.typ)) refl k (λ l. found_value v x i T fs h.1 l u)
  where
    go : (b : Bool) → (name_eq x f.name && (nat_eq i f.number && ty_eq T f.typ)) ≡ b → is_some (cond b (Some f.term) (find_term x i T fs)) ≡ true → (is_some (find_term x i T fs) ≡ true → unwrap_or (find_term x i T fs) u ≡ v x i T) → unwrap_or (cond b (Some f.term) (find_term x i T fs)) u ≡ v x i T
    go true p l ih =
        let q = and_true (name_eq x f.name) (nat_eq i f.number && ty_eq T f.typ) p in
        let w = and_true (nat_eq i f.number) (ty_eq T f.typ) q.1 in
        let n = (bytes_decides x f.name).0 q.0 in
        let m : i ≡ f.number = grind (arith, nat_tests, w.0) in
        let t = (ty_decides T f.typ).0 w.1 in
        h.0 ∙ sym (λ j. v (n j) (m j) (t j))
    go false p l ih = ih l

pub entries_value : (r : List TypeEntry) (v : Values) (fs : List TermEntry) → AreValues v fs → (t : Tm) → Covers fs t → inst_tm r fs t ≡ val r v t
entries_value r v fs h (Const x T) c = refl
entries_value r v fs h (Free x T) c = refl
entries_value r v fs h (Unknown x i T) c = found_value v x i T fs h c (Unknown x i (inst_ty r T))
entries_value r v fs h (Bound n) c = refl
entries_value r v fs h (Abs x T b) c = ap (Abs x (inst_ty r T)) (entries_value r v fs h b c)
entries_value r v fs h (App f a) c = λ i. App (entries_value r v fs h f c.0 i) (entries_value r v fs h a c.1 i)

pub values_kept : (r : List TypeEntry) (v : Values) → AreFit r v → (fs : List TermEntry) → AreValues v fs → IsKept r fs
values_kept r v f [] h = tt
values_kept r v f (e ∷ es) h = (type_of_typed (subst (λ t. Typed [] t (inst_ty r e.typ)) (sym h.0) (f e.name e.number e.typ)), values_kept r v f es h.1)
