-- Steps of solving equations of types.
use Rattle.std.proofs.Common.{◌≡◌, ℕ, List, [], ◌∷◌, ◌++◌, Bool, true, false, reverse, cond, ◌&&◌, ◌||◌, nat_eq, Option, Some, None, refl, sym, ap, ◌∙◌, subst, append_assoc}
use Rattle.std.proofs.lemmas.List.{append-nil, reverse-append, reverse-reverse}
use Rattle.isa_terms.specs.Types.{Ty, Tys, TyCon, TyFixed, TyUnknown, NoTys, MoreTys}
use Rattle.isa_terms.specs.Equal.{name_eq, ty_eq}
use Rattle.isa_terms.specs.Instance.{inst_ty, inst_tys}
use Rattle.isa_terms.specs.declared.inst.TypeEntry.{TypeEntry}
use Rattle.isa_terms.proofs.Equal.{ty_decides}
use Rattle.isa_unify.specs.TypeUnification.{Unifies, IsMostGeneral, ty_has, tys_have, one, followed_by, paired}
use Rattle.isa_typing.specs.Found.{Found, nothing, found_in, Binds, Agrees, IsMeaning, FindsSame, found_at, EqualUnder, TellsStanding, TellStanding, Leads, HasNone, Steps, Pairs, PairsBehind, Solves, Meets, IsUnifier}
use Rattle.isa_unify.proofs.Tests.{name_self, name_true, key_self, key_true, key_turned}
use Rattle.isa_unify.proofs.TypeInstances.{inst_followed, inst_nothing, inst_one, one_without, inst_inst_one, no_cycle}

abbrev same_key : List ℕ → ℕ → List ℕ → ℕ → Bool
same_key x i y j = name_eq x y && nat_eq i j

-- 1. A binding

-- what is found of the variable itself, and of the others
bound_here : (F G : Found) (x : List ℕ) (i : ℕ) (T : Ty) → Binds F x i T G → G x i ≡ Some T
bound_here F G x i T b = b x i ∙ ap (λ c. cond c (Some T) (F x i)) (key_self x i)

bound_elsewhere : (F G : Found) (x : List ℕ) (i : ℕ) (T : Ty) → Binds F x i T G → (y : List ℕ) (j : ℕ) → same_key x i y j ≡ false → G y j ≡ F y j
bound_elsewhere F G x i T b y j e = b y j ∙ ap (λ c. cond c (Some T) (F y j)) e

-- an open variable is none that is bound
not_same : (F : Found) (x : List ℕ) (i : ℕ) (y : List ℕ) (j : ℕ) (U : Ty) → F x i ≡ None → F y j ≡ Some U → same_key x i y j ≡ false
not_same F x i y j U o s = at (same_key x i y j) refl where
  at : (c : Bool) → same_key x i y j ≡ c → c ≡ false
  at false e = refl
  at true e =
      let k = key_true x i y j e in
      let here : F x i ≡ Some U = ap (λ z. F z i) k.0 ∙ (ap (F y) k.1 ∙ s) in
      absurd (cc)

agrees_kept : (F G : Found) (x : List ℕ) (i : ℕ) (T : Ty) → Binds F x i T G → F x i ≡ None → (r : List TypeEntry) → Agrees r G → Agrees r F
agrees_kept F G x i T b o r a y j U s = a y j U (bound_elsewhere F G x i T b y j (not_same F x i y j U o s) ∙ s)

agrees_bound : (F G : Found) (x : List ℕ) (i : ℕ) (T : Ty) → Binds F x i T G → (r : List TypeEntry) → Agrees r G → inst_ty r (TyUnknown x i) ≡ inst_ty r T
agrees_bound F G x i T b r a = a x i T (bound_here F G x i T b)

agrees_more : (F G : Found) (x : List ℕ) (i : ℕ) (T : Ty) → Binds F x i T G → (r : List TypeEntry) → Agrees r F → inst_ty r (TyUnknown x i) ≡ inst_ty r T → Agrees r G
agrees_more F G x i T b r a e y j U s = at (same_key x i y j) refl where
  at : (c : Bool) → same_key x i y j ≡ c → inst_ty r (TyUnknown y j) ≡ inst_ty r U
  at false w = a y j U (sym (bound_elsewhere F G x i T b y j w) ∙ s)
  at true w =
      let k = key_true x i y j w in
      let here : G x i ≡ Some U = ap (λ z. G z i) k.0 ∙ (ap (G y) k.1 ∙ s) in
      let there : G x i ≡ Some T = bound_here F G x i T b in
      let is : T ≡ U = cc in
      (λ l. inst_ty r (TyUnknown (sym k.0 l) (sym k.1 l))) ∙ (e ∙ ap (inst_ty r) is)

not_turned : (x : List ℕ) (i : ℕ) (y : List ℕ) (j : ℕ) → same_key x i y j ≡ false → same_key y j x i ≡ false
not_turned x i y j e = at (same_key y j x i) refl where
  at : (v : Bool) → same_key y j x i ≡ v → v ≡ false
  at false w = refl
  at true w = let back : same_key x i y j ≡ true = key_turned y j x i w in absurd (cc)

-- a variable that is open with a binding is another one, and was open before
open_other : (F G : Found) (x : List ℕ) (i : ℕ) (T : Ty) → Binds F x i T G → (y : List ℕ) (j : ℕ) → G y j ≡ None → same_key x i y j ≡ false
open_other F G x i T b y j s = at (same_key x i y j) refl where
  at : (c : Bool) → same_key x i y j ≡ c → c ≡ false
  at false w = refl
  at true w = let e : G y j ≡ Some T = b y j ∙ ap (λ v. cond v (Some T) (F y j)) w in absurd (cc)

open_before : (F G : Found) (x : List ℕ) (i : ℕ) (T : Ty) → Binds F x i T G → (y : List ℕ) (j : ℕ) → G y j ≡ None → F y j ≡ None
open_before F G x i T b y j s = sym (bound_elsewhere F G x i T b y j (open_other F G x i T b y j s)) ∙ s

-- the meaning with one more binding
meaning_bound : (F G : Found) (x : List ℕ) (i : ℕ) (T : Ty) (q : List TypeEntry) → IsMeaning F q → Binds F x i T G → F x i ≡ None → ty_has x i (inst_ty q T) ≡ false → IsMeaning G (followed_by q (one x i (inst_ty q T)))
meaning_bound F G x i T q m b o h =
    let S : Ty = inst_ty q T in
    let p : List TypeEntry = followed_by q (one x i S) in
    let old : Agrees p F = λ y j U s. inst_followed q (one x i S) (TyUnknown y j) ∙ (ap (inst_ty (one x i S)) (m.agrees y j U s) ∙ sym (inst_followed q (one x i S) U)) in
    let here : inst_ty p (TyUnknown x i) ≡ S = inst_followed q (one x i S) (TyUnknown x i) ∙ (ap (inst_ty (one x i S)) (m.leaves x i o) ∙ inst_one x i S) in
    let there : inst_ty p T ≡ S = inst_followed q (one x i S) T ∙ one_without x i S S h in
    record {
      agrees = agrees_more F G x i T b p old (here ∙ sym there);
      is_general = λ r a U.
          let f : Agrees r F = agrees_kept F G x i T b o r a in
          let e : inst_ty r (TyUnknown x i) ≡ inst_ty r S = agrees_bound F G x i T b r a ∙ sym (m.is_general r f T) in
          ap (inst_ty r) (inst_followed q (one x i S) U) ∙ (inst_inst_one r x i S e (inst_ty q U) ∙ m.is_general r f U);
      leaves = λ y j s.
          let w : same_key x i y j ≡ false = open_other F G x i T b y j s in
          inst_followed q (one x i S) (TyUnknown y j) ∙ (ap (inst_ty (one x i S)) (m.leaves y j (open_before F G x i T b y j s)) ∙ one_without x i S (TyUnknown y j) (not_turned x i y j w));
    }

-- 2. What is found is told shorter

pub same_found : (F : Found) → FindsSame F F
same_found F = record { there = λ r a. a; back = λ r a. a; unfound = λ x i o. o; unfound_back = λ x i o. o }

pub same_after : (F G H : Found) → FindsSame F G → FindsSame G H → FindsSame F H
same_after F G H s t = record {
  there = λ r a. t.there r (s.there r a);
  back = λ r a. s.back r (t.back r a);
  unfound = λ x i o. s.unfound x i (t.unfound x i o);
  unfound_back = λ x i o. t.unfound_back x i (s.unfound_back x i o);
}

-- a variable that was found is equal to what was found
pub equal_found : (F : Found) (S T : Ty) → found_at F S ≡ Some T → EqualUnder F T S
equal_found F (TyUnknown x i) T e = record { equal = λ r a. sym (a x i T e) }
equal_found F (TyCon c Ts) T e = absurd (cc)
equal_found F (TyFixed b) T e = absurd (cc)

pub equal_after : (F : Found) (S T U : Ty) → EqualUnder F S T → EqualUnder F T U → EqualUnder F S U
equal_after F S T U p q = record { equal = λ r a. p.equal r a ∙ q.equal r a }

pub equal_back : (F G : Found) (S T : Ty) → FindsSame F G → EqualUnder F S T → EqualUnder G S T
equal_back F G S T s p = record { equal = λ r a. p.equal r (s.back r a) }

pub equal_there : (F G : Found) (S T : Ty) → FindsSame F G → EqualUnder G S T → EqualUnder F S T
equal_there F G S T s p = record { equal = λ r a. p.equal r (s.there r a) }

-- a variable that is bound to another is bound to what that is bound to
shorter_back : (F G : Found) (x : List ℕ) (i : ℕ) (N E : Ty) → F x i ≡ Some N → found_at F N ≡ Some E → Binds F x i E G → (r : List TypeEntry) → Agrees r G → inst_ty r (TyUnknown x i) ≡ inst_ty r N
shorter_back F G x i (TyUnknown z k) E n e b r a = at (same_key x i z k) refl where
  at : (c : Bool) → same_key x i z k ≡ c → inst_ty r (TyUnknown x i) ≡ inst_ty r (TyUnknown z k)
  at true w = let s = key_true x i z k w in λ l. inst_ty r (TyUnknown (s.0 l) (s.1 l))
  at false w = agrees_bound F G x i E b r a ∙ sym (a z k E (bound_elsewhere F G x i E b z k w ∙ e))
shorter_back F G x i (TyCon c Ts) E n e b r a = absurd (cc)
shorter_back F G x i (TyFixed c) E n e b r a = absurd (cc)

pub shortened : (F G : Found) (x : List ℕ) (i : ℕ) (N E : Ty) → F x i ≡ Some N → found_at F N ≡ Some E → Binds F x i E G → FindsSame F G
shortened F G x i N E n e b = record {
  there = λ r a. agrees_more F G x i E b r a (a x i N n ∙ sym ((equal_found F N E e).equal r a));
  back = λ r a y j U s. old r a y j U s (same_key x i y j) refl;
  unfound = open_before F G x i E b;
  unfound_back = λ y j o. bound_elsewhere F G x i E b y j (other y j o (same_key x i y j) refl) ∙ o;
} where
  old : (r : List TypeEntry) → Agrees r G → (y : List ℕ) (j : ℕ) (U : Ty) → F y j ≡ Some U → (c : Bool) → same_key x i y j ≡ c → inst_ty r (TyUnknown y j) ≡ inst_ty r U
  old r a y j U s false w = a y j U (bound_elsewhere F G x i E b y j w ∙ s)
  old r a y j U s true w =
      let k = key_true x i y j w in
      let here : F x i ≡ Some U = ap (λ z. F z i) k.0 ∙ (ap (F y) k.1 ∙ s) in
      let is : N ≡ U = cc in
      (λ l. inst_ty r (TyUnknown (sym k.0 l) (sym k.1 l))) ∙ (shorter_back F G x i N E n e b r a ∙ ap (inst_ty r) is)

  other : (y : List ℕ) (j : ℕ) → F y j ≡ None → (c : Bool) → same_key x i y j ≡ c → c ≡ false
  other y j o false w = refl
  other y j o true w =
      let k = key_true x i y j w in
      let here : F x i ≡ None = ap (λ z. F z i) k.0 ∙ (ap (F y) k.1 ∙ o) in
      absurd (cc)

meaning_same : (F G : Found) (q : List TypeEntry) → FindsSame F G → IsMeaning F q → IsMeaning G q
meaning_same F G q s m = record {
  agrees = s.there q m.agrees;
  is_general = λ r a. m.is_general r (s.back r a);
  leaves = λ x i o. m.leaves x i (s.unfound x i o);
}

-- 3. Equations behind others

unifies_last : (r : List TypeEntry) (es : List (Ty × Ty)) (e : Ty × Ty) → Unifies r es → inst_ty r e.0 ≡ inst_ty r e.1 → Unifies r (es ++ e ∷ [])
unifies_last r [] e u h = (h, tt)
unifies_last r (d ∷ es) e u h = (u.0, unifies_last r es e u.1 h)

unifies_parts : (r : List TypeEntry) (es ds : List (Ty × Ty)) → Unifies r (es ++ ds) → Unifies r es × Unifies r ds
unifies_parts r [] ds u = (tt, u)
unifies_parts r (e ∷ es) ds u = let p = unifies_parts r es ds u.1 in ((u.0, p.0), p.1)

unifies_both : (r : List TypeEntry) (es ds : List (Ty × Ty)) → Unifies r es → Unifies r ds → Unifies r (es ++ ds)
unifies_both r [] ds u v = v
unifies_both r (e ∷ es) ds u v = (u.0, unifies_both r es ds u.1 v)

pub unifies_reversed : (r : List TypeEntry) (es : List (Ty × Ty)) → Unifies r es → Unifies r (reverse es)
unifies_reversed r [] u = tt
unifies_reversed r (e ∷ es) u = subst (Unifies r) (sym (reverse-append (e ∷ []) es)) (unifies_both r (reverse es) (e ∷ []) (unifies_reversed r es u.1) (u.0, tt))

pub unifies_back : (r : List TypeEntry) (es : List (Ty × Ty)) → Unifies r (reverse es) → Unifies r es
unifies_back r es u = subst (Unifies r) (reverse-reverse es) (unifies_reversed r (reverse es) u)

-- 4. One step

-- two ends that are one type
pub step_same : (F : Found) (w : List (Ty × Ty)) (L R : Ty) → L ≡ R → Leads (w ++ (L, R) ∷ []) F w F
step_same F w L R e = record {
  there = λ r u a. ((unifies_parts r w ((L, R) ∷ []) u).0, a);
  back = λ r u a. (unifies_last r w (L, R) u (ap (inst_ty r) e), a);
  meaning = λ q m. (q, m);
}

-- a variable that is open, on the left
pub step_bound : (F G : Found) (w : List (Ty × Ty)) (x : List ℕ) (i : ℕ) (R : Ty) → Binds F x i R G → F x i ≡ None → TellsStanding F x i R false → Leads (w ++ (TyUnknown x i, R) ∷ []) F w G
step_bound F G w x i R b o h = record {
  there = λ r u a. let p = unifies_parts r w ((TyUnknown x i, R) ∷ []) u in (p.0, agrees_more F G x i R b r a p.1.0);
  back = λ r u a. (unifies_last r w (TyUnknown x i, R) u (agrees_bound F G x i R b r a), agrees_kept F G x i R b o r a);
  meaning = λ q m. (followed_by q (one x i (inst_ty q R)), meaning_bound F G x i R q m b o (sym (h.tells q m)));
}

leads_turned : (F G : Found) (w v : List (Ty × Ty)) (L R : Ty) → Leads (w ++ (R, L) ∷ []) F v G → Leads (w ++ (L, R) ∷ []) F v G
leads_turned F G w v L R s = record {
  there = λ r u a. let p = unifies_parts r w ((L, R) ∷ []) u in s.there r (unifies_last r w (R, L) p.0 (sym p.1.0)) a;
  back = λ r u a. let k = s.back r u a in let p = unifies_parts r w ((R, L) ∷ []) k.0 in (unifies_last r w (L, R) p.0 (sym p.1.0), k.1);
  meaning = s.meaning;
}

-- the same on the right
pub step_bound_right : (F G : Found) (w : List (Ty × Ty)) (x : List ℕ) (i : ℕ) (L : Ty) → Binds F x i L G → F x i ≡ None → TellsStanding F x i L false → Leads (w ++ (L, TyUnknown x i) ∷ []) F w G
step_bound_right F G w x i L b o h = leads_turned F G w w L (TyUnknown x i) (step_bound F G w x i L b o h)

-- an end that is not the variable is not it under what is found
not_variable : (F : Found) (q : List TypeEntry) (x : List ℕ) (i : ℕ) (R : Ty) → IsMeaning F q → found_at F R ≡ None → ty_eq (TyUnknown x i) R ≡ false → ty_eq (TyUnknown x i) (inst_ty q R) ≡ false
not_variable F q x i (TyUnknown y j) m o d = ap (ty_eq (TyUnknown x i)) (m.leaves y j o) ∙ d
not_variable F q x i (TyCon c Ts) m o d = refl
not_variable F q x i (TyFixed a) m o d = refl

-- a variable in a larger type
pub step_cyclic : (F : Found) (w : List (Ty × Ty)) (x : List ℕ) (i : ℕ) (R : Ty) → found_at F R ≡ None → ty_eq (TyUnknown x i) R ≡ false → TellsStanding F x i R true → HasNone (w ++ (TyUnknown x i, R) ∷ []) F
step_cyclic F w x i R o d h = record {
  none = λ q m r u a.
      let p = unifies_parts r w ((TyUnknown x i, R) ∷ []) u in
      no_cycle r x i (inst_ty q R) (not_variable F q x i R m o d) (sym (h.tells q m)) (p.1.0 ∙ sym (m.is_general r a R));
}

pub step_cyclic_right : (F : Found) (w : List (Ty × Ty)) (x : List ℕ) (i : ℕ) (L : Ty) → found_at F L ≡ None → ty_eq (TyUnknown x i) L ≡ false → TellsStanding F x i L true → HasNone (w ++ (L, TyUnknown x i) ∷ []) F
step_cyclic_right F w x i L o d h = record {
  none = λ q m r u a.
      let p = unifies_parts r w ((L, TyUnknown x i) ∷ []) u in
      (step_cyclic F w x i L o d h).none q m r (unifies_last r w (TyUnknown x i, L) p.0 (sym p.1.0)) a;
}

-- ends that no instance makes equal
pub step_clash : (F : Found) (w : List (Ty × Ty)) (L R : Ty) → ((r : List TypeEntry) → inst_ty r L ≡ inst_ty r R → ⊥) → HasNone (w ++ (L, R) ∷ []) F
step_clash F w L R h = record { none = λ q m r u a. h r (unifies_parts r w ((L, R) ∷ []) u).1.0 }

-- arguments
-- what the rest of the arguments make of the whole
abbrev with_first : Ty → Ty → Option (List (Ty × Ty)) → Option (List (Ty × Ty))
with_first S T o = elim o [ None ↦ None | Some es ↦ Some ((S, T) ∷ es) ]

paired_there : (r : List TypeEntry) (Ss Ts : Tys) (ps : List (Ty × Ty)) → paired Ss Ts ≡ Some ps → inst_tys r Ss ≡ inst_tys r Ts → Unifies r ps
paired_there r NoTys NoTys ps e h = let is : [] ≡ ps = cc in subst (Unifies r) is tt
paired_there r NoTys (MoreTys T Ts) ps e h = absurd (cc)
paired_there r (MoreTys S Ss) NoTys ps e h = absurd (cc)
paired_there r (MoreTys S Ss) (MoreTys T Ts) ps e h =
    let t : inst_tys r Ss ≡ inst_tys r Ts = cc in
    at (λ es w. paired_there r Ss Ts es w t) (paired Ss Ts) refl e where
      at : ((es : List (Ty × Ty)) → paired Ss Ts ≡ Some es → Unifies r es) → (o : Option (List (Ty × Ty))) → paired Ss Ts ≡ o → with_first S T o ≡ Some ps → Unifies r ps
      at ih None w v = absurd (cc)
      at ih (Some es) w v = let is : (S, T) ∷ es ≡ ps = cc in let s : inst_ty r S ≡ inst_ty r T = cc in subst (Unifies r) is (s, ih es w)

paired_back : (r : List TypeEntry) (Ss Ts : Tys) (ps : List (Ty × Ty)) → paired Ss Ts ≡ Some ps → Unifies r ps → inst_tys r Ss ≡ inst_tys r Ts
paired_back r NoTys NoTys ps e u = refl
paired_back r NoTys (MoreTys T Ts) ps e u = absurd (cc)
paired_back r (MoreTys S Ss) NoTys ps e u = absurd (cc)
paired_back r (MoreTys S Ss) (MoreTys T Ts) ps e u = at (λ es w k. paired_back r Ss Ts es w k) (paired Ss Ts) refl e where
  at : ((es : List (Ty × Ty)) → paired Ss Ts ≡ Some es → Unifies r es → inst_tys r Ss ≡ inst_tys r Ts) → (o : Option (List (Ty × Ty))) → paired Ss Ts ≡ o → with_first S T o ≡ Some ps → inst_tys r (MoreTys S Ss) ≡ inst_tys r (MoreTys T Ts)
  at ih None w v = absurd (cc)
  at ih (Some es) w v =
      let is : ps ≡ (S, T) ∷ es = cc in
      let k : Unifies r ((S, T) ∷ es) = subst (Unifies r) is u in
      λ l. MoreTys (k.0 l) (ih es w k.1 l)

paired_none : (r : List TypeEntry) (Ss Ts : Tys) → paired Ss Ts ≡ None → inst_tys r Ss ≡ inst_tys r Ts → ⊥
paired_none r NoTys NoTys e h = cc
paired_none r NoTys (MoreTys T Ts) e h = cc
paired_none r (MoreTys S Ss) NoTys e h = cc
paired_none r (MoreTys S Ss) (MoreTys T Ts) e h =
    let t : inst_tys r Ss ≡ inst_tys r Ts = cc in
    at (λ w. paired_none r Ss Ts w t) (paired Ss Ts) refl e where
      at : (paired Ss Ts ≡ None → ⊥) → (o : Option (List (Ty × Ty))) → paired Ss Ts ≡ o → with_first S T o ≡ None → ⊥
      at ih None w v = ih w
      at ih (Some es) w v = cc

-- two types of one constructor
pub step_pairs : (F : Found) (w : List (Ty × Ty)) (c d : List ℕ) (Ss Ts : Tys) (ps : List (Ty × Ty)) → c ≡ d → paired Ss Ts ≡ Some ps → Leads (w ++ (TyCon c Ss, TyCon d Ts) ∷ []) F (w ++ reverse ps) F
step_pairs F w c d Ss Ts ps n e = record {
  there = λ r u a.
      let p = unifies_parts r w ((TyCon c Ss, TyCon d Ts) ∷ []) u in
      let h : TyCon c (inst_tys r Ss) ≡ TyCon d (inst_tys r Ts) = p.1.0 in
      let t : inst_tys r Ss ≡ inst_tys r Ts = cc in
      (unifies_both r w (reverse ps) p.0 (unifies_reversed r ps (paired_there r Ss Ts ps e t)), a);
  back = λ r u a.
      let p = unifies_parts r w (reverse ps) u in
      (unifies_last r w (TyCon c Ss, TyCon d Ts) p.0 (λ l. TyCon (n l) (paired_back r Ss Ts ps e (unifies_back r ps p.1) l)), a);
  meaning = λ q m. (q, m);
}

-- another number of arguments, or another constructor
pub step_unpaired : (F : Found) (w : List (Ty × Ty)) (c d : List ℕ) (Ss Ts : Tys) → paired Ss Ts ≡ None → HasNone (w ++ (TyCon c Ss, TyCon d Ts) ∷ []) F
step_unpaired F w c d Ss Ts e = step_clash F w (TyCon c Ss) (TyCon d Ts) (λ r h. let t : inst_tys r Ss ≡ inst_tys r Ts = cc in paired_none r Ss Ts e t)

pub step_constructors : (F : Found) (w : List (Ty × Ty)) (c d : List ℕ) (Ss Ts : Tys) → name_eq c d ≡ false → HasNone (w ++ (TyCon c Ss, TyCon d Ts) ∷ []) F
step_constructors F w c d Ss Ts e = step_clash F w (TyCon c Ss) (TyCon d Ts) (λ r h.
    let n : c ≡ d = cc in
    let s : name_eq c d ≡ true = subst (λ z. name_eq c z ≡ true) n (name_self c) in
    cc)

pub step_variables : (F : Found) (w : List (Ty × Ty)) (a b : List ℕ) → name_eq a b ≡ false → HasNone (w ++ (TyFixed a, TyFixed b) ∷ []) F
step_variables F w a b e = step_clash F w (TyFixed a) (TyFixed b) (λ r h.
    let n : a ≡ b = cc in
    let s : name_eq a b ≡ true = subst (λ z. name_eq a z ≡ true) n (name_self a) in
    cc)

pub step_apart : (F : Found) (w : List (Ty × Ty)) (a c : List ℕ) (Ss : Tys) → HasNone (w ++ (TyFixed a, TyCon c Ss) ∷ []) F
step_apart F w a c Ss = step_clash F w (TyFixed a) (TyCon c Ss) (λ r h. cc)

pub step_apart_right : (F : Found) (w : List (Ty × Ty)) (a c : List ℕ) (Ss : Tys) → HasNone (w ++ (TyCon c Ss, TyFixed a) ∷ []) F
step_apart_right F w a c Ss = step_clash F w (TyCon c Ss) (TyFixed a) (λ r h. cc)

-- 5. Steps one after another

pub leads_after : (es ds cs : List (Ty × Ty)) (F G H : Found) → Leads es F ds G → Leads ds G cs H → Leads es F cs H
leads_after es ds cs F G H s t = record {
  there = λ r u a. let k = s.there r u a in t.there r k.0 k.1;
  back = λ r u a. let k = t.back r u a in s.back r k.0 k.1;
  meaning = λ q m. let k = s.meaning q m in t.meaning k.0 k.1;
}

-- types that were followed to their ends
pub leads_followed : (F G : Found) (w : List (Ty × Ty)) (S T L R : Ty) → FindsSame F G → EqualUnder F L S → EqualUnder F R T → Leads (w ++ (S, T) ∷ []) F (w ++ (L, R) ∷ []) G
leads_followed F G w S T L R s l t = record {
  there = λ r u a. let p = unifies_parts r w ((S, T) ∷ []) u in (unifies_last r w (L, R) p.0 (l.equal r a ∙ (p.1.0 ∙ sym (t.equal r a))), s.there r a);
  back = λ r u a. let b = s.back r a in let p = unifies_parts r w ((L, R) ∷ []) u in (unifies_last r w (S, T) p.0 (sym (l.equal r b) ∙ (p.1.0 ∙ t.equal r b)), b);
  meaning = λ q m. (q, meaning_same F G q s m);
}

pub none_followed : (F G : Found) (w : List (Ty × Ty)) (S T L R : Ty) → FindsSame F G → EqualUnder F L S → EqualUnder F R T → HasNone (w ++ (L, R) ∷ []) G → HasNone (w ++ (S, T) ∷ []) F
none_followed F G w S T L R s l t h = record {
  none = λ q m r u a.
      let k = (leads_followed F G w S T L R s l t).there r u a in
      h.none q (meaning_same F G q s m) r k.0 k.1;
}

pub steps_followed : (F G H : Found) (w v : List (Ty × Ty)) (S T L R : Ty) (b : Bool) → FindsSame F G → EqualUnder F L S → EqualUnder F R T → Steps b (w ++ (L, R) ∷ []) G v H → Steps b (w ++ (S, T) ∷ []) F v H
steps_followed F G H w v S T L R true s l t h = leads_after (w ++ (S, T) ∷ []) (w ++ (L, R) ∷ []) v F G H (leads_followed F G w S T L R s l t) h
steps_followed F G H w v S T L R false s l t h = none_followed F G w S T L R s l t h

-- 6. From the first step to the last

meaning_nothing : IsMeaning nothing []
meaning_nothing = record { agrees = λ x i T e. absurd (cc); is_general = λ r a T. ap (inst_ty r) (inst_nothing T); leaves = λ x i o. refl }

pub leads_start : (es : List (Ty × Ty)) → Leads es nothing es nothing
leads_start es = record { there = λ r u a. (u, a); back = λ r u a. (u, a); meaning = λ q m. (q, m) }

-- no equation is left
pub solved_all : (es ds : List (Ty × Ty)) (F : Found) → Leads es nothing ds F → ds ≡ [] → IsUnifier es F
solved_all es ds F s e =
    let k = s.meaning [] meaning_nothing in
    record {
      unifier = k.0;
      is_most_general = record {
        unifies = (s.back k.0 (subst (Unifies k.0) (sym e) tt) k.1.agrees).0;
        general = λ r u T. k.1.is_general r (s.there r u (λ x i U h. absurd (cc))).1 T;
      };
      is_meaning = k.1;
    }

-- a step that fails
pub solved_none : (es ds : List (Ty × Ty)) (F : Found) → Leads es nothing ds F → HasNone ds F → (r : List TypeEntry) → Unifies r es → ⊥
solved_none es ds F s h r u =
    let k = s.meaning [] meaning_nothing in
    let p = s.there r u (λ x i U e. absurd (cc)) in
    h.none k.0 k.1 r p.0 p.1

-- 7. What the code does

pub binds_copied : (F G : Found) (x y : List ℕ) (i : ℕ) (S T : Ty) → y ≡ x → S ≡ T → Binds F y i S G → Binds F x i T G
binds_copied F G x y i S T e h b = subst (λ z. Binds F z i T G) e (subst (λ U. Binds F y i U G) h b)

-- what follows at the next link of a chain
pub next_equal : (F G : Found) (S T U : Ty) → FindsSame F G → EqualUnder F S U → found_at G S ≡ Some T → EqualUnder F T U
next_equal F G S T U s e h = equal_after F T S U (equal_there F G T S s (equal_found G S T h)) e

pub stands_on : (F : Found) (b : Bool) (x : List ℕ) (i : ℕ) (S T : Ty) → found_at F S ≡ Some T → TellsStanding F x i T b → TellsStanding F x i S b
stands_on F b x i S T e h = record { tells = λ q m. h.tells q m ∙ ap (ty_has x i) ((equal_found F S T e).equal q m.agrees) }

pub stands_end : (F : Found) (b : Bool) (x : List ℕ) (i : ℕ) (T : Ty) (y : List ℕ) (j : ℕ) → found_at F T ≡ None → T ≡ TyUnknown y j → b ≡ (name_eq y x && nat_eq j i) → TellsStanding F x i T b
stands_end F b x i T y j o t e =
    let open_one : F y j ≡ None = subst (λ U. found_at F U ≡ None) t o in
    subst (λ U. TellsStanding F x i U b) (sym t) (record { tells = λ q m. e ∙ ap (ty_has x i) (sym (m.leaves y j open_one)) })

pub stands_nowhere : (F : Found) (x : List ℕ) (i : ℕ) (T : Ty) (a : List ℕ) → T ≡ TyFixed a → TellsStanding F x i T false
stands_nowhere F x i T a t = subst (λ U. TellsStanding F x i U false) (sym t) (record { tells = λ q m. refl })

pub stands_within : (F : Found) (x : List ℕ) (i : ℕ) (T : Ty) (c : List ℕ) (Ts : Tys) (b : Bool) → T ≡ TyCon c Ts → TellStanding F x i Ts b → TellsStanding F x i T b
stands_within F x i T c Ts b t h = subst (λ U. TellsStanding F x i U b) (sym t) (record { tells = h.tell })

pub stand_end : (F : Found) (x : List ℕ) (i : ℕ) → TellStanding F x i NoTys false
stand_end F x i = record { tell = λ q m. refl }

pub stand_more : (F : Found) (x : List ℕ) (i : ℕ) (T : Ty) (Ts : Tys) (b c d : Bool) → TellsStanding F x i T b → TellStanding F x i Ts c → d ≡ (b || c) → TellStanding F x i (MoreTys T Ts) d
stand_more F x i T Ts b c d h k e = record { tell = λ q m. e ∙ (λ l. h.tells q m l || k.tell q m l) }

-- a variable against another type
pub meets_same : (F : Found) (S T : Ty) → ty_eq S T ≡ true → Meets true F S T F
meets_same F S T e = record { step = λ w. step_same F w S T ((ty_decides S T).0 e) }

eq_turned : (S T : Ty) → ty_eq S T ≡ false → ty_eq T S ≡ false
eq_turned S T e = at (ty_eq T S) refl where
  at : (v : Bool) → ty_eq T S ≡ v → v ≡ false
  at false w = refl
  at true w =
      let is : S ≡ T = sym ((ty_decides T S).0 w) in
      let back : ty_eq S T ≡ true = (ty_decides S T).1 is in
      absurd (cc)

pub meets_left : (F G : Found) (x : List ℕ) (i : ℕ) (T : Ty) (b : Bool) → F x i ≡ None → found_at F T ≡ None → ty_eq (TyUnknown x i) T ≡ false → Solves b F x i T G → Meets b F (TyUnknown x i) T G
meets_left F G x i T true o k d s = record { step = λ w. step_bound F G w x i T s.0 o s.1 }
meets_left F G x i T false o k d s = record { step = λ w. step_cyclic F w x i T k d s }

pub meets_right : (F G : Found) (x : List ℕ) (i : ℕ) (T : Ty) (b : Bool) → F x i ≡ None → found_at F T ≡ None → ty_eq (TyUnknown x i) T ≡ false → Solves b F x i T G → Meets b F T (TyUnknown x i) G
meets_right F G x i T true o k d s = record { step = λ w. step_bound_right F G w x i T s.0 o s.1 }
meets_right F G x i T false o k d s = record { step = λ w. step_cyclic_right F w x i T k d s }

pub pairs_more : (S T : Ty) (Ss Ts : Tys) (w v u : List (Ty × Ty)) → PairsBehind Ss Ts w v → u ≡ v ++ (S, T) ∷ [] → PairsBehind (MoreTys S Ss) (MoreTys T Ts) w u
pairs_more S T Ss Ts w v u p e = record {
  pairs = (S, T) ∷ p.pairs;
  are = ap (with_first S T) p.are;
  stack = e ∙ (ap (λ z. z ++ (S, T) ∷ []) p.stack ∙ (append_assoc w (reverse p.pairs) ((S, T) ∷ []) ∙ ap (λ z. w ++ z) (sym (reverse-append ((S, T) ∷ []) p.pairs))));
}

pub pairs_none : (S T : Ty) (Ss Ts : Tys) → paired Ss Ts ≡ None → paired (MoreTys S Ss) (MoreTys T Ts) ≡ None
pairs_none S T Ss Ts p = ap (with_first S T) p

pub pairs_end : (w : List (Ty × Ty)) → PairsBehind NoTys NoTys w w
pairs_end w = record { pairs = []; are = refl; stack = sym (append-nil w) }

pub step_arguments : (F : Found) (w v : List (Ty × Ty)) (c d : List ℕ) (Ss Ts : Tys) (b : Bool) → name_eq c d ≡ true → Pairs b Ss Ts w v → Steps b (w ++ (TyCon c Ss, TyCon d Ts) ∷ []) F v F
step_arguments F w v c d Ss Ts true n p = subst (λ z. Leads (w ++ (TyCon c Ss, TyCon d Ts) ∷ []) F z F) (sym p.stack) (step_pairs F w c d Ss Ts p.pairs (name_true c d n) p.are)
step_arguments F w v c d Ss Ts false n p = step_unpaired F w c d Ss Ts p

pub shortened_at : (F G : Found) (S N E : Ty) (x : List ℕ) (i : ℕ) → S ≡ TyUnknown x i → found_at F S ≡ Some N → found_at F N ≡ Some E → Binds F x i E G → FindsSame F G
shortened_at F G S N E x i s n e b = shortened F G x i N E (subst (λ z. found_at F z ≡ Some N) s n) e b

pub meets_same_right : (F : Found) (S T : Ty) → ty_eq T S ≡ true → Meets true F S T F
meets_same_right F S T e = record { step = λ w. step_same F w S T (sym ((ty_decides T S).0 e)) }

pub step_same_fixed : (F : Found) (w : List (Ty × Ty)) (a b : List ℕ) → a ≡ b → Leads (w ++ (TyFixed a, TyFixed b) ∷ []) F w F
step_same_fixed F w a b e = step_same F w (TyFixed a) (TyFixed b) (ap TyFixed e)

-- an end stays one
pub still_end : (F G : Found) (T : Ty) → FindsSame F G → found_at F T ≡ None → found_at G T ≡ None
still_end F G (TyUnknown x i) s e = s.unfound_back x i e
still_end F G (TyCon c Ts) s e = refl
still_end F G (TyFixed a) s e = refl

pub meets_step : (b : Bool) (F G : Found) (S T : Ty) (w : List (Ty × Ty)) → Meets b F S T G → Steps b (w ++ (S, T) ∷ []) F w G
meets_step b F G S T w m = m.step w

pub leads_empty : (es : List (Ty × Ty)) (entries : List ((List ℕ × ℕ) × Ty)) → entries ≡ [] → Leads es nothing es (found_in entries)
leads_empty es entries e = subst (λ z. Leads es nothing es (found_in z)) (sym e) (leads_start es)

pub none_at : (F : Found) (w : List (Ty × Ty)) (L R S T : Ty) → L ≡ S → R ≡ T → HasNone (w ++ (S, T) ∷ []) F → HasNone (w ++ (L, R) ∷ []) F
none_at F w L R S T l r h = subst (λ Z. HasNone (w ++ (Z, R) ∷ []) F) (sym l) (subst (λ Z. HasNone (w ++ (S, Z) ∷ []) F) (sym r) h)
