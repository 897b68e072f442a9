-- Matching of types finds what makes one type another, where that can be had.
use Rattle.std.proofs.Common.{◌≡◌, ℕ, List, [], ◌∷◌, Bool, true, false, ◌&&◌, nat_eq, refl, sym, ap, subst, ◌∙◌, cond, ◌⊎◌, inl, inr, Option, Some, None, is_some, unwrap_or}
use Rattle.isa_terms.specs.Types.{Ty, Tys, TyCon, TyFixed, TyUnknown, NoTys, MoreTys}
use Rattle.isa_terms.specs.Equal.{name_eq, ty_eq}
use Rattle.isa_terms.specs.Entries.{set_first}
use Rattle.isa_terms.specs.Instance.{Instance, find_type, inst_ty, inst_tys, set_type, same_type_unknown}
use Rattle.isa_terms.specs.declared.inst.TypeEntry.{TypeEntry}
use Rattle.isa_terms.proofs.Equal.{ty_decides}
use Rattle.isa_unify.specs.TypeUnification.{ty_has, tys_have}
use Rattle.isa_unify.specs.Matching.{ty_matched, tys_matched, ◌>>=◌}
use Rattle.isa_unify.proofs.Tests.{or_left, or_right, either_true, key_self, key_true, key_turned, some_same, value_of, name_self, name_true}

-- two tests of one name and number
pub skipped : {A : Type 0} (k l : Bool) (u v w : A) → (l ≡ true → k ≡ true) → cond k u w ≡ cond k u (cond l v w)
skipped true l u v w h = refl
skipped false true u v w h = absurd (let e = h refl in cc)
skipped false false u v w h = refl

pub swapped : {A : Type 0} (k l : Bool) (u v w : A) → (l ≡ true → k ≡ true → ⊥) → cond l v (cond k u w) ≡ cond k u (cond l v w)
swapped true true u v w h = absurd (h refl refl)
swapped true false u v w h = refl
swapped false true u v w h = refl
swapped false false u v w h = refl

pub find_set : (e : TypeEntry) (s : List TypeEntry) (x : List ℕ) (i : ℕ) → find_type x i (set_type e s) ≡ cond (name_eq x e.name && nat_eq i e.number) (Some e.typ) (find_type x i s)
find_set e [] x i = refl
find_set e (d ∷ s) x i = go (find_set e s x i) (same_type_unknown e d) refl
  where
    through : (name_eq e.name d.name && nat_eq e.number d.number) ≡ true → (name_eq x d.name && nat_eq i d.number) ≡ true → (name_eq x e.name && nat_eq i e.number) ≡ true
    through h k =
        let a = key_true e.name e.number d.name d.number h in
        subst (λ n. (name_eq x n && nat_eq i e.number) ≡ true) (sym a.0) (subst (λ m. (name_eq x d.name && nat_eq i m) ≡ true) (sym a.1) k)

    clashing : (name_eq e.name d.name && nat_eq e.number d.number) ≡ false → (name_eq x d.name && nat_eq i d.number) ≡ true → (name_eq x e.name && nat_eq i e.number) ≡ true → ⊥
    clashing h k l =
        let a = key_true x i d.name d.number k in
        let b = key_turned x i e.name e.number l in
        let c : (name_eq e.name d.name && nat_eq e.number d.number) ≡ true = subst (λ n. (name_eq e.name n && nat_eq e.number d.number) ≡ true) a.0 (subst (λ m. (name_eq e.name x && nat_eq e.number m) ≡ true) a.1 b) in
        cc

    go : find_type x i (set_type e s) ≡ cond (name_eq x e.name && nat_eq i e.number) (Some e.typ) (find_type x i s) → (c : Bool) → same_type_unknown e d ≡ c → find_type x i (cond c (e ∷ s) (d ∷ set_first (same_type_unknown e) e s)) ≡ cond (name_eq x e.name && nat_eq i e.number) (Some e.typ) (find_type x i (d ∷ s))
    go ih true h = skipped (name_eq x e.name && nat_eq i e.number) (name_eq x d.name && nat_eq i d.number) (Some e.typ) (Some d.typ) (find_type x i s) (through h)
    go ih false h =
        ap (λ o. cond (name_eq x d.name && nat_eq i d.number) (Some d.typ) o) ih
        ∙ swapped (name_eq x e.name && nat_eq i e.number) (name_eq x d.name && nat_eq i d.number) (Some e.typ) (Some d.typ) (find_type x i s) (clashing h)

-- what es says, fs says
pub record TypesWithin (es fs : List TypeEntry) : Type 0 where
  pub keeps : (x : List ℕ) (i : ℕ) (A : Ty) → find_type x i es ≡ Some A → find_type x i fs ≡ Some A

pub types_within_self : (es : List TypeEntry) → TypesWithin es es
types_within_self es = record { keeps = λ x i A h. h }

pub types_within_more : {es fs gs : List TypeEntry} → TypesWithin es fs → TypesWithin fs gs → TypesWithin es gs
types_within_more f g = record { keeps = λ x i A h. g.keeps x i A (f.keeps x i A h) }

-- whatever comes to es, A becomes B, and each type unknown of A has its type
pub record Fit (es : List TypeEntry) (A B : Ty) : Type 0 where
  pub gives : (fs : List TypeEntry) → TypesWithin es fs → inst_ty fs A ≡ B
  pub covers : (x : List ℕ) (i : ℕ) → ty_has x i A ≡ true → is_some (find_type x i es) ≡ true

pub record FitAll (es : List TypeEntry) (As Bs : Tys) : Type 0 where
  pub gives : (fs : List TypeEntry) → TypesWithin es fs → inst_tys fs As ≡ Bs
  pub covers : (x : List ℕ) (i : ℕ) → tys_have x i As ≡ true → is_some (find_type x i es) ≡ true

pub covers_more : {es fs : List TypeEntry} → TypesWithin es fs → (x : List ℕ) (i : ℕ) → is_some (find_type x i es) ≡ true → is_some (find_type x i fs) ≡ true
covers_more {es} w x i h = let v = value_of (find_type x i es) h in ap is_some (w.keeps x i v.0 v.1)

pub fit_more : {es fs : List TypeEntry} {A B : Ty} → TypesWithin es fs → Fit es A B → Fit fs A B
fit_more w f = record {
  gives = λ gs v. f.gives gs (types_within_more w v);
  covers = λ x i h. covers_more w x i (f.covers x i h);
}

fit_all_more : {es fs : List TypeEntry} {A B : Tys} → TypesWithin es fs → FitAll es A B → FitAll fs A B
fit_all_more w f = record {
  gives = λ gs v. f.gives gs (types_within_more w v);
  covers = λ x i h. covers_more w x i (f.covers x i h);
}

-- what the matching of types finds
pub record TyFinds (s : Instance) (A B : Ty) (r : Instance) : Type 0 where
  pub within : TypesWithin s.types r.types
  pub terms : r.terms ≡ s.terms
  pub fit : Fit r.types A B
  pub only : (x : List ℕ) (i : ℕ) → is_some (find_type x i r.types) ≡ true → (is_some (find_type x i s.types) ≡ true) ⊎ (ty_has x i A ≡ true)

record TysFind (s : Instance) (As Bs : Tys) (r : Instance) : Type 0 where
  within : TypesWithin s.types r.types
  terms : r.terms ≡ s.terms
  fit : FitAll r.types As Bs
  only : (x : List ℕ) (i : ℕ) → is_some (find_type x i r.types) ≡ true → (is_some (find_type x i s.types) ≡ true) ⊎ (tys_have x i As ≡ true)

-- a type unknown that gets its type
abbrev pub with_type : Instance → List ℕ → ℕ → Ty → Instance
with_type s x i U = record s { types = set_type (record { name = x; number = i; typ = U }) s.types }

pub within_added : (es : List TypeEntry) (x : List ℕ) (i : ℕ) (U : Ty) → find_type x i es ≡ None → TypesWithin es (set_type (record { name = x; number = i; typ = U }) es)
within_added es x i U e = record { keeps = λ y j A h. find_set (record { name = x; number = i; typ = U }) es y j ∙ go y j A h (name_eq y x && nat_eq j i) refl }
  where
    go : (y : List ℕ) (j : ℕ) (A : Ty) → find_type y j es ≡ Some A → (c : Bool) → (name_eq y x && nat_eq j i) ≡ c → cond c (Some U) (find_type y j es) ≡ Some A
    go y j A h true k =
        let a = key_true y j x i k in
        let n : find_type y j es ≡ None = (λ l. find_type (a.0 l) (a.1 l) es) ∙ e in
        let c : None ≡ Some A = sym n ∙ h in
        absurd (cc)
    go y j A h false k = h

found_added : (es : List TypeEntry) (x : List ℕ) (i : ℕ) (U : Ty) (y : List ℕ) (j : ℕ) → (name_eq y x && nat_eq j i) ≡ true → find_type y j (set_type (record { name = x; number = i; typ = U }) es) ≡ Some U
found_added es x i U y j h = find_set (record { name = x; number = i; typ = U }) es y j ∙ ap (λ c. cond c (Some U) (find_type y j es)) h

only_added : (es : List TypeEntry) (x : List ℕ) (i : ℕ) (U : Ty) (y : List ℕ) (j : ℕ) → is_some (find_type y j (set_type (record { name = x; number = i; typ = U }) es)) ≡ true → (is_some (find_type y j es) ≡ true) ⊎ ((name_eq x y && nat_eq i j) ≡ true)
only_added es x i U y j h = go (name_eq y x && nat_eq j i) refl (sym (ap is_some (find_set (record { name = x; number = i; typ = U }) es y j)) ∙ h)
  where
    go : (c : Bool) → (name_eq y x && nat_eq j i) ≡ c → is_some (cond c (Some U) (find_type y j es)) ≡ true → (is_some (find_type y j es) ≡ true) ⊎ ((name_eq x y && nat_eq i j) ≡ true)
    go true k l = inr (key_turned y j x i k)
    go false k l = inl l

fit_found : (es : List TypeEntry) (x : List ℕ) (i : ℕ) (U : Ty) → find_type x i es ≡ Some U → Fit es (TyUnknown x i) U
fit_found es x i U e = record {
  gives = λ fs w. ap (λ o. unwrap_or o (TyUnknown x i)) (w.keeps x i U e);
  covers = λ y j h. let a = key_true x i y j h in ap is_some (sym (λ l. find_type (a.0 l) (a.1 l) es) ∙ e);
}

added_finds : (s : Instance) (x : List ℕ) (i : ℕ) (U : Ty) → find_type x i s.types ≡ None → TyFinds s (TyUnknown x i) U (with_type s x i U)
added_finds s x i U e = record {
  within = within_added s.types x i U e;
  terms = refl;
  fit = fit_found (with_type s x i U).types x i U (found_added s.types x i U x i (key_self x i));
  only = λ y j h. only_added s.types x i U y j h;
}

kept_finds : (s : Instance) (x : List ℕ) (i : ℕ) (U : Ty) → find_type x i s.types ≡ Some U → TyFinds s (TyUnknown x i) U s
kept_finds s x i U e = record {
  within = types_within_self s.types;
  terms = refl;
  fit = fit_found s.types x i U e;
  only = λ y j h. inl h;
}

unknown_finds : (s : Instance) (x : List ℕ) (i : ℕ) (U : Ty) (r : Instance) (o : Option Ty) → find_type x i s.types ≡ o → elim o [ None ↦ Some (with_type s x i U) | Some V ↦ cond (ty_eq V U) (Some s) None ] ≡ Some r → TyFinds s (TyUnknown x i) U r
unknown_finds s x i U r None e h = subst (TyFinds s (TyUnknown x i) U) (some_same h) (added_finds s x i U e)
unknown_finds s x i U r (Some V) e h = go (ty_eq V U) refl h
  where
    go : (c : Bool) → ty_eq V U ≡ c → cond c (Some s) None ≡ Some r → TyFinds s (TyUnknown x i) U r
    go true d k = subst (TyFinds s (TyUnknown x i) U) (some_same k) (kept_finds s x i U (e ∙ ap Some ((ty_decides V U).0 d)))
    go false d k = absurd (cc)

fixed_finds : (s : Instance) (a b : List ℕ) (r : Instance) (c : Bool) → name_eq a b ≡ c → cond c (Some s) None ≡ Some r → TyFinds s (TyFixed a) (TyFixed b) r
fixed_finds s a b r true e h = subst (TyFinds s (TyFixed a) (TyFixed b)) (some_same h) (record {
  within = types_within_self s.types;
  terms = refl;
  fit = record { gives = λ fs w. ap TyFixed (name_true a b e); covers = λ x i k. absurd (cc) };
  only = λ x i k. inl k;
})
fixed_finds s a b r false e h = absurd (cc)

con_finds : (s : Instance) (c d : List ℕ) (As Bs : Tys) (r : Instance) (b : Bool) → name_eq c d ≡ b → cond b (tys_matched s As Bs) None ≡ Some r → ((q : Instance) → tys_matched s As Bs ≡ Some q → TysFind s As Bs q) → TyFinds s (TyCon c As) (TyCon d Bs) r
con_finds s c d As Bs r true e h ih =
    let f = ih r h in
    record {
      within = f.within;
      terms = f.terms;
      fit = record { gives = λ fs w. λ l. TyCon (name_true c d e l) (f.fit.gives fs w l); covers = f.fit.covers };
      only = f.only;
    }
con_finds s c d As Bs r false e h ih = absurd (cc)

nothing_finds : (s : Instance) → TysFind s NoTys NoTys s
nothing_finds s = record {
  within = types_within_self s.types;
  terms = refl;
  fit = record { gives = λ fs w. refl; covers = λ x i h. absurd (cc) };
  only = λ x i h. inl h;
}

more_finds : (s : Instance) (A B : Ty) (As Bs : Tys) (q r : Instance) → TyFinds s A B q → TysFind q As Bs r → TysFind s (MoreTys A As) (MoreTys B Bs) r
more_finds s A B As Bs q r f g = record {
  within = types_within_more f.within g.within;
  terms = g.terms ∙ f.terms;
  fit = record {
    gives = λ fs w. λ l. MoreTys (f.fit.gives fs (types_within_more g.within w) l) (g.fit.gives fs w l);
    covers = λ x i h. both x i (either_true (ty_has x i A) (tys_have x i As) h);
  };
  only = λ x i h. go x i (g.only x i h);
}
  where
    both : (x : List ℕ) (i : ℕ) → (ty_has x i A ≡ true) ⊎ (tys_have x i As ≡ true) → is_some (find_type x i r.types) ≡ true
    both x i (inl h) = covers_more g.within x i (f.fit.covers x i h)
    both x i (inr h) = g.fit.covers x i h

    from_first : (x : List ℕ) (i : ℕ) → (is_some (find_type x i s.types) ≡ true) ⊎ (ty_has x i A ≡ true) → (is_some (find_type x i s.types) ≡ true) ⊎ (tys_have x i (MoreTys A As) ≡ true)
    from_first x i (inl h) = inl h
    from_first x i (inr h) = inr (or_left (ty_has x i A) (tys_have x i As) h)

    go : (x : List ℕ) (i : ℕ) → (is_some (find_type x i q.types) ≡ true) ⊎ (tys_have x i As ≡ true) → (is_some (find_type x i s.types) ≡ true) ⊎ (tys_have x i (MoreTys A As) ≡ true)
    go x i (inl h) = from_first x i (f.only x i h)
    go x i (inr h) = inr (or_right (ty_has x i A) (tys_have x i As) h)

more_case : (s : Instance) (A B : Ty) (As Bs : Tys) (r : Instance) (o : Option Instance) → ((q : Instance) → o ≡ Some q → TyFinds s A B q) → ((q : Instance) → tys_matched q As Bs ≡ Some r → TysFind q As Bs r) → (o >>= λ q. tys_matched q As Bs) ≡ Some r → TysFind s (MoreTys A As) (MoreTys B Bs) r
more_case s A B As Bs r None first second h = absurd (cc)
more_case s A B As Bs r (Some q) first second h = more_finds s A B As Bs q r (first q refl) (second q h)

mutual
  pub ty_finds : (A B : Ty) (s r : Instance) → ty_matched s A B ≡ Some r → TyFinds s A B r
  ty_finds (TyUnknown x i) B s r h = unknown_finds s x i B r (find_type x i s.types) refl h
  ty_finds (TyFixed a) (TyFixed b) s r h = fixed_finds s a b r (name_eq a b) refl h
  ty_finds (TyCon c As) (TyCon d Bs) s r h = con_finds s c d As Bs r (name_eq c d) refl h (λ q. tys_find As Bs s q)
  ty_finds (TyFixed a) (TyCon d Bs) s r h = absurd (cc)
  ty_finds (TyFixed a) (TyUnknown y j) s r h = absurd (cc)
  ty_finds (TyCon c As) (TyFixed b) s r h = absurd (cc)
  ty_finds (TyCon c As) (TyUnknown y j) s r h = absurd (cc)

  tys_find : (As Bs : Tys) (s r : Instance) → tys_matched s As Bs ≡ Some r → TysFind s As Bs r
  tys_find NoTys NoTys s r h = subst (TysFind s NoTys NoTys) (some_same h) (nothing_finds s)
  tys_find (MoreTys A As) (MoreTys B Bs) s r h = more_case s A B As Bs r (ty_matched s A B) (λ q. ty_finds A B s q) (λ q. tys_find As Bs q r) h
  tys_find NoTys (MoreTys B Bs) s r h = absurd (cc)
  tys_find (MoreTys A As) NoTys s r h = absurd (cc)

-- ---- where an instance makes one type the other, matching finds types within it
abbrev pub TyCompletes : Instance → Ty → Ty → List TypeEntry → Type 0
TyCompletes s A B fs = (q : Instance) × (ty_matched s A B ≡ Some q) × TypesWithin q.types fs

abbrev TysComplete : Instance → Tys → Tys → List TypeEntry → Type 0
TysComplete s As Bs fs = (q : Instance) × (tys_matched s As Bs ≡ Some q) × TypesWithin q.types fs

added_within : (es fs : List TypeEntry) (x : List ℕ) (i : ℕ) (U : Ty) → TypesWithin es fs → find_type x i fs ≡ Some U → TypesWithin (set_type (record { name = x; number = i; typ = U }) es) fs
added_within es fs x i U w e = record { keeps = λ y j A h. go y j A (name_eq y x && nat_eq j i) refl (sym (find_set (record { name = x; number = i; typ = U }) es y j) ∙ h) }
  where
    go : (y : List ℕ) (j : ℕ) (A : Ty) (c : Bool) → (name_eq y x && nat_eq j i) ≡ c → cond c (Some U) (find_type y j es) ≡ Some A → find_type y j fs ≡ Some A
    go y j A true k h = let a = key_true y j x i k in (λ l. find_type (a.0 l) (a.1 l) fs) ∙ e ∙ h
    go y j A false k h = w.keeps y j A h

unknown_completes : (s : Instance) (fs : List TypeEntry) (x : List ℕ) (i : ℕ) (U : Ty) → TypesWithin s.types fs → find_type x i fs ≡ Some U → (o : Option Ty) → find_type x i s.types ≡ o → (q : Instance) × (elim o [ None ↦ Some (with_type s x i U) | Some V ↦ cond (ty_eq V U) (Some s) None ] ≡ Some q) × TypesWithin q.types fs
unknown_completes s fs x i U w e None d = (with_type s x i U, refl, added_within s.types fs x i U w e)
unknown_completes s fs x i U w e (Some V) d =
    let same : V ≡ U = some_same (sym (w.keeps x i V d) ∙ e) in
    (s, ap (λ c. cond c (Some s) None) ((ty_decides V U).1 same), w)

more_completes : (s : Instance) (fs : List TypeEntry) (A B : Ty) (As Bs : Tys) → TyCompletes s A B fs → ((q : Instance) → TypesWithin q.types fs → TysComplete q As Bs fs) → TysComplete s (MoreTys A As) (MoreTys B Bs) fs
more_completes s fs A B As Bs h k =
    let l = k h.0 h.2 in
    (l.0, ap (λ o. o >>= λ q. tys_matched q As Bs) h.1 ∙ l.1, l.2)

mutual
  complete : (A : Ty) (s : Instance) (fs : List TypeEntry) → TypesWithin s.types fs → ((x : List ℕ) (i : ℕ) → ty_has x i A ≡ true → is_some (find_type x i fs) ≡ true) → TyCompletes s A (inst_ty fs A) fs
  complete (TyUnknown x i) s fs w d =
      let v = value_of (find_type x i fs) (d x i (key_self x i)) in
      let e : inst_ty fs (TyUnknown x i) ≡ v.0 = ap (λ o. unwrap_or o (TyUnknown x i)) v.1 in
      unknown_completes s fs x i (inst_ty fs (TyUnknown x i)) w (v.1 ∙ ap Some (sym e)) (find_type x i s.types) refl
  complete (TyFixed a) s fs w d = (s, ap (λ c. cond c (Some s) None) (name_self a), w)
  complete (TyCon c As) s fs w d = let r = all_complete As s fs w d in (r.0, ap (λ b. cond b (tys_matched s As (inst_tys fs As)) None) (name_self c) ∙ r.1, r.2)

  all_complete : (As : Tys) (s : Instance) (fs : List TypeEntry) → TypesWithin s.types fs → ((x : List ℕ) (i : ℕ) → tys_have x i As ≡ true → is_some (find_type x i fs) ≡ true) → TysComplete s As (inst_tys fs As) fs
  all_complete NoTys s fs w d = (s, refl, w)
  all_complete (MoreTys A As) s fs w d =
      more_completes s fs A (inst_ty fs A) As (inst_tys fs As) (complete A s fs w (λ x i h. d x i (or_left (ty_has x i A) (tys_have x i As) h))) (λ q v. all_complete As q fs v (λ x i h. d x i (or_right (ty_has x i A) (tys_have x i As) h)))

pub ty_completes : (A B : Ty) (s : Instance) (fs : List TypeEntry) → TypesWithin s.types fs → ((x : List ℕ) (i : ℕ) → ty_has x i A ≡ true → is_some (find_type x i fs) ≡ true) → inst_ty fs A ≡ B → TyCompletes s A B fs
ty_completes A B s fs w d e = subst (λ U. TyCompletes s A U fs) e (complete A s fs w d)
