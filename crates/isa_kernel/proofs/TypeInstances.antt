-- Matching of types finds an instance exactly where there is one.
use Rattle.std.proofs.Common.{◌≡◌, ℕ, List, [], ◌∷◌, ◌++◌, Bool, true, false, cond, ◌&&◌, nat_eq, Option, Some, None, is_some, unwrap_or, refl, sym, ap, ◌∙◌, subst, option_and_then}
use Rattle.std.specs.Option.{option_or}
use Rattle.std.proofs.lemmas.Bool.Decides.{Decides-eqb}
use Rattle.std.specs.Cmp.Lexicographic.{bytes_decides}
use Rattle.isa_terms.specs.Types.{Ty, Tys, TyCon, TyFixed, TyUnknown, NoTys, MoreTys}
use Rattle.isa_terms.specs.Equal.{name_eq, ty_eq}
use Rattle.isa_terms.specs.Instance.{find_type, inst_ty, inst_tys}
use Rattle.isa_terms.specs.declared.inst.TypeEntry.{TypeEntry}
use Rattle.isa_terms.proofs.Equal.{ty_decides}
use Rattle.isa_terms.proofs.Functions.{cond_some, bind_some}
use Rattle.isa_kernel.specs.TypeInstances.{bound_to, matched, all_matched, is_instance}

abbrev pub entry : List ℕ → ℕ → Ty → TypeEntry
entry x i T = record { name = x; number = i; typ = T }

-- whether the entry is for that type unknown
abbrev pub is_for : List ℕ → ℕ → TypeEntry → Bool
is_for x i e = name_eq x e.name && nat_eq i e.number

pub find_append : (x : List ℕ) (i : ℕ) (es : List TypeEntry) (e : TypeEntry) → find_type x i (es ++ e ∷ []) ≡ option_or (find_type x i es) (cond (is_for x i e) (Some e.typ) None)
find_append x i [] e = refl
find_append x i (d ∷ es) e = ap (λ o. cond (is_for x i d) (Some d.typ) o) (find_append x i es e) ∙ pushed (is_for x i d)
  where
    pushed : (b : Bool) → cond b (Some d.typ) (option_or (find_type x i es) (cond (is_for x i e) (Some e.typ) None)) ≡ option_or (cond b (Some d.typ) (find_type x i es)) (cond (is_for x i e) (Some e.typ) None)
    pushed true = refl
    pushed false = refl

name_same : (x : List ℕ) → name_eq x x ≡ true
name_same x = (bytes_decides x x).1 refl

for_itself : (x : List ℕ) (i : ℕ) (T : Ty) → is_for x i (entry x i T) ≡ true
for_itself x i T = λ k. name_same x k && (Decides-eqb i i).1 refl k

both_true : (a b : Bool) → (a && b) ≡ true → (a ≡ true) × (b ≡ true)
both_true true b e = (refl, e)
both_true false b e = cc

for_is : (x y : List ℕ) (i j : ℕ) (T : Ty) → is_for y j (entry x i T) ≡ true → (y ≡ x) × (j ≡ i)
for_is x y i j T e = let p = both_true (name_eq y x) (nat_eq j i) e in ((bytes_decides y x).0 p.0, (Decides-eqb j i).0 p.1)

-- ---- what is found stays
abbrev pub Extends : List TypeEntry → List TypeEntry → Type 0
Extends es fs = (x : List ℕ) (i : ℕ) (U : Ty) → find_type x i es ≡ Some U → find_type x i fs ≡ Some U

or_first : {A : Type 0} (o p : Option A) {U : A} → o ≡ Some U → option_or o p ≡ Some U
or_first None p e = cc
or_first (Some V) p e = e

or_second : {A : Type 0} (o p : Option A) → o ≡ None → option_or o p ≡ p
or_second None p e = refl
or_second (Some V) p e = cc

append_extends : (es : List TypeEntry) (e : TypeEntry) → Extends es (es ++ e ∷ [])
append_extends es e x i U h = find_append x i es e ∙ or_first (find_type x i es) (cond (is_for x i e) (Some e.typ) None) h

found_last : (x : List ℕ) (i : ℕ) (T : Ty) (es : List TypeEntry) → find_type x i es ≡ None → find_type x i (es ++ entry x i T ∷ []) ≡ Some T
found_last x i T es h = find_append x i es (entry x i T) ∙ or_second (find_type x i es) _ h ∙ ap (λ b. cond b (Some T) None) (for_itself x i T)

abbrev pub Found : Ty → Ty → List TypeEntry → List TypeEntry → Type 0
Found S T es fs = Extends es fs × ((gs : List TypeEntry) → Extends fs gs → inst_ty gs S ≡ T)

abbrev pub AllFound : Tys → Tys → List TypeEntry → List TypeEntry → Type 0
AllFound Ss Ts es fs = Extends es fs × ((gs : List TypeEntry) → Extends fs gs → inst_tys gs Ss ≡ Ts)

bound_found : (x : List ℕ) (i : ℕ) (T : Ty) (es fs : List TypeEntry) (o : Option Ty) → find_type x i es ≡ o → bound_to x i T es o ≡ Some fs → Found (TyUnknown x i) T es fs
bound_found x i T es fs None h e =
    let made : es ++ entry x i T ∷ [] ≡ fs = cc (e) in
    subst (λ more. Found (TyUnknown x i) T es more) made
    (append_extends es (entry x i T), λ gs g. ap (λ o. unwrap_or o (TyUnknown x i)) (g x i T (found_last x i T es h)))
bound_found x i T es fs (Some S) h e =
    let t = cond_some (ty_eq S T) (Some es) e in
    let same : S ≡ T = (ty_decides S T).0 t.0 in
    let made : es ≡ fs = cc (t.1) in
    subst (λ more. Found (TyUnknown x i) T es more) made
    (λ y j U k. k, λ gs g. ap (λ o. unwrap_or o (TyUnknown x i)) (g x i S h) ∙ same)

mutual
  pub matched_found : (S T : Ty) (es fs : List TypeEntry) → matched S T es ≡ Some fs → Found S T es fs
  matched_found (TyUnknown x i) T es fs e = bound_found x i T es fs (find_type x i es) refl e
  matched_found (TyFixed x) (TyFixed y) es fs e =
      let t = cond_some (name_eq x y) (Some es) e in
      let made : es ≡ fs = cc (t.1) in
      subst (λ more. Found (TyFixed x) (TyFixed y) es more) made (λ z j U k. k, λ gs g. ap TyFixed ((bytes_decides x y).0 t.0))
  matched_found (TyFixed x) (TyCon y Ts) es fs e = cc
  matched_found (TyFixed x) (TyUnknown y j) es fs e = cc
  matched_found (TyCon x Ss) (TyCon y Ts) es fs e =
      let t = cond_some (name_eq x y) (all_matched Ss Ts es) e in
      let rest = all_found Ss Ts es fs t.1 in
      (rest.0, λ gs g i. TyCon ((bytes_decides x y).0 t.0 i) (rest.1 gs g i))
  matched_found (TyCon x Ss) (TyFixed y) es fs e = cc
  matched_found (TyCon x Ss) (TyUnknown y j) es fs e = cc

  pub all_found : (Ss Ts : Tys) (es fs : List TypeEntry) → all_matched Ss Ts es ≡ Some fs → AllFound Ss Ts es fs
  all_found NoTys NoTys es fs e =
      let made : es ≡ fs = cc (e) in
      subst (λ more. AllFound NoTys NoTys es more) made (λ z j U k. k, λ gs g. refl)
  all_found NoTys (MoreTys T Ts) es fs e = cc
  all_found (MoreTys S Ss) NoTys es fs e = cc
  all_found (MoreTys S Ss) (MoreTys T Ts) es fs e =
      let b = bind_some (matched S T es) (λ more. all_matched Ss Ts more) e in
      let first = matched_found S T es b.0 b.1 in
      let rest = all_found Ss Ts b.0 fs b.2 in
      (λ z j U k. rest.0 z j U (first.0 z j U k), λ gs g i. MoreTys (first.1 gs (λ z j U k. g z j U (rest.0 z j U k)) i) (rest.1 gs g i))

-- ---- where there is an instance, it is found
abbrev pub Agrees : List TypeEntry → List TypeEntry → Type 0
Agrees es gs = (x : List ℕ) (i : ℕ) (U : Ty) → find_type x i es ≡ Some U → inst_ty gs (TyUnknown x i) ≡ U

abbrev pub Finds : List TypeEntry → Option (List TypeEntry) → Type 0
Finds gs o = (fs : List TypeEntry) × (o ≡ Some fs) × Agrees fs gs

module _ (gs : List TypeEntry) where
  agrees_or : (x y : List ℕ) (i j : ℕ) (U : Ty) (o : Option Ty) (b : Bool) → (o ≡ Some U → inst_ty gs (TyUnknown y j) ≡ U) → is_for y j (entry x i (inst_ty gs (TyUnknown x i))) ≡ b → option_or o (cond b (Some (inst_ty gs (TyUnknown x i))) None) ≡ Some U → inst_ty gs (TyUnknown y j) ≡ U
  agrees_or x y i j U (Some V) b f h e = f e
  agrees_or x y i j U None true f h e =
      let p = for_is x y i j (inst_ty gs (TyUnknown x i)) h in
      let q : inst_ty gs (TyUnknown x i) ≡ U = cc (e) in
      (λ k. inst_ty gs (TyUnknown (p.0 k) (p.1 k))) ∙ q
  agrees_or x y i j U None false f h e = cc

  append_agrees : (es : List TypeEntry) (x : List ℕ) (i : ℕ) → Agrees es gs → Agrees (es ++ entry x i (inst_ty gs (TyUnknown x i)) ∷ []) gs
  append_agrees es x i a y j U h =
      let e = entry x i (inst_ty gs (TyUnknown x i)) in
      agrees_or x y i j U (find_type y j es) (is_for y j e) (a y j U) refl (sym (find_append y j es e) ∙ h)

  bound_finds : (x : List ℕ) (i : ℕ) (es : List TypeEntry) (o : Option Ty) → find_type x i es ≡ o → Agrees es gs → Finds gs (bound_to x i (inst_ty gs (TyUnknown x i)) es o)
  bound_finds x i es None h a = (es ++ entry x i (inst_ty gs (TyUnknown x i)) ∷ [], refl, append_agrees es x i a)
  bound_finds x i es (Some S) h a = (es, ap (λ b. cond b (Some es) None) ((ty_decides S (inst_ty gs (TyUnknown x i))).1 (sym (a x i S h))), a)

  mutual
    pub matched_finds : (S : Ty) (es : List TypeEntry) → Agrees es gs → Finds gs (matched S (inst_ty gs S) es)
    matched_finds (TyUnknown x i) es a = bound_finds x i es (find_type x i es) refl a
    matched_finds (TyFixed x) es a = (es, ap (λ b. cond b (Some es) None) (name_same x), a)
    matched_finds (TyCon x Ss) es a =
        let rest = all_finds Ss es a in
        (rest.0, ap (λ b. cond b (all_matched Ss (inst_tys gs Ss) es) None) (name_same x) ∙ rest.1, rest.2)

    pub all_finds : (Ss : Tys) (es : List TypeEntry) → Agrees es gs → Finds gs (all_matched Ss (inst_tys gs Ss) es)
    all_finds NoTys es a = (es, refl, a)
    all_finds (MoreTys S Ss) es a =
        let first = matched_finds S es a in
        let rest = all_finds Ss first.0 first.2 in
        (rest.0, ap (λ o. option_and_then (λ more. all_matched Ss (inst_tys gs Ss) more) o) first.1 ∙ rest.1, rest.2)

some_is : {A : Type 0} (o : Option A) → is_some o ≡ true → (x : A) × (o ≡ Some x)
some_is None e = cc
some_is (Some x) e = (x, refl)

pub instance_found : (S T : Ty) → is_instance S T ≡ true → (gs : List TypeEntry) × (inst_ty gs S ≡ T)
instance_found S T e =
    let o = some_is (matched S T []) e in
    (o.0, (matched_found S T [] o.0 o.1).1 o.0 (λ x i U h. h))

pub found_instance : (S T : Ty) (gs : List TypeEntry) → inst_ty gs S ≡ T → is_instance S T ≡ true
found_instance S T gs e =
    let finds = matched_finds gs S [] (λ x i U h. cc (h)) in
    ap (is_instance S) (sym e) ∙ ap is_some finds.1
