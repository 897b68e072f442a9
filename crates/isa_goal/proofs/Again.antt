-- A state whose unknowns are renamed apart gets the same names.
use Rattle.std.proofs.Common.{◌≡◌, ℕ, ◌+◌, List, [], ◌∷◌, ◌++◌, map, Bool, true, false, ◌||◌, refl, sym, ap, ◌∙◌, subst}
use Rattle.std.proofs.lemmas.List.{map-append}
use Rattle.isa_terms.specs.Types.{Ty, Tys, TyCon, TyFixed, TyUnknown, NoTys, MoreTys}
use Rattle.isa_terms.specs.Terms.{Tm, Const, Free, Unknown, Bound, Abs, App}
use Rattle.isa_terms.specs.Equal.{ty_eq, tm_eq}
use Rattle.isa_terms.specs.Instance.{inst_ty, inst_tys, inst_tm}
use Rattle.isa_terms.specs.Unknowns.{unknown_places, all_unknown_places, ty_unknown_places, tys_unknown_places, type_unknown_places, all_type_unknown_places, unknowns_of, type_unknowns_of, all_noted, tys_noted}
use Rattle.isa_terms.specs.declared.inst.TypeEntry.{TypeEntry}
use Rattle.isa_terms.specs.declared.inst.TermEntry.{TermEntry}
use Rattle.isa_goal.specs.Goals.{Goals}
use Rattle.isa_goal.specs.Names.{numbered, next_number, next_type_number, free_names, fixed_names, names_noted, free_places, fixed_places, terms_of, type_naming, term_naming}
use Rattle.isa_goal.proofs.Unknowns.{IsTypeUnknown, IsUnknown, RenamesTypes}
use Rattle.isa_goal.proofs.Noting.{EachOf, each_split, each_join, each_both, each_map, holds, noted_each, noted_mapped, tys_noted_is, all_noted_is}
use Rattle.isa_goal.proofs.TypeNames.{TypesFrom, types_from, types_noted_are, types_noted_kinds, types_noted_once, ty_yes, ty_itself, type_kind}
use Rattle.isa_goal.proofs.TermNames.{TermsFrom, terms_from, typ_of, Retypes, retyped, all_term_places, types_of_terms, frees_renamed, fixeds_renamed, all_term_kinds, all_kinds_of_types, IsPlace, are_places, noted_kinds, noted_once, tm_yes, tm_itself, term_kind}

-- what holds of each of the items holds of one that is the same as one of them
pub holds_each : {A : Type 0} (same : A → A → Bool) (K P : A → Type 0) → ((a b : A) → K a → K b → same a b ≡ true → a ≡ b) → (xs : List A) (a : A) → EachOf K xs → EachOf P xs → K a → holds same xs a ≡ true → P a
holds_each same K P sure [] a ks h k e = absurd (cc)
holds_each same K P sure (b ∷ xs) a ks h k e = go (same b a) refl e (λ r. holds_each same K P sure xs a ks.1 h.1 k r)
  where
    go : (v : Bool) → same b a ≡ v → (v || holds same xs a) ≡ true → (holds same xs a ≡ true → P a) → P a
    go true s r q = subst (λ c. P c) (sure b a ks.0 k s) h.0
    go false s r q = q r

module _ (es fs' : List TypeEntry) (f : Ty → Ty) where
  -- both name the unknowns by the same numbers
  types_meet : (names : List (List ℕ)) (n : ℕ) (us : List Ty) → TypesFrom es names n us → TypesFrom fs' names n (map f us) → EachOf (λ u. inst_ty fs' (f u) ≡ inst_ty es u) us
  types_meet names n [] h k = tt
  types_meet names n (u ∷ us) h k = (k.0 ∙ sym h.0, types_meet names (next_type_number names n + 1) us h.1 k.1)

terms_meet : (es es' : List TypeEntry) (fs fs' : List TermEntry) (f : Tm → Tm) (names : List (List ℕ)) (n : ℕ) (us : List Tm) → TermsFrom es fs names n us → TermsFrom es' fs' names n (map f us) → EachOf (λ u. inst_ty es' (typ_of (f u)) ≡ inst_ty es (typ_of u)) us → EachOf (λ u. inst_tm es' fs' (f u) ≡ inst_tm es fs u) us
terms_meet es es' fs fs' f names n [] h k t = tt
terms_meet es es' fs fs' f names n (u ∷ us) h k t = (k.0 ∙ ap (Unknown (numbered (next_number names n)) 0) t.0 ∙ sym h.0, terms_meet es es' fs fs' f names (next_number names n + 1) us h.1 k.1 t.1)

-- the types of a term's unknowns are among its types
within_types : (A : Ty → Type 0) (t : Tm) → EachOf A (type_unknown_places t) → EachOf (λ u. EachOf A (ty_unknown_places (typ_of u))) (unknown_places t)
within_types A (Const x T) h = tt
within_types A (Free x T) h = tt
within_types A (Unknown x i T) h = (h, tt)
within_types A (Bound i) h = tt
within_types A (Abs x T b) h = within_types A b (each_split A (ty_unknown_places T) (type_unknown_places b) h).1
within_types A (App f a) h =
    let r = each_split A (type_unknown_places f) (type_unknown_places a) h in
    each_join (λ u. EachOf A (ty_unknown_places (typ_of u))) (unknown_places f) (unknown_places a) (within_types A f r.0) (within_types A a r.1)

all_within_types : (A : Ty → Type 0) (ts : List Tm) → EachOf A (all_type_unknown_places ts) → EachOf (λ u. EachOf A (ty_unknown_places (typ_of u))) (all_unknown_places ts)
all_within_types A [] h = tt
all_within_types A (t ∷ ts) h =
    let r = each_split A (type_unknown_places t) (all_type_unknown_places ts) h in
    each_join (λ u. EachOf A (ty_unknown_places (typ_of u))) (unknown_places t) (all_unknown_places ts) (within_types A t r.0) (all_within_types A ts r.1)

-- ---- one instance after another, which is a third on each place
module _ (e1 e2 e3 : List TypeEntry) where
  abbrev TypeMeets : Ty → Type 0
  TypeMeets T = inst_ty e2 (inst_ty e1 T) ≡ inst_ty e3 T

  mutual
    type_after : (T : Ty) → EachOf TypeMeets (ty_unknown_places T) → TypeMeets T
    type_after (TyCon x Ts) h = ap (TyCon x) (types_after Ts h)
    type_after (TyFixed x) h = refl
    type_after (TyUnknown x i) h = h.0

    types_after : (Ts : Tys) → EachOf TypeMeets (tys_unknown_places Ts) → inst_tys e2 (inst_tys e1 Ts) ≡ inst_tys e3 Ts
    types_after NoTys h = refl
    types_after (MoreTys T Ts) h = let r = each_split TypeMeets (ty_unknown_places T) (tys_unknown_places Ts) h in λ i. MoreTys (type_after T r.0 i) (types_after Ts r.1 i)

  module _ (f1 f2 f3 : List TermEntry) where
    abbrev pub TermMeets : Tm → Type 0
    TermMeets t = inst_tm e2 f2 (inst_tm e1 f1 t) ≡ inst_tm e3 f3 t

    term_after : (t : Tm) → EachOf TypeMeets (type_unknown_places t) → EachOf TermMeets (unknown_places t) → TermMeets t
    term_after (Const x T) h k = ap (Const x) (type_after T h)
    term_after (Free x T) h k = ap (Free x) (type_after T h)
    term_after (Unknown x i T) h k = k.0
    term_after (Bound i) h k = refl
    term_after (Abs x T b) h k =
        let r = each_split TypeMeets (ty_unknown_places T) (type_unknown_places b) h in
        λ i. Abs x (type_after T r.0 i) (term_after b r.1 k i)
    term_after (App f a) h k =
        let r = each_split TypeMeets (type_unknown_places f) (type_unknown_places a) h in
        let q = each_split TermMeets (unknown_places f) (unknown_places a) k in
        λ i. App (term_after f r.0 q.0 i) (term_after a r.1 q.1 i)

    terms_after : (ts : List Tm) → EachOf TypeMeets (all_type_unknown_places ts) → EachOf TermMeets (all_unknown_places ts) → EachOf TermMeets ts
    terms_after [] h k = tt
    terms_after (t ∷ ts) h k =
        let r = each_split TypeMeets (type_unknown_places t) (all_type_unknown_places ts) h in
        let q = each_split TermMeets (unknown_places t) (all_unknown_places ts) k in
        (term_after t r.0 q.0, terms_after ts r.1 q.1)

-- ---- a state, and the same with its unknowns renamed apart
module _ (s s' : Goals) (er : List TypeEntry) (fr : List TermEntry) (hr : RenamesTypes er) (rr : Retypes er fr)
    (subgoals_is : s'.subgoals ≡ map (inst_tm er fr) s.subgoals) (goal_is : s'.goal ≡ inst_tm er fr s.goal)
    (ty_apart : (S T : Ty) → IsTypeUnknown S → IsTypeUnknown T → holds ty_eq (type_unknowns_of (terms_of s)) S ≡ true → holds ty_eq (type_unknowns_of (terms_of s)) T ≡ true → inst_ty er S ≡ inst_ty er T → S ≡ T)
    (tm_apart : (t u : Tm) → IsUnknown t → IsUnknown u → holds tm_eq (unknowns_of (terms_of s)) t ≡ true → holds tm_eq (unknowns_of (terms_of s)) u ≡ true → inst_tm er fr t ≡ inst_tm er fr u → t ≡ u) where
  abbrev ts : List Tm
  ts = terms_of s

  abbrev es : List TypeEntry
  es = type_naming s

  abbrev fs : List TermEntry
  fs = term_naming s

  abbrev ps : List Ty
  ps = all_type_unknown_places ts

  abbrev qs : List Tm
  qs = all_unknown_places ts

  ty_kinds : EachOf IsTypeUnknown ps
  ty_kinds = all_kinds_of_types ts

  tm_kinds : EachOf IsUnknown qs
  tm_kinds = all_term_kinds ts

  terms_are : terms_of s' ≡ map (inst_tm er fr) ts
  terms_are = (λ i. subgoals_is i ++ goal_is i ∷ []) ∙ sym (map-append (inst_tm er fr) s.subgoals (s.goal ∷ []))

  type_order : type_unknowns_of (terms_of s') ≡ map (inst_ty er) (type_unknowns_of ts)
  type_order = ap type_unknowns_of terms_are ∙ ap (tys_noted []) (types_of_terms er fr hr rr ts)
      ∙ tys_noted_is [] (map (inst_ty er) ps)
      ∙ noted_mapped ty_eq IsTypeUnknown ty_yes ty_itself (inst_ty er) (λ T. IsTypeUnknown T × (holds ty_eq (type_unknowns_of ts) T ≡ true)) (λ T p. p.0) (λ T p. type_kind er hr T p.0) (λ S T p q e. ty_apart S T p.0 q.0 p.1 q.1 e) [] ps tt (each_both IsTypeUnknown (λ T. holds ty_eq (type_unknowns_of ts) T ≡ true) ps ty_kinds (types_noted_are ps ty_kinds))
      ∙ ap (map (inst_ty er)) (sym (tys_noted_is [] ps))

  term_order : unknowns_of (terms_of s') ≡ map (inst_tm er fr) (unknowns_of ts)
  term_order = ap unknowns_of terms_are ∙ ap (all_noted []) (all_term_places er fr hr rr ts)
      ∙ all_noted_is [] (map (inst_tm er fr) qs)
      ∙ noted_mapped tm_eq IsUnknown tm_yes tm_itself (inst_tm er fr) (IsPlace qs tm_kinds) (λ t p. p.0) (λ t p. term_kind er fr hr rr t p.0) (λ t u p q e. tm_apart t u p.0 q.0 p.1 q.1 e) [] qs tt (are_places qs tm_kinds)
      ∙ ap (map (inst_tm er fr)) (sym (all_noted_is [] qs))

  fixed_same : fixed_names s'.goal ≡ fixed_names s.goal
  fixed_same = ap (names_noted []) (ap fixed_places goal_is ∙ fixeds_renamed er fr hr rr s.goal)

  free_same : free_names s'.goal ≡ free_names s.goal
  free_same = ap (names_noted []) (ap free_places goal_is ∙ frees_renamed er fr hr rr s.goal)

  tys_from : TypesFrom es (fixed_names s.goal) 1 (type_unknowns_of ts)
  tys_from = types_from (fixed_names s.goal) 1 (type_unknowns_of ts) [] (types_noted_kinds ps ty_kinds) (types_noted_once ps ty_kinds)

  tms_from : TermsFrom es fs (free_names s.goal) 1 (unknowns_of ts)
  tms_from = terms_from es (free_names s.goal) 1 (unknowns_of ts) [] (noted_kinds qs tm_kinds) (noted_once qs tm_kinds)

  tys_from' : TypesFrom (type_naming s') (fixed_names s.goal) 1 (map (inst_ty er) (type_unknowns_of ts))
  tys_from' = subst (λ x. x) (λ i. TypesFrom (type_naming s') (fixed_same i) 1 (type_order i))
      (types_from (fixed_names s'.goal) 1 (type_unknowns_of (terms_of s')) [] (types_noted_kinds (all_type_unknown_places (terms_of s')) (all_kinds_of_types (terms_of s'))) (types_noted_once (all_type_unknown_places (terms_of s')) (all_kinds_of_types (terms_of s'))))

  tms_from' : TermsFrom (type_naming s') (term_naming s') (free_names s.goal) 1 (map (inst_tm er fr) (unknowns_of ts))
  tms_from' = subst (λ x. x) (λ i. TermsFrom (type_naming s') (term_naming s') (free_same i) 1 (term_order i))
      (terms_from (type_naming s') (free_names s'.goal) 1 (unknowns_of (terms_of s')) [] (noted_kinds (all_unknown_places (terms_of s')) (all_term_kinds (terms_of s'))) (noted_once (all_unknown_places (terms_of s')) (all_term_kinds (terms_of s'))))

  -- on each place
  on_types : EachOf (TypeMeets er (type_naming s') es) ps
  on_types =
      let m = types_meet es (type_naming s') (inst_ty er) (fixed_names s.goal) 1 (type_unknowns_of ts) tys_from tys_from' in
      each_map (λ T. IsTypeUnknown T × (holds ty_eq (type_unknowns_of ts) T ≡ true)) (TypeMeets er (type_naming s') es) ps
      (λ T p. holds_each ty_eq IsTypeUnknown (TypeMeets er (type_naming s') es) ty_yes (type_unknowns_of ts) T (types_noted_kinds ps ty_kinds) m p.0 p.1)
      (each_both IsTypeUnknown (λ T. holds ty_eq (type_unknowns_of ts) T ≡ true) ps ty_kinds (types_noted_are ps ty_kinds))

  on_terms : EachOf (TermMeets er (type_naming s') es fr (term_naming s') fs) qs
  on_terms =
      let within : EachOf (λ u. EachOf (TypeMeets er (type_naming s') es) (ty_unknown_places (typ_of u))) (unknowns_of ts) =
      subst (λ us. EachOf (λ u. EachOf (TypeMeets er (type_naming s') es) (ty_unknown_places (typ_of u))) us) (sym (all_noted_is [] qs)) (noted_each tm_eq (λ u. EachOf (TypeMeets er (type_naming s') es) (ty_unknown_places (typ_of u))) [] qs tt (all_within_types (TypeMeets er (type_naming s') es) ts on_types)) in
      let typed : EachOf (λ u. inst_ty (type_naming s') (typ_of (inst_tm er fr u)) ≡ inst_ty es (typ_of u)) (unknowns_of ts) =
      each_map (λ u. IsUnknown u × EachOf (TypeMeets er (type_naming s') es) (ty_unknown_places (typ_of u))) (λ u. inst_ty (type_naming s') (typ_of (inst_tm er fr u)) ≡ inst_ty es (typ_of u)) (unknowns_of ts)
      (λ u p. ap (inst_ty (type_naming s')) (retyped_of u p.0) ∙ type_after er (type_naming s') es (typ_of u) p.1)
      (each_both IsUnknown (λ u. EachOf (TypeMeets er (type_naming s') es) (ty_unknown_places (typ_of u))) (unknowns_of ts) (noted_kinds qs tm_kinds) within) in
      let m = terms_meet es (type_naming s') fs (term_naming s') (inst_tm er fr) (free_names s.goal) 1 (unknowns_of ts) tms_from tms_from' typed in
      each_map (IsPlace qs tm_kinds) (TermMeets er (type_naming s') es fr (term_naming s') fs) qs
      (λ t p. holds_each tm_eq IsUnknown (TermMeets er (type_naming s') es fr (term_naming s') fs) tm_yes (unknowns_of ts) t (noted_kinds qs tm_kinds) m p.0 p.1)
      (are_places qs tm_kinds)
    where
      retyped_of : (u : Tm) → IsUnknown u → typ_of (inst_tm er fr u) ≡ inst_ty er (typ_of u)
      retyped_of (Unknown x i T) k = (retyped er fr hr rr x i T).1
      retyped_of (Const x T) k = absurd k
      retyped_of (Free x T) k = absurd k
      retyped_of (Bound i) k = absurd k
      retyped_of (Abs x T b) k = absurd k
      retyped_of (App f a) k = absurd k

  -- on each term
  pub on_all : EachOf (TermMeets er (type_naming s') es fr (term_naming s') fs) ts
  on_all = terms_after er (type_naming s') es fr (term_naming s') fs ts on_types on_terms
