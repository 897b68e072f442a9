-- A canonical state is its own canonical form; its unknowns have one type each, and the number 0.
use Rattle.std.proofs.Common.{◌≡◌, ℕ, List, [], ◌∷◌, ◌++◌, map, Bool, true, cond, ◌&&◌, nat_eq, inl, inr, refl, sym, ap, ◌∙◌, subst}
use Rattle.std.proofs.lemmas.List.{map-append}
use Rattle.isa_terms.specs.Types.{Ty, Tys, TyCon, TyFixed, TyUnknown, NoTys, MoreTys}
use Rattle.isa_terms.specs.Terms.{Tm, Const, Free, Unknown, Bound, Abs, App}
use Rattle.isa_terms.specs.Equal.{ty_eq, tm_eq}
use Rattle.isa_terms.specs.Norm.{norm}
use Rattle.isa_terms.specs.Normal.{IsNormal}
use Rattle.isa_terms.specs.Instance.{Instance, instance_of, inst_ty, inst_tm}
use Rattle.isa_terms.specs.Instances.{Each}
use Rattle.isa_terms.specs.Unknowns.{unknown_places, all_unknown_places, ty_unknown_places, tys_unknown_places, type_unknown_places, all_type_unknown_places, unknowns_of, type_unknowns_of, all_noted, tys_noted}
use Rattle.isa_terms.specs.declared.inst.TypeEntry.{TypeEntry}
use Rattle.isa_terms.specs.declared.inst.TermEntry.{TermEntry}
use Rattle.isa_terms.proofs.NormalForms.{norm_same}
use Rattle.isa_kernel.specs.Derivation.{Member}
use Rattle.isa_subgoal.specs.Shape.{is_in_form, shaped, moved}
use Rattle.isa_subgoal.proofs.Deriving.{ArePropositions, derived_propositions}
use Rattle.isa_subgoal.proofs.Shaping.{shaped_normal}
use Rattle.isa_goal.specs.Goals.{Goals, IsStanding}
use Rattle.isa_goal.specs.Follows.{instanced, IsNormalState}
use Rattle.isa_goal.specs.Names.{type_entries, entries, free_names, fixed_names, names_noted, free_places, fixed_places, terms_of, type_naming, term_naming, naming, renamed, normalised, reshaped, canon}
use Rattle.isa_goal.specs.Private.Numbers.{StayTypes, StayTerms, NumbersFit}
use Rattle.isa_goal.specs.Canonical.{is_unnumbered_type, are_unnumbered_types, is_unnumbered, IsFormedState, IsUnnumberedState, HasOneType}
use Rattle.isa_goal.proofs.Chaining.{normalised_normal, canon_normal}
use Rattle.isa_goal.proofs.Forming.{naming_renames, normals_propositions, canon_formed}
use Rattle.isa_goal.proofs.Unknowns.{IsTypeUnknown, IsUnknown, RenamesTypes, instance_renamed}
use Rattle.isa_goal.proofs.Noting.{EachOf, each_split, each_map, holds}
use Rattle.isa_goal.proofs.TypeNames.{TypesFrom, TypesFit, types_fit, types_from, type_number, types_apart, named_stay, sets_types_stay, types_noted_are, types_noted_kinds, types_noted_once, named_types_noted}
use Rattle.isa_goal.proofs.TermNames.{TermsFrom, TermsFit, terms_fit, terms_from, term_number, terms_apart, name_of, typ_of, Retypes, entries_retype, sets_retype, named_terms_stay, sets_stay, term_stays, all_term_places, types_of_terms, frees_renamed, fixeds_renamed, all_term_kinds, all_kinds_of_types, IsPlace, are_places, noted_kinds, noted_once, named_noted}

-- the terms stay under an instance that gives each unknown itself
pub instance_stays : (n : Instance) (t : Tm) → StayTypes n.types → StayTerms n.terms → IsNormal t → instance_of n t ≡ t
instance_stays n t st sf k = ap norm (term_stays n.types n.terms st sf t) ∙ norm_same t k

instances_stay : (n : Instance) (ts : List Tm) → StayTypes n.types → StayTerms n.terms → Each IsNormal ts → map (instance_of n) ts ≡ ts
instances_stay n [] st sf k = refl
instances_stay n (t ∷ ts) st sf k = λ i. instance_stays n t st sf k.0 i ∷ instances_stay n ts st sf k.1 i

pub state_stays : (n : Instance) (s : Goals) → StayTypes n.types → StayTerms n.terms → IsNormalState s → instanced n s ≡ s
state_stays n s st sf k = λ i. record { subgoals = instances_stay n s.subgoals st sf k.subgoals i; goal = instance_stays n s.goal st sf k.goal i; base = s.base }

each_mapped : {A : Type 0} (P : A → Type 0) (f : A → A) (xs : List A) → EachOf (λ a. P (f a)) xs → EachOf P (map f xs)
each_mapped P f [] h = tt
each_mapped P f (a ∷ xs) h = (h.0, each_mapped P f xs h.1)

-- what is among the images of the items is the image of one
image_of : (P : Tm → Type 0) (f : Tm → Tm) (us : List Tm) (t : Tm) → EachOf P us → Member t (map f us) → (u : Tm) × P u × (f u ≡ t)
image_of P f [] t h m = absurd m
image_of P f (u ∷ us) t h (inl e) = (u, h.0, sym e)
image_of P f (u ∷ us) t h (inr m) = image_of P f us t h.1 m

-- ---- numbers that are 0 at each place
zero_is : (i : ℕ) → i ≡ 0 → nat_eq i 0 ≡ true
zero_is i e = ap (λ k. nat_eq k 0) e

mutual
  type_unnumbered : (T : Ty) → EachOf (λ U. is_unnumbered_type U ≡ true) (ty_unknown_places T) → is_unnumbered_type T ≡ true
  type_unnumbered (TyCon x Ts) h = types_unnumbered Ts h
  type_unnumbered (TyFixed x) h = refl
  type_unnumbered (TyUnknown x i) h = h.0

  types_unnumbered : (Ts : Tys) → EachOf (λ U. is_unnumbered_type U ≡ true) (tys_unknown_places Ts) → are_unnumbered_types Ts ≡ true
  types_unnumbered NoTys h = refl
  types_unnumbered (MoreTys T Ts) h =
      let r = each_split (λ U. is_unnumbered_type U ≡ true) (ty_unknown_places T) (tys_unknown_places Ts) h in
      λ i. type_unnumbered T r.0 i && types_unnumbered Ts r.1 i

-- an unknown of number 0
abbrev IsZero : Tm → Type 0
IsZero (Unknown x i T) = nat_eq i 0 ≡ true
IsZero _ = Unit {0}

term_unnumbered : (t : Tm) → EachOf IsZero (unknown_places t) → EachOf (λ U. is_unnumbered_type U ≡ true) (type_unknown_places t) → is_unnumbered t ≡ true
term_unnumbered (Const x T) h k = type_unnumbered T k
term_unnumbered (Free x T) h k = type_unnumbered T k
term_unnumbered (Unknown x i T) h k = λ j. h.0 j && type_unnumbered T k j
term_unnumbered (Bound i) h k = refl
term_unnumbered (Abs x T b) h k =
    let r = each_split (λ U. is_unnumbered_type U ≡ true) (ty_unknown_places T) (type_unknown_places b) k in
    λ i. type_unnumbered T r.0 i && term_unnumbered b h r.1 i
term_unnumbered (App f a) h k =
    let q = each_split IsZero (unknown_places f) (unknown_places a) h in
    let r = each_split (λ U. is_unnumbered_type U ≡ true) (type_unknown_places f) (type_unknown_places a) k in
    λ i. term_unnumbered f q.0 r.0 i && term_unnumbered a q.1 r.1 i

terms_unnumbered : (ts : List Tm) → EachOf IsZero (all_unknown_places ts) → EachOf (λ U. is_unnumbered_type U ≡ true) (all_type_unknown_places ts) → EachOf (λ t. is_unnumbered t ≡ true) ts
terms_unnumbered [] h k = tt
terms_unnumbered (t ∷ ts) h k =
    let q = each_split IsZero (unknown_places t) (all_unknown_places ts) h in
    let r = each_split (λ U. is_unnumbered_type U ≡ true) (type_unknown_places t) (all_type_unknown_places ts) k in
    (term_unnumbered t q.0 r.0, terms_unnumbered ts q.1 r.1)

-- ---- a normal state, and then named
module _ (s : Goals) (n : IsNormalState s) (l : NumbersFit s) where
  abbrev ts : List Tm
  ts = terms_of s

  abbrev es : List TypeEntry
  es = type_naming s

  abbrev fs : List TermEntry
  fs = term_naming s

  abbrev ps : List Ty
  ps = all_type_unknown_places ts

  abbrev qs : List Tm
  qs = all_unknown_places ts

  hs : RenamesTypes es
  hs = (naming_renames s).0

  retypes : Retypes es fs
  retypes = sets_retype es (entries es (free_names s.goal) 1 (unknowns_of ts)) [] (entries_retype es (free_names s.goal) 1 (unknowns_of ts)) tt

  ty_kinds : EachOf IsTypeUnknown ps
  ty_kinds = all_kinds_of_types ts

  tm_kinds : EachOf IsUnknown qs
  tm_kinds = all_term_kinds ts

  tys_from : TypesFrom es (fixed_names s.goal) 1 (type_unknowns_of ts)
  tys_from = types_from (fixed_names s.goal) 1 (type_unknowns_of ts) [] (types_noted_kinds ps ty_kinds) (types_noted_once ps ty_kinds)

  tms_from : TermsFrom es fs (free_names s.goal) 1 (unknowns_of ts)
  tms_from = terms_from es (free_names s.goal) 1 (unknowns_of ts) [] (noted_kinds qs tm_kinds) (noted_once qs tm_kinds)

  tys_fit : TypesFit (fixed_names s.goal) 1 (type_unknowns_of ts)
  tys_fit = types_fit (fixed_names s.goal) 1 (type_unknowns_of ts) (types_noted_kinds ps ty_kinds) l.types

  tms_fit : TermsFit (free_names s.goal) 1 (unknowns_of ts)
  tms_fit = terms_fit (free_names s.goal) 1 (unknowns_of ts) (noted_kinds qs tm_kinds) l.terms

  -- no two get the same name
  pub types_told : (S T : Ty) → holds ty_eq (type_unknowns_of ts) S ≡ true → holds ty_eq (type_unknowns_of ts) T ≡ true → inst_ty es S ≡ inst_ty es T → S ≡ T
  types_told S T p q e = types_apart es (fixed_names s.goal) 1 (type_unknowns_of ts) S T tys_from tys_fit p q e

  pub terms_told : (t u : Tm) → IsUnknown t → IsUnknown u → holds tm_eq (unknowns_of ts) t ≡ true → holds tm_eq (unknowns_of ts) u ≡ true → inst_tm es fs t ≡ inst_tm es fs u → t ≡ u
  terms_told t u k l p q e = terms_apart es fs (free_names s.goal) 1 (unknowns_of ts) t u (noted_kinds qs tm_kinds) k l tms_from tms_fit p q (ap name_of e)

  -- what stands in the named state
  pub term_is : (t : Tm) → IsNormal t → instance_of (naming s) t ≡ inst_tm es fs t
  term_is t k = let r = naming_renames s in instance_renamed es fs r.0 r.1 t k

  subgoals_are : (us : List Tm) → Each IsNormal us → map (instance_of (naming s)) us ≡ map (inst_tm es fs) us
  subgoals_are [] k = refl
  subgoals_are (t ∷ us) k = λ i. term_is t k.0 i ∷ subgoals_are us k.1 i

  terms_are : terms_of (renamed s) ≡ map (inst_tm es fs) ts
  terms_are = (λ i. subgoals_are s.subgoals n.subgoals i ++ term_is s.goal n.goal i ∷ []) ∙ sym (map-append (inst_tm es fs) s.subgoals (s.goal ∷ []))

  -- its unknowns come in the same order
  type_order : type_unknowns_of (terms_of (renamed s)) ≡ map (inst_ty es) (type_unknowns_of ts)
  type_order = ap type_unknowns_of terms_are ∙ ap (tys_noted []) (types_of_terms es fs hs retypes ts) ∙ named_types_noted ps ty_kinds es (fixed_names s.goal) 1 hs tys_from tys_fit

  term_order : unknowns_of (terms_of (renamed s)) ≡ map (inst_tm es fs) (unknowns_of ts)
  term_order = ap unknowns_of terms_are ∙ ap (all_noted []) (all_term_places es fs hs retypes ts) ∙ named_noted qs tm_kinds es fs (free_names s.goal) 1 hs retypes tms_from tms_fit

  -- and the goal has the same names
  fixed_same : fixed_names (renamed s).goal ≡ fixed_names s.goal
  fixed_same = ap (names_noted []) (ap fixed_places (term_is s.goal n.goal) ∙ fixeds_renamed es fs hs retypes s.goal)

  free_same : free_names (renamed s).goal ≡ free_names s.goal
  free_same = ap (names_noted []) (ap free_places (term_is s.goal n.goal) ∙ frees_renamed es fs hs retypes s.goal)

  -- so naming it anew changes nothing
  pub types_stay : StayTypes (type_naming (renamed s))
  types_stay = sets_types_stay (type_entries (fixed_names (renamed s).goal) 1 (type_unknowns_of (terms_of (renamed s)))) []
      (subst (λ x. StayTypes x) (λ i. type_entries (sym fixed_same i) 1 (sym type_order i)) (named_stay es (fixed_names s.goal) 1 (type_unknowns_of ts) tys_from)) tt

  pub terms_stay : StayTerms (term_naming (renamed s))
  terms_stay = sets_stay (entries (type_naming (renamed s)) (free_names (renamed s).goal) 1 (unknowns_of (terms_of (renamed s)))) []
      (subst (λ x. StayTerms x) (λ i. entries (type_naming (renamed s)) (sym free_same i) 1 (sym term_order i)) (named_terms_stay es (type_naming (renamed s)) fs (free_names s.goal) 1 (unknowns_of ts) types_stay tms_from)) tt

  -- ---- its unknowns
  places_are : all_unknown_places (terms_of (renamed s)) ≡ map (inst_tm es fs) qs
  places_are = ap all_unknown_places terms_are ∙ all_term_places es fs hs retypes ts

  type_places_are : all_type_unknown_places (terms_of (renamed s)) ≡ map (inst_ty es) ps
  type_places_are = ap all_type_unknown_places terms_are ∙ types_of_terms es fs hs retypes ts

  -- each name and number stands with one type
  pub one_type : HasOneType (terms_of (renamed s))
  one_type = record { same = one }
    where
      one : (x : List ℕ) (i : ℕ) (S T : Ty) → Member (Unknown x i S) (all_unknown_places (terms_of (renamed s))) → Member (Unknown x i T) (all_unknown_places (terms_of (renamed s))) → S ≡ T
      one x i S T a b =
          let p = image_of (IsPlace qs tm_kinds) (inst_tm es fs) qs (Unknown x i S) (are_places qs tm_kinds) (subst (λ us. Member (Unknown x i S) us) places_are a) in
          let q = image_of (IsPlace qs tm_kinds) (inst_tm es fs) qs (Unknown x i T) (are_places qs tm_kinds) (subst (λ us. Member (Unknown x i T) us) places_are b) in
          let e : p.0 ≡ q.0 = terms_apart es fs (free_names s.goal) 1 (unknowns_of ts) p.0 q.0 (noted_kinds qs tm_kinds) p.1.0 q.1.0 tms_from tms_fit p.1.1 q.1.1 (ap name_of p.2 ∙ sym (ap name_of q.2)) in
          ap typ_of (sym p.2 ∙ ap (inst_tm es fs) e ∙ q.2)

  -- each has the number 0
  zeros : EachOf IsZero (all_unknown_places (terms_of (renamed s)))
  zeros = subst (λ us. EachOf IsZero us) (sym places_are) (each_mapped IsZero (inst_tm es fs) qs (each_map (IsPlace qs tm_kinds) (λ t. IsZero (inst_tm es fs t)) qs one (are_places qs tm_kinds)))
    where
      one : (t : Tm) → IsPlace qs tm_kinds t → IsZero (inst_tm es fs t)
      one t p = let k = term_number es fs (free_names s.goal) 1 (unknowns_of ts) t (noted_kinds qs tm_kinds) p.0 tms_from tms_fit p.1 in subst (λ u. IsZero u) (sym k.gives) refl

  type_zeros : EachOf (λ U. is_unnumbered_type U ≡ true) (all_type_unknown_places (terms_of (renamed s)))
  type_zeros = subst (λ us. EachOf (λ U. is_unnumbered_type U ≡ true) us) (sym type_places_are) (each_mapped (λ U. is_unnumbered_type U ≡ true) (inst_ty es) ps (each_map (λ T. holds ty_eq (type_unknowns_of ts) T ≡ true) (λ T. is_unnumbered_type (inst_ty es T) ≡ true) ps one (types_noted_are ps ty_kinds)))
    where
      one : (T : Ty) → holds ty_eq (type_unknowns_of ts) T ≡ true → is_unnumbered_type (inst_ty es T) ≡ true
      one T p = let k = type_number es (fixed_names s.goal) 1 (type_unknowns_of ts) T tys_from tys_fit p in ap is_unnumbered_type k.gives

  pub unnumbered : EachOf (λ t. is_unnumbered t ≡ true) (terms_of (renamed s))
  unnumbered = terms_unnumbered (terms_of (renamed s)) zeros type_zeros

-- ---- the canonical form
abbrev empty : Instance
empty = record { types = []; terms = [] }

shaped_normals : (ts : List Tm) → ArePropositions ts → Each IsNormal ts → Each IsNormal (map shaped ts)
shaped_normals [] w n = tt
shaped_normals (t ∷ ts) w n = (shaped_normal t w.0 n.0, shaped_normals ts w.1 n.1)

pub reshaped_normal : (s : Goals) → IsStanding s → IsNormalState (reshaped (normalised s))
reshaped_normal s d =
    let p = derived_propositions s.subgoals s.goal d.derivation in
    let n : IsNormalState (normalised s) = normalised_normal s (normalised s) d refl in
    record { subgoals = shaped_normals (map (instance_of empty) s.subgoals) (normals_propositions s.subgoals p.0) n.subgoals; goal = n.goal }

-- what a call answers that leaves out an instance which changes nothing
pub canon_kept : (s u : Goals) (n : Instance) → IsStanding s → u ≡ reshaped (normalised s) → n ≡ naming u → StayTypes n.types → StayTerms n.terms → u ≡ canon s
canon_kept s u n d e f st sf =
    let k : IsNormalState u = subst (λ x. IsNormalState x) (sym e) (reshaped_normal s d) in
    sym (state_stays n u st sf k) ∙ (λ i. instanced (f i) u) ∙ ap renamed e

pub forms_stay : (ts : List Tm) → Each (λ t. is_in_form t ≡ true) ts → map shaped ts ≡ ts
forms_stay [] h = refl
forms_stay (t ∷ ts) h = λ i. ap (λ b. cond b t (norm (moved t))) h.0 i ∷ forms_stay ts h.1 i

-- it is its own canonical form
pub canon_again : (s t : Goals) → IsStanding s → NumbersFit (reshaped (normalised s)) → t ≡ canon s → canon t ≡ t
canon_again s t d l e =
    let u : Goals = reshaped (normalised s) in
    let k : IsNormalState u = reshaped_normal s d in
    let c : Goals = canon s in
    let n : IsNormalState c = canon_normal s c d refl in
    let f : IsFormedState c = canon_formed s c d refl in
    let one : normalised c ≡ c = state_stays empty c tt tt n in
    let two : reshaped c ≡ c = λ i. record { subgoals = forms_stay c.subgoals f.subgoals i; goal = c.goal; base = c.base } in
    let three : renamed c ≡ c = state_stays (naming c) c (types_stay u k l) (terms_stay u k l) n in
    let all : canon c ≡ c = ap renamed (ap reshaped one ∙ two) ∙ three in
    subst (λ x. canon x ≡ x) (sym e) all

pub canon_one_type : (s t : Goals) → IsStanding s → NumbersFit (reshaped (normalised s)) → t ≡ canon s → HasOneType (terms_of t)
canon_one_type s t d l e = subst (λ x. HasOneType (terms_of x)) (sym e) (one_type (reshaped (normalised s)) (reshaped_normal s d) l)

each_front : (P : Tm → Type 0) (us : List Tm) (g : Tm) → EachOf P (us ++ g ∷ []) → Each P us × P g
each_front P [] g h = (tt, h.0)
each_front P (u ∷ us) g h = let r = each_front P us g h.1 in ((h.0, r.0), r.1)

pub canon_unnumbered : (s t : Goals) → IsStanding s → NumbersFit (reshaped (normalised s)) → t ≡ canon s → IsUnnumberedState t
canon_unnumbered s t d l e =
    let u : Goals = reshaped (normalised s) in
    let h = each_front (λ t. is_unnumbered t ≡ true) (canon s).subgoals (canon s).goal (unnumbered u (reshaped_normal s d) l) in
    subst (λ x. IsUnnumberedState x) (sym e) (record { subgoals = h.0; goal = h.1 })
