-- A subgoal alone, put back as it is, gives the same state.
use Rattle.std.proofs.Common.{◌≡◌, ℕ, zero, suc, ◌+◌, ◌-◌, ◌≤◌, arith, length, length-append, List, [], ◌∷◌, ◌++◌, map, take, drop, nat_eq, Bool, true, false, cond, Option, Some, None, refl, sym, ap, ◌∙◌, subst}
use Rattle.std.specs.Prelude.{option_map, Result, Ok, Err, IfOk}
use Rattle.std.specs.declared.alloc.AllocError.{AllocError}
use Rattle.std.proofs.lemmas.List.{map-append, length-take-le, length-drop}
use Rattle.isa_terms.specs.Types.{Ty}
use Rattle.isa_terms.specs.Terms.{Tm}
use Rattle.isa_terms.specs.Equal.{ty_eq, tm_eq}
use Rattle.isa_terms.specs.Norm.{norm}
use Rattle.isa_terms.specs.Normal.{IsNormal}
use Rattle.isa_terms.specs.Instance.{Instance, instance_of, inst_ty, inst_tm}
use Rattle.isa_terms.specs.Instances.{Each}
use Rattle.isa_terms.specs.Unknowns.{unknown_places, all_unknown_places, type_unknown_places, all_type_unknown_places, unknowns_of, type_unknowns_of}
use Rattle.isa_terms.specs.declared.inst.TypeEntry.{TypeEntry}
use Rattle.isa_terms.specs.declared.inst.TermEntry.{TermEntry}
use Rattle.isa_terms.proofs.Functions.{bind_some}
use Rattle.isa_kernel.specs.Logic.{imp}
use Rattle.isa_subgoal.specs.Premises.{implies, leading}
use Rattle.isa_subgoal.specs.Shape.{is_in_form}
use Rattle.isa_subgoal.proofs.Instancing.{instance_implies}
use Rattle.isa_goal.specs.Goals.{Goals, IsStanding, around, head_split}
use Rattle.isa_goal.specs.Canonical.{IsFormedState}
use Rattle.isa_goal.specs.Focus.{focused, put_back, unfocused}
use Rattle.isa_goal.specs.Follows.{instanced, IsNormalState}
use Rattle.isa_goal.specs.Names.{entries, free_names, terms_of, type_naming, term_naming, naming, renamed, normalised, reshaped, canon}
use Rattle.isa_goal.specs.Private.Numbers.{NumbersFit}
use Rattle.isa_goal.proofs.Unknowns.{IsTypeUnknown, IsUnknown, RenamesTypes, RenamesTerms, normal_renamed, form_renamed}
use Rattle.isa_goal.proofs.Forming.{naming_renames, canon_formed}
use Rattle.isa_goal.proofs.Chaining.{canon_normal}
use Rattle.isa_goal.proofs.Refining.{around_made}
use Rattle.isa_goal.proofs.Noting.{EachOf, each_split, each_join, each_map, holds, noted_each, all_noted_is, tys_noted_is}
use Rattle.isa_goal.proofs.TypeNames.{types_noted_are, types_noted_kinds, ty_yes}
use Rattle.isa_goal.proofs.TermNames.{Retypes, entries_retype, sets_retype, all_kinds_of_types, all_term_kinds, noted_are, noted_kinds, tm_yes}
use Rattle.isa_goal.proofs.Canon.{state_stays, forms_stay, term_is, types_told, terms_told}
use Rattle.isa_goal.proofs.Again.{holds_each, on_all, TermMeets}

abbrev empty : Instance
empty = record { types = []; terms = [] }

-- a normal state in the form is its own, but for names
pub form_kept : (s : Goals) → IsNormalState s → IsFormedState s → reshaped (normalised s) ≡ s
form_kept s n f = ap reshaped (state_stays empty s tt tt n) ∙ (λ i. record { subgoals = forms_stay s.subgoals f.subgoals i; goal = s.goal; base = s.base })

-- ---- the places of terms in another order
module _ {X : Type 0} (places : Tm → List X) (Q : X → Type 0) (of_implication : (p q : Tm) → EachOf Q (places (imp p q)) → EachOf Q (places p) × EachOf Q (places q)) where
  abbrev On : Tm → Type 0
  On t = EachOf Q (places t)

  on_implies : (ps : List Tm) (g : Tm) → On (implies ps g) → EachOf On ps × On g
  on_implies [] g h = (tt, h)
  on_implies (p ∷ ps) g h = let r = of_implication p (implies ps g) h in let q = on_implies ps g r.1 in ((r.0, q.0), q.1)

  reordered : (us vs : List Tm) (w g : Tm) → On w → On (implies (us ++ vs) g) → EachOf On ((us ++ (w ∷ vs)) ++ g ∷ [])
  reordered us vs w g h k =
      let r = on_implies (us ++ vs) g k in
      let q = each_split On us vs r.0 in
      each_join On (us ++ (w ∷ vs)) (g ∷ []) (each_join On us (w ∷ vs) q.0 (h, q.1)) (r.1, tt)

tms_split : (Q : Tm → Type 0) (ts : List Tm) → EachOf Q (all_unknown_places ts) → EachOf (λ t. EachOf Q (unknown_places t)) ts
tms_split Q [] h = tt
tms_split Q (t ∷ ts) h = let r = each_split Q (unknown_places t) (all_unknown_places ts) h in (r.0, tms_split Q ts r.1)

tms_join : (Q : Tm → Type 0) (ts : List Tm) → EachOf (λ t. EachOf Q (unknown_places t)) ts → EachOf Q (all_unknown_places ts)
tms_join Q [] h = tt
tms_join Q (t ∷ ts) h = each_join Q (unknown_places t) (all_unknown_places ts) h.0 (tms_join Q ts h.1)

tys_split : (Q : Ty → Type 0) (ts : List Tm) → EachOf Q (all_type_unknown_places ts) → EachOf (λ t. EachOf Q (type_unknown_places t)) ts
tys_split Q [] h = tt
tys_split Q (t ∷ ts) h = let r = each_split Q (type_unknown_places t) (all_type_unknown_places ts) h in (r.0, tys_split Q ts r.1)

tys_join : (Q : Ty → Type 0) (ts : List Tm) → EachOf (λ t. EachOf Q (type_unknown_places t)) ts → EachOf Q (all_type_unknown_places ts)
tys_join Q [] h = tt
tys_join Q (t ∷ ts) h = each_join Q (type_unknown_places t) (all_type_unknown_places ts) h.0 (tys_join Q ts h.1)

-- ---- lists
take_front : (xs ys : List Tm) → take (length xs) (xs ++ ys) ≡ xs
take_front [] ys = refl
take_front (x ∷ xs) ys = ap (λ zs. x ∷ zs) (take_front xs ys)

drop_front : (xs ys : List Tm) → drop (length xs) (xs ++ ys) ≡ ys
drop_front [] ys = refl
drop_front (x ∷ xs) ys = drop_front xs ys

map_count : (f : Tm → Tm) (ts : List Tm) → length (map f ts) ≡ length ts
map_count f [] = refl
map_count f (t ∷ ts) = ap suc (map_count f ts)

one_less : (us vs : List Tm) (w : Tm) → length (us ++ (w ∷ vs)) - 1 ≡ length (us ++ vs)
one_less us vs w = omega (arith, length-append us (w ∷ vs), length-append us vs)

leading_all : (ps : List Tm) (g : Tm) → leading (length ps) (implies ps g) ≡ (ps, g)
leading_all [] g = refl
leading_all (p ∷ ps) g = λ i. (p ∷ (leading_all ps g i).0, (leading_all ps g i).1)

-- as many stand before the i-th
around_length : (i : ℕ) (ts : List Tm) (at : List Tm × Tm × List Tm) → around i ts ≡ Some at → length at.0 ≡ i - 1
around_length i ts at e = go (nat_eq i 0) e
  where
    rest : (d : List Tm) → drop (i - 1) ts ≡ d → option_map (λ p. (take (i - 1) ts, p.0, p.1)) (head_split d) ≡ Some at → length at.0 ≡ i - 1
    rest [] h k = absurd (cc)
    rest (x ∷ xs) h k =
        let q : (take (i - 1) ts, x, xs) ≡ at = cc (k) in
        let l : length ts - (i - 1) ≡ suc (length xs) = sym (length-drop (i - 1) ts) ∙ ap length h in
        ap (λ (r : List Tm × Tm × List Tm). length r.0) (sym q) ∙ length-take-le (i - 1) ts (omega (arith, l))

    go : (b : Bool) → cond b None (option_map (λ p. (take (i - 1) ts, p.0, p.1)) (head_split (drop (i - 1) ts))) ≡ Some at → length at.0 ≡ i - 1
    go true k = absurd (cc)
    go false k = rest (drop (i - 1) ts) refl k

each_around : (P : Tm → Type 0) (us vs : List Tm) (w : Tm) → Each P (us ++ (w ∷ vs)) → Each P (us ++ vs) × P w
each_around P [] vs w h = (h.1, h.0)
each_around P (u ∷ us) vs w h = let r = each_around P us vs w h.1 in ((h.0, r.0), r.1)

implies_normal : (ps : List Tm) (g : Tm) → Each IsNormal ps → IsNormal g → IsNormal (implies ps g)
implies_normal [] g h k = k
implies_normal (p ∷ ps) g h k = (tt, ((tt, (tt, h.0)), implies_normal ps g h.1 k))

-- ---- a canonical state, and one of its subgoals alone
module _ (s : Goals) (n : IsNormalState s) (f : IsFormedState s) (us vs : List Tm) (w : Tm) (here : s.subgoals ≡ us ++ (w ∷ vs)) where
  abbrev a : Goals
  a = record { subgoals = w ∷ []; goal = implies (us ++ vs) s.goal; base = s.base }

  abbrev er : List TypeEntry
  er = type_naming a

  abbrev fr : List TermEntry
  fr = term_naming a

  parts : Each IsNormal (us ++ vs) × IsNormal w
  parts = each_around IsNormal us vs w (subst (λ ts. Each IsNormal ts) here n.subgoals)

  pub alone_normal : IsNormalState a
  alone_normal = record { subgoals = (parts.1, tt); goal = implies_normal (us ++ vs) s.goal parts.0 n.goal }

  pub alone_formed : IsFormedState a
  alone_formed = record { subgoals = ((each_around (λ t. is_in_form t ≡ true) us vs w (subst (λ ts. Each (λ t. is_in_form t ≡ true) ts) here f.subgoals)).1, tt) }

  hr : RenamesTypes er
  hr = (naming_renames a).0

  hf : RenamesTerms fr
  hf = (naming_renames a).1

  rr : Retypes er fr
  rr = sets_retype er (entries er (free_names a.goal) 1 (unknowns_of (terms_of a))) [] (entries_retype er (free_names a.goal) 1 (unknowns_of (terms_of a))) tt

  abbrev KnownType : Ty → Type 0
  KnownType T = holds ty_eq (type_unknowns_of (terms_of a)) T ≡ true

  abbrev KnownTerm : Tm → Type 0
  KnownTerm t = holds tm_eq (unknowns_of (terms_of a)) t ≡ true

  -- the unknowns of the state are those of the subgoal alone and its goal
  types_known : EachOf KnownType (type_unknowns_of (terms_of s))
  types_known =
      let h = tys_split KnownType (terms_of a) (types_noted_are (all_type_unknown_places (terms_of a)) (all_kinds_of_types (terms_of a))) in
      let k : EachOf KnownType (all_type_unknown_places ((us ++ (w ∷ vs)) ++ s.goal ∷ [])) = tys_join KnownType ((us ++ (w ∷ vs)) ++ s.goal ∷ []) (reordered type_unknown_places KnownType (λ p q e. each_split KnownType (type_unknown_places p) (type_unknown_places q) e) us vs w s.goal h.0 h.1.0) in
      let l : EachOf KnownType (all_type_unknown_places (terms_of s)) = subst (λ xs. EachOf KnownType (all_type_unknown_places (xs ++ s.goal ∷ []))) (sym here) k in
      subst (λ xs. EachOf KnownType xs) (sym (tys_noted_is [] (all_type_unknown_places (terms_of s)))) (noted_each ty_eq KnownType [] (all_type_unknown_places (terms_of s)) tt l)

  terms_known : EachOf KnownTerm (unknowns_of (terms_of s))
  terms_known =
      let h = tms_split KnownTerm (terms_of a) (noted_are (all_unknown_places (terms_of a)) (all_term_kinds (terms_of a))) in
      let k : EachOf KnownTerm (all_unknown_places ((us ++ (w ∷ vs)) ++ s.goal ∷ [])) = tms_join KnownTerm ((us ++ (w ∷ vs)) ++ s.goal ∷ []) (reordered unknown_places KnownTerm (λ p q e. each_split KnownTerm (unknown_places p) (unknown_places q) e) us vs w s.goal h.0 h.1.0) in
      let l : EachOf KnownTerm (all_unknown_places (terms_of s)) = subst (λ xs. EachOf KnownTerm (all_unknown_places (xs ++ s.goal ∷ []))) (sym here) k in
      subst (λ xs. EachOf KnownTerm xs) (sym (all_noted_is [] (all_unknown_places (terms_of s)))) (noted_each tm_eq KnownTerm [] (all_unknown_places (terms_of s)) tt l)

  module _ (l : NumbersFit a) where
    ty_known : (T : Ty) → IsTypeUnknown T → holds ty_eq (type_unknowns_of (terms_of s)) T ≡ true → KnownType T
    ty_known T k h = holds_each ty_eq IsTypeUnknown KnownType ty_yes (type_unknowns_of (terms_of s)) T (types_noted_kinds (all_type_unknown_places (terms_of s)) (all_kinds_of_types (terms_of s))) types_known k h

    tm_known : (t : Tm) → IsUnknown t → holds tm_eq (unknowns_of (terms_of s)) t ≡ true → KnownTerm t
    tm_known t k h = holds_each tm_eq IsUnknown KnownTerm tm_yes (unknowns_of (terms_of s)) t (noted_kinds (all_unknown_places (terms_of s)) (all_term_kinds (terms_of s))) terms_known k h

    abbrev s' : Goals
    s' = instanced (naming a) s

    named : (t : Tm) → IsNormal t → instance_of (naming a) t ≡ inst_tm er fr t
    named t k = term_is a alone_normal l t k

    all_named : (ts : List Tm) → Each IsNormal ts → map (instance_of (naming a)) ts ≡ map (inst_tm er fr) ts
    all_named [] k = refl
    all_named (t ∷ ts) k = λ i. named t k.0 i ∷ all_named ts k.1 i

    all_normal : (ts : List Tm) → Each IsNormal ts → Each IsNormal (map (instance_of (naming a)) ts)
    all_normal [] k = tt
    all_normal (t ∷ ts) k = (subst IsNormal (sym (named t k.0)) (normal_renamed er fr hr hf t k.0), all_normal ts k.1)

    all_formed : (ts : List Tm) → Each IsNormal ts → Each (λ t. is_in_form t ≡ true) ts → Each (λ t. is_in_form t ≡ true) (map (instance_of (naming a)) ts)
    all_formed [] k h = tt
    all_formed (t ∷ ts) k h = (ap is_in_form (named t k.0) ∙ form_renamed er fr hr hf t ∙ h.0, all_formed ts k.1 h.1)

    renamed_normal : IsNormalState s'
    renamed_normal = record { subgoals = all_normal s.subgoals n.subgoals; goal = subst IsNormal (sym (named s.goal n.goal)) (normal_renamed er fr hr hf s.goal n.goal) }

    renamed_formed : IsFormedState s'
    renamed_formed = record { subgoals = all_formed s.subgoals n.subgoals f.subgoals }

    meets : EachOf (TermMeets er (type_naming s') (type_naming s) fr (term_naming s') (term_naming s)) (terms_of s)
    meets = on_all s s' er fr hr rr (all_named s.subgoals n.subgoals) (named s.goal n.goal)
        (λ S T p q x y e. types_told a alone_normal l S T (ty_known S p x) (ty_known T q y) e)
        (λ t u p q x y e. terms_told a alone_normal l t u p q (tm_known t p x) (tm_known u q y) e)

    one_again : (t : Tm) → IsNormal t → TermMeets er (type_naming s') (type_naming s) fr (term_naming s') (term_naming s) t → instance_of (naming s') (instance_of (naming a) t) ≡ instance_of (naming s) t
    one_again t k m = ap (instance_of (naming s')) (named t k) ∙ ap norm m

    all_again : (ts : List Tm) → Each IsNormal ts → EachOf (TermMeets er (type_naming s') (type_naming s) fr (term_naming s') (term_naming s)) ts → map (instance_of (naming s')) (map (instance_of (naming a)) ts) ≡ map (instance_of (naming s)) ts
    all_again [] k m = refl
    all_again (t ∷ ts) k m = λ i. one_again t k.0 m.0 i ∷ all_again ts k.1 m.1 i

    -- under the names of the subgoal alone the state gets its own names back
    again : canon s' ≡ renamed s
    again =
        let m = each_split (TermMeets er (type_naming s') (type_naming s) fr (term_naming s') (term_naming s)) s.subgoals (s.goal ∷ []) meets in
        ap renamed (form_kept s' renamed_normal renamed_formed)
        ∙ (λ i. record { subgoals = all_again s.subgoals n.subgoals m.0 i; goal = one_again s.goal n.goal m.1.0 i; base = s.base })

    -- put back, it is the state under those names
    back : (i : ℕ) → length us ≡ i - 1 → unfocused s (renamed a) i ≡ s'
    back i e =
        let r : Tm → Tm = instance_of (naming a) in
        let g : instance_of (naming a) (implies (us ++ vs) s.goal) ≡ implies (map r (us ++ vs)) (r s.goal) = instance_implies (naming a) (us ++ vs) s.goal in
        let count : length s.subgoals - 1 ≡ length (map r (us ++ vs)) = ap (λ ts. length ts - 1) here ∙ one_less us vs w ∙ sym (map_count r (us ++ vs)) in
        let lead : leading (length s.subgoals - 1) (renamed a).goal ≡ (map r (us ++ vs), r s.goal) = (λ j. leading (count j) (g j)) ∙ leading_all (map r (us ++ vs)) (r s.goal) in
        let front : i - 1 ≡ length (map r us) = sym e ∙ sym (map_count r us) in
        let split : map r (us ++ vs) ≡ map r us ++ map r vs = map-append r us vs in
        let before : take (i - 1) (map r (us ++ vs)) ≡ map r us = (λ j. take (front j) (split j)) ∙ take_front (map r us) (map r vs) in
        let behind : drop (i - 1) (map r (us ++ vs)) ≡ map r vs = (λ j. drop (front j) (split j)) ∙ drop_front (map r us) (map r vs) in
        let whole : map r us ++ (r w ∷ map r vs) ≡ map r s.subgoals = sym (map-append r us (w ∷ vs)) ∙ ap (map r) (sym here) in
        (λ j. record { subgoals = take (i - 1) (lead j).0 ++ ((r w ∷ []) ++ drop (i - 1) (lead j).0); goal = (lead j).1; base = s.base })
        ∙ (λ j. record { subgoals = before j ++ (r w ∷ behind j); goal = r s.goal; base = s.base })
        ∙ (λ j. record { subgoals = whole j; goal = r s.goal; base = s.base })

-- a state that is canonical, and t, the canonical form of one of its subgoals alone
pub returned : (i : ℕ) (s alone t : Goals) → IsStanding s → canon s ≡ s → focused i s ≡ Some alone → NumbersFit (reshaped (normalised alone)) → t ≡ canon alone → canon (unfocused s t i) ≡ s
returned i s alone t d c e l q =
    let n : IsNormalState s = canon_normal s s d (sym c) in
    let f : IsFormedState s = canon_formed s s d (sym c) in
    let at = bind_some (around i s.subgoals) _ e in
    let us : List Tm = at.0.0 in
    let w : Tm = at.0.1 in
    let vs : List Tm = at.0.2 in
    let here : s.subgoals ≡ us ++ (w ∷ vs) = around_made i s.subgoals at.0 at.1 in
    let a : Goals = record { subgoals = w ∷ []; goal = implies (us ++ vs) s.goal; base = s.base } in
    let is : a ≡ alone = cc (at.2) in
    let kept : reshaped (normalised a) ≡ a = form_kept a (alone_normal s n f us vs w here) (alone_formed s n f us vs w here) in
    let fit : NumbersFit a = subst (λ x. NumbersFit x) kept (subst (λ x. NumbersFit (reshaped (normalised x))) (sym is) l) in
    let form : t ≡ renamed a = q ∙ ap canon (sym is) ∙ ap renamed kept in
    let own : renamed s ≡ s = ap renamed (sym (form_kept s n f)) ∙ c in
    ap (λ x. canon (unfocused s x i)) form
    ∙ ap canon (back s n f us vs w here fit i (around_length i s.subgoals at.0 at.1))
    ∙ again s n f us vs w here fit
    ∙ own

pub returned_ok : (i : ℕ) (s alone : Goals) (r : Result Goals AllocError) → IsStanding s → canon s ≡ s → focused i s ≡ Some alone → IfOk r (λ t. t ≡ canon alone) → IfOk r (λ t. NumbersFit (reshaped (normalised alone))) → IfOk r (λ t. canon (unfocused s t i) ≡ s)
returned_ok i s alone (Ok t) d c e q l = returned i s alone t d c e l q
returned_ok i s alone (Err x) d c e q l = tt
