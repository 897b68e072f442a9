-- The step that gives two unknowns one new unknown over the variables that both have.
use Rattle.std.proofs.Common.{◌≡◌, ◌⊎◌, inl, inr, ℕ, ◌+◌, List, [], ◌∷◌, map, filter, Bool, true, false, cond, ◌||◌, Some, refl, sym, ap, ◌∙◌, subst}
use Rattle.std.specs.Prelude.{unwrap_or}
use Rattle.isa_terms.specs.Types.{Ty}
use Rattle.isa_terms.specs.Terms.{Tm, Unknown}
use Rattle.isa_terms.specs.Norm.{loose, norm}
use Rattle.isa_terms.specs.Instance.{find_term, inst_ty, inst_tm}
use Rattle.isa_terms.specs.declared.inst.TypeEntry.{TypeEntry}
use Rattle.isa_terms.specs.declared.inst.TermEntry.{TermEntry}
use Rattle.isa_terms.specs.Typed.{Typed}
use Rattle.isa_terms.specs.Conversion.{Conv, CSym, CTrans}
use Rattle.isa_terms.proofs.Conv.{left_typed}
use Rattle.isa_terms.proofs.Unique.{conv_norm}
use Rattle.isa_terms.proofs.Heads.{one_type}
use Rattle.isa_terms.proofs.Loose.{loose_bare}
use Rattle.isa_terms.proofs.Abstracting as abstracting
use Rattle.isa_terms.proofs.Abstracting.{AreDistinct, Among, AreKnown, arrow, tower, inst_typs, inst_arrow}
use Rattle.isa_terms.proofs.Pruning.{IsWithin, applied_within, closed_only}
use Rattle.isa_terms.proofs.Valuations.{Values, val, AreFit, val_typed, val_on_bounds}
use Rattle.isa_unify.specs.declared.equation.Variable.{Variable}
use Rattle.isa_unify.specs.declared.equation.Equation.{Equation}
use Rattle.isa_unify.specs.declared.progress.State.{State}
use Rattle.isa_unify.specs.Spines.{has_number}
use Rattle.isa_unify.specs.Unification.{types_in, abstracted, becomes, filled_state, with_first, after_new}
use Rattle.isa_unify.proofs.Unknowns.{Key, key_eq, key_eq-true, key_eq_self, stands, either_true, or_right}
use Rattle.isa_unify.proofs.Measure.{occurs}
use Rattle.isa_unify.proofs.Assigned.{stands-abstracted}
use Rattle.isa_unify.proofs.Meaning.{Holds}
use Rattle.isa_unify.proofs.Changing.{Sig, KnownKey, value, filled_back, Ready}
use Rattle.isa_unify.proofs.Outcomes.{Outcome, Extension, Assignment, extended_holds, assigned_outcome}
use Rattle.isa_unify.proofs.Deciding.{unknown, among_has, has_among, filter_front, filter_has, filter_distinct}
use Rattle.isa_unify.proofs.AbstractedTerms.{names, typs, bounds_known, unknown_type, Abstracted, abstracts, abstracted_applied, hit, find_hit, find_missed, hit_kept}
use Rattle.isa_unify.proofs.Solving.{conv_closed, known_inst, hit_agree, front_holds, inst_on_bounds_nothing}
use Rattle.isa_unify.proofs.Renewing.{with_sig, value_below, more_known, new_known, Place, applied_typed, applied_only, kept_known, Fresh, Body, Renewed, renewed_made, renewed_typed, value_typed, through, Plus, plus_fit, tower_value, renewed_value, stands_from}

-- the sides are two unknowns on variables
pub record Two (sig : Sig) (next : ℕ) (e : Equation) (u : Key) (xs : List ℕ) (w : Key) (ys : List ℕ) : Type 0 where
  pub typ : Ty
  pub left_is : e.left ≡ abstracting.on_bounds (unknown u) xs
  pub right_is : e.right ≡ abstracting.on_bounds (unknown w) ys
  pub left : Typed (types_in e.binders) (abstracting.on_bounds (unknown u) xs) typ
  pub right : Typed (types_in e.binders) (abstracting.on_bounds (unknown w) ys) typ
  pub left_distinct : AreDistinct xs
  pub right_distinct : AreDistinct ys
  pub other : key_eq w u ≡ false

module _ (sig : Sig) (st : State) (e : Equation) (ready : Ready sig (with_first e st)) (u : Key) (xs : List ℕ) (w : Key) (ys : List ℕ) (t : Two sig st.next e u xs w ys) where
  abbrev bs : List Variable
  bs = e.binders

  abbrev M : ℕ → List ℕ
  M = names e.binders

  abbrev Z : ℕ → Ty
  Z = typs e.binders

  left_places : AreKnown (names e.binders) (typs e.binders) (types_in e.binders) xs × Typed (types_in e.binders) (unknown u) (arrow (names e.binders) (typs e.binders) xs t.typ)
  left_places = bounds_known e.binders (unknown u) xs t.left

  right_places : AreKnown (names e.binders) (typs e.binders) (types_in e.binders) ys × Typed (types_in e.binders) (unknown w) (arrow (names e.binders) (typs e.binders) ys t.typ)
  right_places = bounds_known e.binders (unknown w) ys t.right

  abbrev pub Kept : List ℕ
  Kept = filter (has_number ys) xs

  kept_ys : (j : ℕ) → Among j (filter (has_number ys) xs) → Among j ys
  kept_ys j h = among_has ys j (filter_front (has_number ys) xs j h).1

  abbrev pub two_place : Place e.binders u xs (filter (has_number ys) xs)
  two_place = record {
    typ = t.typ;
    typed = t.left;
    distinct = t.left_distinct;
    kept_distinct = filter_distinct (has_number ys) xs t.left_distinct;
    kept_front = λ j h. (filter_front (has_number ys) xs j h).0;
  }

  abbrev B : Tm
  B = Body bs u xs Kept two_place st.next

  b_typed : Typed (types_in e.binders) B t.typ
  b_typed = applied_typed bs u.name st.next Kept t.typ (kept_known bs u xs Kept two_place st.next)

  abbrev First : Tm
  First = Renewed bs u xs Kept two_place st.next

  abbrev Second : Tm
  Second = abstracted bs ys B

  abbrev pub both_terms : List TermEntry
  both_terms = becomes u.name u.number u.typ First ∷ hit w Second

  second_made : Abstracted e.binders ys B t.typ
  second_made = abstracts bs ys B t.typ right_places.0 t.right_distinct (applied_only bs u.name st.next Kept t.typ ys kept_ys) b_typed

  second_typed : Typed [] Second w.typ
  second_typed = subst (λ T. Typed [] Second T) (sym (unknown_type right_places.1)) second_made.closed

  -- the sides under an instance
  pub sides : (r : List TypeEntry) (v : Values) → AreFit r v → Holds r v e.binders e.left e.right → Conv (map (inst_ty r) (types_in e.binders)) (inst_ty r t.typ) (abstracting.on_bounds (value v u) xs) (abstracting.on_bounds (value v w) ys)
  sides r v f h =
      let G = map (inst_ty r) (types_in bs) in
      let U = inst_ty r t.typ in
      let a : val r v e.left ≡ abstracting.on_bounds (value v u) xs = ap (val r v) t.left_is ∙ val_on_bounds r v (unknown u) xs in
      let b : val r v e.right ≡ abstracting.on_bounds (value v w) ys = ap (val r v) t.right_is ∙ val_on_bounds r v (unknown w) ys in
      let d : Typed G (val r v e.left) U = subst (λ z. Typed G (val r v z) U) (sym t.left_is) (val_typed r v f t.left) in
      let o : h.typ ≡ U = one_type (left_typed h.equal) d refl in
      let c0 : Conv G U (val r v e.left) (val r v e.right) = subst (λ T. Conv G T (val r v e.left) (val r v e.right)) o h.equal in
      subst (λ z. Conv G U z (abstracting.on_bounds (value v w) ys)) a (subst (λ z. Conv G U (val r v e.left) z) b c0)

  second_value_typed : (r : List TypeEntry) (v : Values) → AreFit r v → Typed [] (value v w) (arrow M (inst_typs r Z) ys (inst_ty r t.typ))
  second_value_typed r v f = subst (λ T. Typed [] (value v w) T) (ap (inst_ty r) (unknown_type right_places.1) ∙ inst_arrow r M Z ys t.typ) (f w.name w.number w.typ)

  two_within : (r : List TypeEntry) (v : Values) → AreFit r v → Holds r v e.binders e.left e.right → IsWithin Kept (norm (abstracting.on_bounds (value v u) xs))
  two_within r v f h j =
      let G = map (inst_ty r) (types_in bs) in
      let U = inst_ty r t.typ in
      let c = sides r v f h in
      let left = applied_within M (inst_typs r Z) G xs U (known_inst r M Z (types_in bs) xs left_places.0) (value_typed bs u xs Kept two_place st.next r v f) j in
      let right = applied_within M (inst_typs r Z) G ys U (known_inst r M Z (types_in bs) ys right_places.0) (second_value_typed r v f) j in
      let same : loose j (norm (abstracting.on_bounds (value v u) xs)) ≡ loose j (norm (abstracting.on_bounds (value v w) ys)) =
      sym (loose_bare j (norm (abstracting.on_bounds (value v u) xs))) ∙ ap (loose j) (conv_norm c) ∙ loose_bare j (norm (abstracting.on_bounds (value v w) ys)) in
      go same left right
    where
      go : loose j (norm (abstracting.on_bounds (value v u) xs)) ≡ loose j (norm (abstracting.on_bounds (value v w) ys))
          → Among j xs ⊎ (loose j (norm (abstracting.on_bounds (value v u) xs)) ≡ false) → Among j ys ⊎ (loose j (norm (abstracting.on_bounds (value v w) ys)) ≡ false)
          → Among j Kept ⊎ (loose j (norm (abstracting.on_bounds (value v u) xs)) ≡ false)
      go s (inr p) q = inr p
      go s (inl p) (inr q) = inr (s ∙ q)
      go s (inl p) (inl q) = inl (filter_has (has_number ys) xs j p (has_among ys j q))

  module _ (r : List TypeEntry) (v : Values) (f : AreFit r v) (h : Holds r v e.binders e.left e.right) where
    abbrev P : Values
    P = Plus bs u xs Kept two_place st.next r v f (two_within r v f h)

    second_value : Conv [] (inst_ty r w.typ) (value v w) (val r P Second)
    second_value =
        let G = map (inst_ty r) (types_in bs) in
        let U = inst_ty r t.typ in
        let y = two_within r v f h in
        let q = through bs u xs Kept two_place st.next r v f y in
        let c : Conv G U (abstracting.on_bounds (value v w) ys) (abstracting.on_bounds q.through Kept) = CSym (CTrans q.gives (sides r v f h)) in
        let m = closed_only M (inst_typs r Z) ys U (known_inst r M Z (types_in bs) ys right_places.0) t.right_distinct (second_value_typed r v f) c in
        conv_closed (f w.name w.number w.typ) (val_typed r P (plus_fit bs u xs Kept two_place st.next r v f y) second_typed) (CTrans m (tower_value bs u xs Kept two_place st.next r v f y ys t.typ second_made))

    two_extension : Extension sig st.next both_terms r v
    two_extension =
        let y = two_within r v f h in
        let F = Fresh bs u xs Kept two_place st.next in
        let g = plus_fit bs u xs Kept two_place st.next r v f y in
        record {
          plus = P;
          fit = g;
          agree = λ k l. go k (hit_agree sig st.next w Second r v P f (λ m n. value_below u.name st.next F.typ (through bs u xs Kept two_place st.next r v f y).through v m n.1) second_value k l) (key_eq k u) refl;
        }
      where
        go : (k : Key) → Conv [] (inst_ty r k.typ) (value v k) (val r P (inst_tm [] (hit w Second) (unknown k))) → (b : Bool) → key_eq k u ≡ b → Conv [] (inst_ty r k.typ) (value v k) (val r P (inst_tm [] both_terms (unknown k)))
        go k c true i =
            let y = two_within r v f h in
            let m : Conv [] (inst_ty r u.typ) (value v u) (val r P First) = renewed_value bs u xs Kept two_place st.next r v f y in
            let e1 : inst_tm [] both_terms (unknown u) ≡ First = found_first in
            subst (λ l. Conv [] (inst_ty r l.typ) (value v l) (val r P (inst_tm [] both_terms (unknown l)))) (sym (key_eq-true k u i)) (subst (λ a. Conv [] (inst_ty r u.typ) (value v u) (val r P a)) (sym e1) m)
          where
            found_first : inst_tm [] both_terms (unknown u) ≡ First
            found_first = ap (λ b. unwrap_or (cond b (Some First) (find_term u.name u.number u.typ (hit w Second))) (Unknown u.name u.number (inst_ty [] u.typ))) (key_eq_self u)
        go k c false i = subst (λ a. Conv [] (inst_ty r k.typ) (value v k) (val r P a)) (sym (find_missed u k First (hit w Second) i)) c

  found_first : inst_tm [] both_terms (unknown u) ≡ First
  found_first = ap (λ b. unwrap_or (cond b (Some First) (find_term u.name u.number u.typ (hit w Second))) (Unknown u.name u.number (inst_ty [] u.typ))) (key_eq_self u)

  found_second : inst_tm [] both_terms (unknown w) ≡ Second
  found_second = find_missed u w First (hit w Second) t.other ∙ find_hit w Second

  abbrev New_sig : Sig
  New_sig = with_sig u.name st.next (Fresh bs u xs Kept two_place st.next).typ sig

  body_known : (k : Key) → stands k B ≡ true → KnownKey New_sig (st.next + 1) k
  body_known k h =
      let F = Fresh bs u xs Kept two_place st.next in
      subst (λ l. KnownKey New_sig (st.next + 1) l) (sym (key_eq-true k F (stands_from k (unknown F) Kept h))) (new_known u.name st.next F.typ sig)

  pub two_assignment : Assignment sig (with_first e st) New_sig (filled_state both_terms (after_new st)) both_terms
  two_assignment = record {
    kept = ((hit_kept u First (renewed_typed bs u xs Kept two_place st.next)).0, hit_kept w Second second_typed);
    more = λ k h. more_known u.name st.next (Fresh bs u xs Kept two_place st.next).typ sig k h;
    known = λ k h. go k (either_true (stands k First) (stands k Second || false) h);
    extend = λ r v f h. two_extension r v f h.0;
  }
    where
      only : (b : Bool) → (b || false) ≡ true → b ≡ true
      only true e = refl
      only false e = e

      go : (k : Key) → (stands k First ≡ true) ⊎ ((stands k Second || false) ≡ true) → KnownKey New_sig (st.next + 1) k
      go k (inl d) = body_known k (stands-abstracted k bs xs B d)
      go k (inr d) = body_known k (stands-abstracted k bs ys B (only (stands k Second) d))

  two_put_in : Conv (types_in e.binders) t.typ (inst_tm [] both_terms e.left) (inst_tm [] both_terms e.right)
  two_put_in =
      let G = types_in bs in
      let s = both_terms in
      let a : inst_tm [] s e.left ≡ abstracting.on_bounds First xs = ap (inst_tm [] s) t.left_is ∙ inst_on_bounds_nothing s (unknown u) xs ∙ ap (λ z. abstracting.on_bounds z xs) found_first in
      let b : inst_tm [] s e.right ≡ abstracting.on_bounds Second ys = ap (inst_tm [] s) t.right_is ∙ inst_on_bounds_nothing s (unknown w) ys ∙ ap (λ z. abstracting.on_bounds z ys) found_second in
      let c : Conv G t.typ (abstracting.on_bounds First xs) B = abstracted_applied bs xs B t.typ left_places.0 b_typed (renewed_made bs u xs Kept two_place st.next) in
      let d : Conv G t.typ (abstracting.on_bounds Second ys) B = abstracted_applied bs ys B t.typ right_places.0 b_typed second_made in
      subst (λ z. Conv G t.typ z (inst_tm [] s e.right)) (sym a) (subst (λ z. Conv G t.typ (abstracting.on_bounds First xs) z) (sym b) (CTrans c (CSym d)))

  pub two_outcome : (ts : List TypeEntry) (fs : List TermEntry) → Outcome New_sig (filled_state both_terms (after_new st)) ts fs → Outcome sig (with_first e st) ts fs
  two_outcome ts fs o =
      let s = both_terms in
      let whole = with_first e st in
      let new = filled_state s (after_new st) in
      let a = two_assignment in
      assigned_outcome sig whole ready New_sig new s a ts fs refl refl o
      (λ r v f h x. extended_holds sig whole ready New_sig new s a r v f x st.equations (λ k q. ready.known k (or_right (stands k e.left) (stands k e.right || occurs k st.equations) (or_right (stands k e.right) (occurs k st.equations) q))) ready.typed.1 h.1)
      (front_holds s o.by_types o.by o.fit e.binders e.left e.right t.typ two_put_in, filled_back s a.kept o.by_types o.by o.fit st.equations ready.typed.1 o.solves)
