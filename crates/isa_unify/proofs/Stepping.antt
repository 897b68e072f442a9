-- Each step of unification, and what it says of the instances that solve the state.
use Rattle.std.proofs.Common.{◌≡◌, ◌⊎◌, inl, inr, ℕ, ◌+◌, List, [], ◌∷◌, map, filter, length, Bool, true, false, cond, ◌||◌, nat_eq, refl, sym, ap, ◌∙◌, subst, arith}
use Rattle.std.proofs.lemmas.Bool.Decides.{nat_tests}
use Rattle.isa_terms.specs.Types.{Ty}
use Rattle.isa_terms.specs.Terms.{Tm, Unknown, bare}
use Rattle.isa_terms.specs.Norm.{loose, norm}
use Rattle.isa_terms.specs.Instance.{inst_ty}
use Rattle.isa_terms.specs.declared.inst.TypeEntry.{TypeEntry}
use Rattle.isa_terms.specs.Typed.{Typed}
use Rattle.isa_terms.specs.Conversion.{Conv, CRefl}
use Rattle.isa_terms.proofs.Conv.{right_typed}
use Rattle.isa_terms.proofs.Unique.{conv_norm}
use Rattle.isa_terms.proofs.Instances.{closed_anywhere}
use Rattle.isa_terms.proofs.Heads.{IsRigid, rigid_spine, one_type}
use Rattle.isa_terms.proofs.Loose.{loose_bare}
use Rattle.isa_terms.proofs.Abstracting as abstracting
use Rattle.isa_terms.proofs.Abstracting.{AreDistinct, Among, AreKnown, arrow, inst_typs, inst_arrow, on_bounds_typed}
use Rattle.isa_terms.proofs.Pruning.{IsWithin, applied_within, closed_missing}
use Rattle.isa_terms.proofs.Measures.{size, size_conv, size_applied, size_closed, spine_size_le}
use Rattle.isa_terms.proofs.Valuations.{Values, val, AreFit, val_typed, val_rigid, val_on_bounds}
use Rattle.isa_unify.specs.declared.equation.Variable.{Variable}
use Rattle.isa_unify.specs.declared.equation.Equation.{Equation}
use Rattle.isa_unify.specs.declared.progress.Verdict.{Verdict}
use Rattle.isa_unify.specs.declared.progress.Verdict.TheVariants.{Fine, Refused, Strays, Prunes}
use Rattle.isa_unify.specs.declared.progress.State.{State}
use Rattle.isa_unify.specs.declared.progress.Answer.TheVariants.{Yes, No, Outside}
use Rattle.isa_unify.specs.Descent.{Done, Lighter, Solved}
use Rattle.isa_unify.specs.Spines.{has_number}
use Rattle.isa_unify.specs.Unification.{types_in, UnifyStep, abstracted, over, range_behind, becomes, filled_state, with_first, after_new, with_new, renewed, first_place, solve_at, solve, agreeing, solve_same, solve_two, both_become}
use Rattle.isa_unify.proofs.Unknowns.{Key, key, stands, or_right}
use Rattle.isa_unify.proofs.Measure.{occurs}
use Rattle.isa_unify.proofs.Assigned.{fine_stands}
use Rattle.isa_unify.proofs.Meaning.{Holds, EachHolds, types_under}
use Rattle.isa_unify.proofs.Changing.{Sig, KnownKey, value, Ready}
use Rattle.isa_unify.proofs.Outcomes.{Outcome, entries_nothing}
use Rattle.isa_unify.proofs.Deciding.{unknown}
use Rattle.isa_unify.proofs.Verdicts.{fine_within, PrunePlace, VerdictTyped, verdict_typed, VerdictHolds, verdict_holds}
use Rattle.isa_unify.proofs.AbstractedTerms.{names, typs, bounds_known, unknown_type, hit}
use Rattle.isa_unify.proofs.Solving.{Front, solving_assignment, solving_outcome, known_inst}
use Rattle.isa_unify.proofs.Renewing.{Place, Fresh, Renewed, over_is, renewing_assignment, pruning_outcome, with_sig, Twice, pair_types, same_place, same_within, same_outcome, agreeing_all}
use Rattle.isa_unify.proofs.Pairing.{Two, two_place, both_terms, two_assignment, two_outcome}
use Rattle.isa_unify.proofs.TypeInstances.{inst_nothing}
use Rattle.isa_unify.proofs.Leading.{Hopeless, Leads, assigned_leads}

-- what a step says of the state
abbrev pub StepView : Sig → State → UnifyStep → Type 0
StepView sig st (Done (Yes ts fs n)) = Outcome sig st ts fs
StepView sig st (Done No) = Hopeless st
StepView sig st (Done Outside) = Unit {0}
StepView sig st (Lighter new) = Leads sig st new
StepView sig st (Solved new) = Leads sig st new

pub rest_known : (sig : Sig) (st : State) (e : Equation) → Ready sig (with_first e st) → (k : Key) → occurs k st.equations ≡ true → KnownKey sig st.next k
rest_known sig st e ready k h = ready.known k (or_right (stands k e.left) (stands k e.right || occurs k st.equations) (or_right (stands k e.right) (occurs k st.equations) h))

-- ---- `?F xs` against a rigid term
module _ (sig : Sig) (st : State) (e : Equation) (ready : Ready sig (with_first e st)) (u : Key) (xs : List ℕ) (t : Tm) (front : Front sig st.next e u xs t) (rigid : IsRigid t) where
  abbrev N : ℕ → List ℕ
  N = names e.binders

  abbrev Y : ℕ → Ty
  Y = typs e.binders

  places : AreKnown (names e.binders) (typs e.binders) (types_in e.binders) xs × Typed (types_in e.binders) (unknown u) (arrow (names e.binders) (typs e.binders) xs front.typ)
  places = bounds_known e.binders (unknown u) xs front.place

  pub verdict_of : (r : List TypeEntry) (v : Values) (f : AreFit r v) → Holds r v e.binders (abstracting.on_bounds (unknown u) xs) t → VerdictHolds r v f sig u.name u.number xs (first_place u.name u.number xs 0 e.binders t)
  verdict_of r v f h =
      let G = map (inst_ty r) (types_in e.binders) in
      let Y' = inst_typs r Y in
      let U = inst_ty r front.typ in
      let w = value v u in
      let q : inst_ty r u.typ ≡ arrow N Y' xs U = ap (inst_ty r) (unknown_type places.1) ∙ inst_arrow r N Y xs front.typ in
      let d : Typed [] w (arrow N Y' xs U) = subst (λ T. Typed [] w T) q (f u.name u.number u.typ) in
      let o : h.typ ≡ U = one_type (right_typed h.equal) (val_typed r v f front.other) refl in
      let c : Conv G U (abstracting.on_bounds w xs) (val r v t) = subst (λ a. Conv G U a (val r v t)) (val_on_bounds r v (unknown u) xs) (subst (λ T. Conv G T (val r v (abstracting.on_bounds (unknown u) xs)) (val r v t)) o h.equal) in
      let k = known_inst r N Y (types_in e.binders) xs places.0 in
      let s1 : size G (abstracting.on_bounds w xs) ≡ size G w = size_applied N Y' xs U k front.distinct (closed_missing d xs) (closed_anywhere G d) in
      let s2 : size G w ≡ size [] w = size_closed G d in
      let s3 : size [] w ≡ size [] (v u.name u.number (sig u.name u.number)) = ap (λ T. size [] (v u.name u.number T)) front.known.0 in
      let s0 : size G (val r v t) ≡ size G (abstracting.on_bounds w xs) = sym (size_conv c) in
      let le = spine_size_le G (val r v t) (rigid_spine (val r v t) (val_rigid r v t rigid)) in
      verdict_holds r v f sig u.name u.number xs t 0 e.binders front.typ front.normal front.other (λ k p. (front.others k p).0) (λ j. at j (applied_within N Y' G xs U k d j) (conv_norm c)) (inl (rigid, omega (arith, le, s0, s1, s2, s3)))
    where
      at : (j : ℕ) → Among j xs ⊎ (loose j (norm (abstracting.on_bounds (value v u) xs)) ≡ false) → bare (norm (abstracting.on_bounds (value v u) xs)) ≡ bare (norm (val r v t)) → Among j xs ⊎ (loose (j + 0) (norm (val r v t)) ≡ false)
      at j (inl g) s = inl g
      at j (inr g) s =
          let z : j + 0 ≡ j = omega arith in
          inr (ap (λ i. loose i (norm (val r v t))) z ∙ sym (loose_bare j (norm (val r v t))) ∙ ap (loose j) (sym s) ∙ loose_bare j (norm (abstracting.on_bounds (value v u) xs)) ∙ g)

  fine_view : first_place u.name u.number xs 0 e.binders t ≡ Fine → Leads sig (with_first e st) (filled_state (hit u (abstracted e.binders xs t)) st)
  fine_view p =
      let within : IsWithin xs t = λ j. at j (fine_within u.name u.number xs t 0 e.binders p j) in
      let without = fine_stands u xs 0 e.binders t p in
      let s = hit u (abstracted e.binders xs t) in
      assigned_leads sig (with_first e st) ready sig (filled_state s st) s (solving_assignment sig st e ready u xs t front within without) st.equations refl refl refl ready.typed.1 (rest_known sig st e ready) (λ r v h. h.1) (λ ts fs o. solving_outcome sig st e ready u xs t front within without ts fs o)
    where
      at : (j : ℕ) → Among j xs ⊎ (loose (j + 0) t ≡ false) → Among j xs ⊎ (loose j t ≡ false)
      at j (inl g) = inl g
      at j (inr g) = let z : j ≡ j + 0 = omega arith in inr (ap (λ i. loose i t) z ∙ g)

  pruned_view : (x : List ℕ) (i : ℕ) (T : Ty) (bs : List Variable) (ys kept : List ℕ) → first_place u.name u.number xs 0 e.binders t ≡ Prunes x i T bs ys kept → Leads sig (with_first e st) (renewed (with_first e (after_new st)) bs x i T ys st.next kept)
  pruned_view x i T bs ys kept p =
      let whole = with_first e st in
      let w = key x i T in
      let g : PrunePlace x i T bs ys kept = subst VerdictTyped p (verdict_typed u.name u.number xs t 0 e.binders front.typ front.other) in
      let place : Place bs w ys kept = record { typ = g.typ; typed = g.typed; distinct = g.distinct; kept_distinct = g.kept_distinct; kept_front = g.kept_front } in
      let within : (r : List TypeEntry) (v : Values) → AreFit r v → EachHolds r v whole.equations → IsWithin kept (norm (abstracting.on_bounds (value v w) ys)) = λ r v f h.
      let d : IsWithin kept (norm (val r v (abstracting.on_bounds (Unknown x i T) ys))) = subst (VerdictHolds r v f sig u.name u.number xs) p (verdict_of r v f (front.there r v h.0)) in
      subst (λ a. IsWithin kept (norm a)) (val_on_bounds r v (Unknown x i T) ys) d in
      let n = st.next in
      let s = hit w (Renewed bs w ys kept place n) in
      let sig' = with_sig x n (Fresh bs w ys kept place n).typ sig in
      let new = filled_state s (after_new whole) in
      let a = renewing_assignment sig whole bs w ys kept place new refl within in
      let leads : Leads sig whole new = assigned_leads sig whole ready sig' new s a whole.equations refl refl refl ready.typed ready.known (λ r v h. h) (λ ts fs o. pruning_outcome sig whole ready bs w ys kept place within ts fs o) in
      let is : abstracted bs ys (over bs x n kept (range_behind ys T)) ≡ Renewed bs w ys kept place n = ap (abstracted bs ys) (over_is bs w ys kept place n) in
      subst (λ A. Leads sig whole (filled_state (becomes x i T A ∷ []) (with_first e (after_new st)))) (sym is) leads

  pub solve_view : StepView sig (with_first e st) (solve st e u.name u.number u.typ xs t)
  solve_view = go (first_place u.name u.number xs 0 e.binders t) refl
    where
      taken : (x : List ℕ) (i : ℕ) (T : Ty) (bs : List Variable) (ys kept : List ℕ) → Leads sig (with_first e st) (renewed (with_first e (after_new st)) bs x i T ys st.next kept) → (b : Bool) → StepView sig (with_first e st) (cond b (Done Outside) (Solved (renewed (with_first e (after_new st)) bs x i T ys st.next kept)))
      taken x i T bs ys kept l true = tt
      taken x i T bs ys kept l false = l

      go : (w : Verdict) → first_place u.name u.number xs 0 e.binders t ≡ w → StepView sig (with_first e st) (solve_at st e u.name u.number u.typ xs t w)
      go Fine p = fine_view p
      go Refused p = λ r v f h. subst (VerdictHolds r v f sig u.name u.number xs) p (verdict_of r v f (front.there r v h.0))
      go Strays p = tt
      go (Prunes x i T bs ys kept) p = taken x i T bs ys kept (pruned_view x i T bs ys kept p) (nat_eq st.left 0)

-- ---- `?F xs` against `?F ys`
module _ (sig : Sig) (st : State) (e : Equation) (ready : Ready sig (with_first e st)) where
  same_holds : e.left ≡ e.right → (r : List TypeEntry) (v : Values) → AreFit r v → Holds r v e.binders e.left e.right
  same_holds q r v f = record { typ = inst_ty r ready.typed.0.typ; equal = subst (λ t. Conv (types_under r v e.binders) (inst_ty r ready.typed.0.typ) (val r v e.left) (val r v t)) q (CRefl (val_typed r v f ready.typed.0.left)) }

  dropped : e.left ≡ e.right → Leads sig (with_first e st) st
  dropped q = record {
    new_sig = sig;
    by = [];
    by_sig = λ x i h. sym (inst_nothing (sig x i));
    by_types = entries_nothing st.types;
    ready = record { typed = ready.typed.1; normal = ready.normal.1; known = rest_known sig st e ready; terms_typed = ready.terms_typed; terms_known = ready.terms_known };
    outcome = λ ts fs o. record {
      by_types = o.by_types;
      by = o.by;
      fit = o.fit;
      solves = (same_holds q o.by_types o.by o.fit, o.solves);
      types = o.types;
      terms = o.terms;
      terms_typed = o.terms_typed;
      general = λ r v f h. o.general r v f h.1;
    };
    refuted = λ no r v f h. no r v f h.1;
  }

  pub same_view : (u : Key) (xs ys : List ℕ) → Twice sig st.next e u xs ys → StepView sig (with_first e st) (solve_same st e u.name u.number u.typ xs ys)
  same_view u xs ys t = go (nat_eq (length (agreeing xs ys)) (length xs)) refl
    where
      n : ℕ
      n = st.next

      kept : List ℕ
      kept = agreeing xs ys

      leads : Leads sig (with_first e st) (renewed (after_new st) e.binders u.name u.number u.typ xs st.next (agreeing xs ys))
      leads =
          let place = same_place sig st e ready u xs ys t in
          let s = hit u (Renewed e.binders u xs (agreeing xs ys) place st.next) in
          let new = filled_state s (after_new st) in
          let a = renewing_assignment sig (with_first e st) e.binders u xs (agreeing xs ys) place new refl (λ r v f h. same_within sig st e ready u xs ys t r v f h.0) in
          let l : Leads sig (with_first e st) new = assigned_leads sig (with_first e st) ready (with_sig u.name st.next (Fresh e.binders u xs (agreeing xs ys) place st.next).typ sig) new s a st.equations refl refl refl ready.typed.1 (rest_known sig st e ready) (λ r v h. h.1) (λ ts fs o. same_outcome sig st e ready u xs ys t ts fs o) in
          let is : abstracted e.binders xs (over e.binders u.name st.next (agreeing xs ys) (range_behind xs u.typ)) ≡ Renewed e.binders u xs (agreeing xs ys) place st.next = ap (abstracted e.binders xs) (over_is e.binders u xs (agreeing xs ys) place st.next) in
          subst (λ A. Leads sig (with_first e st) (filled_state (becomes u.name u.number u.typ A ∷ []) (after_new st))) (sym is) l

      taken : (b : Bool) → StepView sig (with_first e st) (cond b (Done Outside) (Solved (renewed (after_new st) e.binders u.name u.number u.typ xs st.next (agreeing xs ys))))
      taken true = tt
      taken false = leads

      go : (b : Bool) → nat_eq (length (agreeing xs ys)) (length xs) ≡ b → StepView sig (with_first e st) (cond b (Lighter st) (with_new st (λ new st'. Solved (renewed st' e.binders u.name u.number u.typ xs new (agreeing xs ys)))))
      go true p =
          let l : length (agreeing xs ys) ≡ length xs = grind (arith, nat_tests) in
          let q : xs ≡ ys = agreeing_all (typs e.binders) xs ys (pair_types sig st e ready u xs ys t) l in
          dropped (t.left_is ∙ ap (abstracting.on_bounds (unknown u)) q ∙ sym t.right_is)
      go false p = taken (nat_eq st.left 0)

  -- ---- `?F xs` against `?G ys`
  pub two_view : (u : Key) (xs : List ℕ) (w : Key) (ys : List ℕ) → Two sig st.next e u xs w ys → StepView sig (with_first e st) (solve_two st e u.name u.number u.typ xs w.name w.number w.typ ys)
  two_view u xs w ys t = taken (nat_eq st.left 0)
    where
      kept : List ℕ
      kept = filter (has_number ys) xs

      leads : Leads sig (with_first e st) (both_become (after_new st) e u.name u.number u.typ xs w.name w.number w.typ ys (over e.binders u.name st.next (filter (has_number ys) xs) (range_behind xs u.typ)))
      leads =
          let place = two_place sig st e ready u xs w ys t in
          let s = both_terms sig st e ready u xs w ys t in
          let new = filled_state s (after_new st) in
          let a = two_assignment sig st e ready u xs w ys t in
          let l : Leads sig (with_first e st) new = assigned_leads sig (with_first e st) ready (with_sig u.name st.next (Fresh e.binders u xs (filter (has_number ys) xs) place st.next).typ sig) new s a st.equations refl refl refl ready.typed.1 (rest_known sig st e ready) (λ r v h. h.1) (λ ts fs o. two_outcome sig st e ready u xs w ys t ts fs o) in
          subst (λ h. Leads sig (with_first e st) (both_become (after_new st) e u.name u.number u.typ xs w.name w.number w.typ ys h)) (sym (over_is e.binders u xs (filter (has_number ys) xs) place st.next)) l

      taken : (b : Bool) → StepView sig (with_first e st) (cond b (Done Outside) (Solved (both_become (after_new st) e u.name u.number u.typ xs w.name w.number w.typ ys (over e.binders u.name st.next (filter (has_number ys) xs) (range_behind xs u.typ)))))
      taken true = tt
      taken false = leads
