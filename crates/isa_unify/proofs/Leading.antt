-- What a step from one state to another says of both.
use Rattle.std.proofs.Common.{◌≡◌, ◌⊎◌, inl, inr, ℕ, ◌+◌, ◌<◌, List, [], ◌∷◌, map, true, false, not, ◌&&◌, ◌||◌, nat_eq, refl, sym, ap, ◌∙◌, subst}
use Rattle.isa_terms.specs.Terms.{Tm, Const, Free, Unknown, Bound, Abs, App}
use Rattle.isa_terms.specs.Norm.{loose}
use Rattle.isa_terms.specs.Normal.{redex, IsHead, IsNormal}
use Rattle.isa_terms.specs.Instance.{inst_ty}
use Rattle.isa_terms.specs.declared.inst.TypeEntry.{TypeEntry}
use Rattle.isa_terms.specs.declared.inst.TermEntry.{TermEntry}
use Rattle.isa_terms.specs.Instances.{IsKept}
use Rattle.isa_terms.proofs.NormalForms.{norm_normal}
use Rattle.isa_terms.proofs.Instances.{inst_typed}
use Rattle.isa_terms.proofs.Valuations.{Values, AreFit}
use Rattle.isa_unify.specs.declared.equation.Equation.{Equation}
use Rattle.isa_unify.specs.declared.progress.State.{State}
use Rattle.isa_unify.specs.Unification.{filled, filled_equation, filled_entry, retyped, retyped_equation, retyped_entry, retyped_state}
use Rattle.isa_unify.specs.TypeUnification.{entries_under}
use Rattle.isa_unify.proofs.TypeInstances.{inst_nothing}
use Rattle.isa_unify.proofs.Unknowns.{Key, key, stands, either_true, or_left, or_right}
use Rattle.isa_unify.proofs.Measure.{occurs}
use Rattle.isa_unify.proofs.Assigned.{some_term_has, assigns, stands-filled, occurs-filled, retyped_key, CameFrom, stands-retyped, occurs-retyped}
use Rattle.isa_unify.proofs.Meaning.{EachHolds}
use Rattle.isa_unify.proofs.Ready.{AllNormal, AllTyped, retyped_typed}
use Rattle.isa_unify.proofs.Changing.{Sig, KnownKey, TermsTyped, Ready, assigned_typed, filled_typed}
use Rattle.isa_unify.proofs.Outcomes.{Outcome, Assignment, extended_holds, retyped_sig, entries_nothing}

-- no instance solves the state
abbrev pub Hopeless : State → Type 0
Hopeless st = (r : List TypeEntry) (v : Values) → AreFit r v → EachHolds r v st.equations → ⊥

-- a step that leads from st to new
pub record Leads (sig : Sig) (st new : State) : Type 0 where
  pub new_sig : Sig
  pub ready : Ready new_sig new
  pub by : List TypeEntry
  pub by_sig : (x : List ℕ) (i : ℕ) → i < st.next → new_sig x i ≡ inst_ty by (sig x i)
  pub by_types : new.types ≡ entries_under by st.types
  pub outcome : (ts : List TypeEntry) (fs : List TermEntry) → Outcome new_sig new ts fs → Outcome sig st ts fs
  pub refuted : Hopeless new → Hopeless st

-- ---- after terms were put in
filled_all_typed : (s : List TermEntry) → IsKept [] s → (es : List Equation) → AllTyped es → AllTyped (map (filled_equation s) es)
filled_all_typed s k [] h = tt
filled_all_typed s k (e ∷ es) h = (record { typ = h.0.typ; left = filled_typed s k h.0.left; right = filled_typed s k h.0.right }, filled_all_typed s k es h.1)

filled_all_normal : (s : List TermEntry) → IsKept [] s → (es : List Equation) → AllTyped es → AllNormal (map (filled_equation s) es)
filled_all_normal s k [] h = tt
filled_all_normal s k (e ∷ es) h = ((norm_normal (assigned_typed s k h.0.left), norm_normal (assigned_typed s k h.0.right)), filled_all_normal s k es h.1)

filled_terms_typed : (s : List TermEntry) → IsKept [] s → (es : List TermEntry) → TermsTyped es → TermsTyped (map (filled_entry s) es)
filled_terms_typed s k [] h = tt
filled_terms_typed s k (e ∷ es) h = (record { typ = h.0.typ; typed = filled_typed s k h.0.typed }, filled_terms_typed s k es h.1)

filled_terms_has : (s : List TermEntry) (k : Key) (es : List TermEntry) → some_term_has k (map (filled_entry s) es) ≡ true → (some_term_has k s ≡ true) ⊎ (some_term_has k es ≡ true)
filled_terms_has s k [] h = absurd (cc)
filled_terms_has s k (e ∷ es) h = go (either_true (stands k (filled s e.term)) (some_term_has k (map (filled_entry s) es)) h) (filled_terms_has s k es)
  where
    first : (some_term_has k s ≡ true) ⊎ ((stands k e.term ≡ true) × (assigns s k ≡ false)) → (some_term_has k s ≡ true) ⊎ (some_term_has k (e ∷ es) ≡ true)
    first (inl d) = inl d
    first (inr d) = inr (or_left (stands k e.term) (some_term_has k es) d.0)

    rest : (some_term_has k s ≡ true) ⊎ (some_term_has k es ≡ true) → (some_term_has k s ≡ true) ⊎ (some_term_has k (e ∷ es) ≡ true)
    rest (inl d) = inl d
    rest (inr d) = inr (or_right (stands k e.term) (some_term_has k es) d)

    go : (stands k (filled s e.term) ≡ true) ⊎ (some_term_has k (map (filled_entry s) es) ≡ true) → (some_term_has k (map (filled_entry s) es) ≡ true → (some_term_has k s ≡ true) ⊎ (some_term_has k es ≡ true)) → (some_term_has k s ≡ true) ⊎ (some_term_has k (e ∷ es) ≡ true)
    go (inl d) ih = first (stands-filled s k e.term d)
    go (inr d) ih = rest (ih d)

pub assigned_leads : (sig : Sig) (st : State) → Ready sig st → (new_sig : Sig) (new : State) (s : List TermEntry) (a : Assignment sig st new_sig new s) (eqs : List Equation)
    → new.equations ≡ map (filled_equation s) eqs → new.terms ≡ map (filled_entry s) st.terms → new.types ≡ st.types
    → AllTyped eqs → ((k : Key) → occurs k eqs ≡ true → KnownKey sig st.next k)
    → ((r : List TypeEntry) (v : Values) → EachHolds r v st.equations → EachHolds r v eqs)
    → ((ts : List TypeEntry) (fs : List TermEntry) → Outcome new_sig new ts fs → Outcome sig st ts fs)
    → Leads sig st new
assigned_leads sig st ready new_sig new s a eqs is is_terms is_types typed known some outcome = record {
  new_sig = new_sig;
  by = [];
  by_sig = λ x i h. sym (a.more (key x i (sig x i)) (refl, h)).0 ∙ sym (inst_nothing (sig x i));
  by_types = is_types ∙ entries_nothing st.types;
  ready = record {
    typed = subst AllTyped (sym is) (filled_all_typed s a.kept eqs typed);
    normal = subst AllNormal (sym is) (filled_all_normal s a.kept eqs typed);
    known = λ k h. equations k (occurs-filled s k eqs (ap (occurs k) (sym is) ∙ h));
    terms_typed = subst TermsTyped (sym is_terms) (filled_terms_typed s a.kept st.terms ready.terms_typed);
    terms_known = λ k h. terms k (filled_terms_has s k st.terms (ap (some_term_has k) (sym is_terms) ∙ h));
  };
  outcome = outcome;
  refuted = λ no r v f h.
      let x = a.extend r v f h in
      no r x.plus x.fit (subst (λ es. EachHolds r x.plus es) (sym is) (extended_holds sig st ready new_sig new s a r v f x eqs known typed (some r v h)));
}
  where
    equations : (k : Key) → (some_term_has k s ≡ true) ⊎ ((occurs k eqs ≡ true) × (assigns s k ≡ false)) → KnownKey new_sig new.next k
    equations k (inl d) = a.known k d
    equations k (inr d) = a.more k (known k d.0)

    terms : (k : Key) → (some_term_has k s ≡ true) ⊎ (some_term_has k st.terms ≡ true) → KnownKey new_sig new.next k
    terms k (inl d) = a.known k d
    terms k (inr d) = a.more k (ready.terms_known k d)

-- ---- after types were put in
retyped_head : (q : List TypeEntry) (t : Tm) → IsHead t → IsHead (retyped q t)
retyped_head q (Const x T) h = tt
retyped_head q (Free x T) h = tt
retyped_head q (Unknown x i T) h = tt
retyped_head q (Bound n) h = tt
retyped_head q (Abs x T b) h = absurd h
retyped_head q (App f a) h = tt

retyped_loose : (q : List TypeEntry) (k : ℕ) (t : Tm) → loose k (retyped q t) ≡ loose k t
retyped_loose q k (Const x T) = refl
retyped_loose q k (Free x T) = refl
retyped_loose q k (Unknown x i T) = refl
retyped_loose q k (Bound n) = refl
retyped_loose q k (Abs x T b) = retyped_loose q (k + 1) b
retyped_loose q k (App f a) = λ i. retyped_loose q k f i || retyped_loose q k a i

retyped_redex : (q : List TypeEntry) (b : Tm) → redex (retyped q b) ≡ redex b
retyped_redex q (App f (Bound i)) = ap (λ v. nat_eq i 0 && not v) (retyped_loose q 0 f)
retyped_redex q (App f (Const x T)) = refl
retyped_redex q (App f (Free x T)) = refl
retyped_redex q (App f (Unknown x i T)) = refl
retyped_redex q (App f (Abs x T b)) = refl
retyped_redex q (App f (App g a)) = refl
retyped_redex q (Const x T) = refl
retyped_redex q (Free x T) = refl
retyped_redex q (Unknown x i T) = refl
retyped_redex q (Bound n) = refl
retyped_redex q (Abs x T b) = refl

pub retyped_normal : (q : List TypeEntry) (t : Tm) → IsNormal t → IsNormal (retyped q t)
retyped_normal q (Const x T) n = tt
retyped_normal q (Free x T) n = tt
retyped_normal q (Unknown x i T) n = tt
retyped_normal q (Bound k) n = tt
retyped_normal q (Abs x T b) n = (retyped_normal q b n.0, retyped_redex q b ∙ n.1)
retyped_normal q (App f a) n = (retyped_head q f n.0, (retyped_normal q f n.1.0, retyped_normal q a n.1.1))

pub retyped_all_normal : (q : List TypeEntry) (es : List Equation) → AllNormal es → AllNormal (map (retyped_equation q) es)
retyped_all_normal q [] h = tt
retyped_all_normal q (e ∷ es) h = ((retyped_normal q e.left h.0.0, retyped_normal q e.right h.0.1), retyped_all_normal q es h.1)

pub retyped_all_typed : (q : List TypeEntry) (es : List Equation) → AllTyped es → AllTyped (map (retyped_equation q) es)
retyped_all_typed q [] h = tt
retyped_all_typed q (e ∷ es) h = (record { typ = inst_ty q h.0.typ; left = retyped_typed q e.binders h.0.left; right = retyped_typed q e.binders h.0.right }, retyped_all_typed q es h.1)

retyped_terms_typed : (q : List TypeEntry) (es : List TermEntry) → TermsTyped es → TermsTyped (map (retyped_entry q) es)
retyped_terms_typed q [] h = tt
retyped_terms_typed q (e ∷ es) h = (record { typ = inst_ty q h.0.typ; typed = inst_typed q [] tt h.0.typed }, retyped_terms_typed q es h.1)

retyped_terms_has : (q : List TypeEntry) (k : Key) (es : List TermEntry) → some_term_has k (map (retyped_entry q) es) ≡ true → CameFrom q k (λ l. some_term_has l es)
retyped_terms_has q k [] h = absurd (cc)
retyped_terms_has q k (e ∷ es) h = go (either_true (stands k (retyped q e.term)) (some_term_has k (map (retyped_entry q) es)) h) (retyped_terms_has q k es)
  where
    go : (stands k (retyped q e.term) ≡ true) ⊎ (some_term_has k (map (retyped_entry q) es) ≡ true) → (some_term_has k (map (retyped_entry q) es) ≡ true → CameFrom q k (λ l. some_term_has l es)) → CameFrom q k (λ l. some_term_has l (e ∷ es))
    go (inl d) ih = let c = stands-retyped q k e.term d in (c.0, or_left (stands c.0 e.term) (some_term_has c.0 es) c.1, c.2)
    go (inr d) ih = let c = ih d in (c.0, or_right (stands c.0 e.term) (some_term_has c.0 es) c.1, c.2)

came_known : (sig : Sig) (next : ℕ) (q : List TypeEntry) (k l : Key) → k ≡ retyped_key q l → KnownKey sig next l → KnownKey (retyped_sig q sig) next k
came_known sig next q k l e h = subst (λ m. KnownKey (retyped_sig q sig) next m) (sym e) (ap (inst_ty q) h.0, h.1)

pub retyped_ready : (sig : Sig) (st : State) (q : List TypeEntry) → AllTyped (map (retyped_equation q) st.equations) → AllNormal st.equations → ((k : Key) → occurs k st.equations ≡ true → KnownKey sig st.next k) → TermsTyped st.terms → ((k : Key) → some_term_has k st.terms ≡ true → KnownKey sig st.next k) → Ready (retyped_sig q sig) (retyped_state q st)
retyped_ready sig st q typed normal known terms_typed terms_known = record {
  typed = typed;
  normal = retyped_all_normal q st.equations normal;
  known = λ k h. let c = occurs-retyped q k st.equations h in came_known sig st.next q k c.0 c.2 (known c.0 c.1);
  terms_typed = retyped_terms_typed q st.terms terms_typed;
  terms_known = λ k h. let c = retyped_terms_has q k st.terms h in came_known sig st.next q k c.0 c.2 (terms_known c.0 c.1);
}
