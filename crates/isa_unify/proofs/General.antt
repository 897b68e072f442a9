-- The answers of unification are right.
use Rattle.std.proofs.Common.{◌≡◌, ◌⊎◌, inl, inr, ℕ, List, [], ◌∷◌, ◌++◌, map, Bool, true, false, cond, ◌||◌, Option, Some, None, refl, sym, ap, ◌∙◌, subst}
use Rattle.std.specs.Prelude.{is_some}
use Rattle.isa_terms.specs.Types.{Ty}
use Rattle.isa_terms.specs.Terms.{Tm, Const, Free, Unknown, Bound, Abs, App}
use Rattle.isa_terms.specs.Instance.{Instance, find_term, inst_ty, inst_tm}
use Rattle.isa_terms.specs.declared.inst.TypeEntry.{TypeEntry}
use Rattle.isa_terms.specs.declared.inst.TermEntry.{TermEntry}
use Rattle.isa_terms.specs.Typed.{Typed, TUnknown}
use Rattle.isa_terms.specs.Conversion.{Conv}
use Rattle.isa_terms.specs.Instances.{KeepsTypes}
use Rattle.isa_terms.proofs.Typed.{typed_of_type}
use Rattle.isa_terms.proofs.Conv.{right_typed, norm_conv}
use Rattle.isa_terms.proofs.FreeNames.{norm_same_conv}
use Rattle.isa_terms.proofs.Instances.{inst_typed}
use Rattle.isa_terms.proofs.Heads.{one_type}
use Rattle.isa_terms.proofs.Valuations.{Values, val, AreFit, values_of, values_fit, val_inst}
use Rattle.isa_unify.specs.declared.equation.Equation.{Equation}
use Rattle.isa_unify.specs.declared.progress.Parts.{Parts}
use Rattle.isa_unify.specs.declared.progress.Parts.TheVariants.{Flexible, Clash, Into, Heads}
use Rattle.isa_unify.specs.declared.progress.State.{State}
use Rattle.isa_unify.specs.declared.progress.Answer.{Answer}
use Rattle.isa_unify.specs.declared.progress.Answer.TheVariants.{Yes, No, Outside}
use Rattle.isa_unify.specs.Descent as Ending
use Rattle.isa_unify.specs.Descent.{Step, Done, Lighter, Solved, Ends}
use Rattle.isa_unify.specs.TypeUnification.{Unifies, unify_typs}
use Rattle.isa_unify.specs.Unification.{types_in, parts_at, clash_step_at, clash_step, clashes, unify_step, unified, types_of, all_types, asked_terms, with_unknowns, becomes, start, answer_at, unify, retyped, retyped_variable, retyped_equation, retyped_state}
use Rattle.isa_unify.specs.UnifyLaw.{HasUnknowns, IsGiven, AreGiven, MakesEqual, NoIsRight}
use Rattle.isa_unify.proofs.TypesUnify.{types_most_general, types_no_unifier}
use Rattle.isa_unify.proofs.Unknowns.{Key, key, key_eq-true, stands, either_true, or_left, or_right}
use Rattle.isa_unify.proofs.Measure.{occurs, AreParts}
use Rattle.isa_unify.proofs.Assigned.{some_term_has}
use Rattle.isa_unify.proofs.Adequacy.{unified_reached, clashes_reached}
use Rattle.isa_unify.proofs.Meaning.{EachHolds, PartsHold, parts_hold}
use Rattle.isa_unify.proofs.Ready.{AllNormal, AllTyped, all_normal_append, parts_normal, retyped_typed}
use Rattle.isa_unify.proofs.Changing.{Sig, KnownKey, AllSided, Ready, TermsTyped}
use Rattle.isa_unify.proofs.Outcomes.{Outcome, retyped_holds, retyped_fit, retyped_values, retyped_sig}
use Rattle.isa_unify.proofs.Leading.{Hopeless, Leads, retyped_ready, retyped_all_normal}
use Rattle.isa_unify.proofs.Stepping.{StepView}
use Rattle.isa_unify.proofs.Fronts.{step_view}

-- ---- the end of the steps
abbrev pub AnswerView : Sig → State → Answer → Type 0
AnswerView sig st (Yes ts fs n) = Outcome sig st ts fs
AnswerView sig st No = Hopeless st
AnswerView sig st Outside = Unit {0}

led : (sig : Sig) (st new : State) (l : Leads sig st new) (a : Answer) → AnswerView l.new_sig new a → AnswerView sig st a
led sig st new l (Yes ts fs n) h = l.outcome ts fs h
led sig st new l No h = l.refuted h
led sig st new l Outside h = tt

done : (sig : Sig) (st : State) (a : Answer) → StepView sig st (Done a) → AnswerView sig st a
done sig st (Yes ts fs n) h = h
done sig st No h = h
done sig st Outside h = tt

pub answered : {a : Answer} {st : State} {k : ℕ} → Ends unify_step a st k → (sig : Sig) → Ready sig st → AnswerView sig st a
answered {a} {st} (Ending.now e) sig ready = done sig st a (subst (StepView sig st) e (step_view sig st ready))
answered {a} {st} (Ending.lighter t e h) sig ready =
    let l : Leads sig st t = subst (StepView sig st) e (step_view sig st ready) in
    led sig st t l a (answered h l.new_sig l.ready)
answered {a} {st} (Ending.solved t e h) sig ready =
    let l : Leads sig st t = subst (StepView sig st) e (step_view sig st ready) in
    led sig st t l a (answered h l.new_sig l.ready)

-- ---- clashes
hold_append : (r : List TypeEntry) (v : Values) (es fs : List Equation) → EachHolds r v es → EachHolds r v fs → EachHolds r v (es ++ fs)
hold_append r v [] fs h k = k
hold_append r v (x ∷ es) fs h k = (h.0, hold_append r v es fs h.1 k)

module _ (r : List TypeEntry) (v : Values) (fit : AreFit r v) where
  -- where the equations hold, there is no clash
  abbrev pub ClashView : Step (List Equation) Bool → Type 0
  ClashView (Done b) = b ≡ false
  ClashView (Lighter es) = AllNormal es × EachHolds r v es
  ClashView (Solved es) = AllNormal es × EachHolds r v es

  clash_at : (e : Equation) (es : List Equation) → AllNormal (e ∷ es) → EachHolds r v (e ∷ es) → (p : Parts) → parts_at e.binders e.left e.right ≡ p → ClashView (clash_step_at p es)
  clash_at e es n h Flexible q = (n.1, h.1)
  clash_at e es n h Clash q = absurd (subst (PartsHold r v) q (parts_hold r v fit e.binders e.left e.right n.0.0 n.0.1 h.0))
  clash_at e es n h (Into ps) q =
      let c : EachHolds r v ps = subst (PartsHold r v) q (parts_hold r v fit e.binders e.left e.right n.0.0 n.0.1 h.0) in
      (all_normal_append ps es (parts_normal e.binders e.left e.right ps n.0.0 n.0.1 (subst (λ x. AreParts x ps) (sym q) refl)) n.1, hold_append r v ps es c h.1)
  clash_at e es n h (Heads S T ps) q =
      let c : (inst_ty r S ≡ inst_ty r T) × EachHolds r v ps = subst (PartsHold r v) q (parts_hold r v fit e.binders e.left e.right n.0.0 n.0.1 h.0) in
      go (unify_typs ((S, T) ∷ [])) refl c.0 (all_normal_append ps es (parts_normal e.binders e.left e.right ps n.0.0 n.0.1 (subst (λ x. AreParts x ps) (sym q) refl)) n.1, hold_append r v ps es c.1 h.1)
    where
      go : (o : Option (List TypeEntry)) → unify_typs ((S, T) ∷ []) ≡ o → inst_ty r S ≡ inst_ty r T → AllNormal (ps ++ es) × EachHolds r v (ps ++ es) → ClashView (cond (is_some o) (Lighter (ps ++ es)) (Done true))
      go None p m k = absurd (types_no_unifier ((S, T) ∷ []) p r (m, tt))
      go (Some s) p m k = k

  clash_view : (es : List Equation) → AllNormal es → EachHolds r v es → ClashView (clash_step es)
  unfolding clash_step
  clash_view [] n h = refl
  clash_view (e ∷ es) n h = clash_at e es n h (parts_at e.binders e.left e.right) refl

  no_clash : {b : Bool} {es : List Equation} {k : ℕ} → Ends clash_step b es k → AllNormal es → EachHolds r v es → b ≡ false
  no_clash {b} {es} (Ending.now e) n h = subst ClashView e (clash_view es n h)
  no_clash {b} {es} (Ending.lighter t e g) n h =
      let c : AllNormal t × EachHolds r v t = subst ClashView e (clash_view es n h) in
      no_clash g c.0 c.1
  no_clash {b} {es} (Ending.solved t e g) n h =
      let c : AllNormal t × EachHolds r v t = subst ClashView e (clash_view es n h) in
      no_clash g c.0 c.1

-- ---- what is given
unknowns_known : (typ : Sig) (n : ℕ) (t : Tm) → HasUnknowns typ n t → (k : Key) → stands k t ≡ true → KnownKey typ n k
unknowns_known typ n (Const x T) h k e = absurd (cc)
unknowns_known typ n (Free x T) h k e = absurd (cc)
unknowns_known typ n (Bound i) h k e = absurd (cc)
unknowns_known typ n (Unknown x i T) h k e = subst (λ l. KnownKey typ n l) (sym (key_eq-true k (key x i T) e)) h
unknowns_known typ n (Abs x T b) h k e = unknowns_known typ n b h k e
unknowns_known typ n (App f a) h k e = go (either_true (stands k f) (stands k a) e) (λ d. unknowns_known typ n f h.0 k d) (λ d. unknowns_known typ n a h.1 k d)
  where
    go : (stands k f ≡ true) ⊎ (stands k a ≡ true) → (stands k f ≡ true → KnownKey typ n k) → (stands k a ≡ true → KnownKey typ n k) → KnownKey typ n k
    go (inl d) p q = p d
    go (inr d) p q = q d

pub given_known : (typ : Sig) (n : ℕ) (es : List Equation) → AreGiven typ n es → (k : Key) → occurs k es ≡ true → KnownKey typ n k
given_known typ n [] g k h = absurd (cc)
given_known typ n (e ∷ es) g k h = go (either_true (stands k e.left) (stands k e.right || occurs k es) h) (λ d. given_known typ n es g.1 k d)
  where
    second : (stands k e.right ≡ true) ⊎ (occurs k es ≡ true) → (occurs k es ≡ true → KnownKey typ n k) → KnownKey typ n k
    second (inl d) p = unknowns_known typ n e.right g.0.right_unknowns k d
    second (inr d) p = p d

    go : (stands k e.left ≡ true) ⊎ ((stands k e.right || occurs k es) ≡ true) → (occurs k es ≡ true → KnownKey typ n k) → KnownKey typ n k
    go (inl d) p = unknowns_known typ n e.left g.0.left_unknowns k d
    go (inr d) p = second (either_true (stands k e.right) (occurs k es) d) p

abbrev pub given_sided : (typ : Sig) (n : ℕ) (es : List Equation) → AreGiven typ n es → AllSided es
given_sided typ n [] g = tt
given_sided typ n (e ∷ es) g =
    (record { left_type = g.0.left_type; right_type = g.0.right_type; left = typed_of_type (types_in e.binders) e.left g.0.left_type g.0.left; right = typed_of_type (types_in e.binders) e.right g.0.right_type g.0.right }, given_sided typ n es g.1)

pub given_normal : (typ : Sig) (n : ℕ) (es : List Equation) → AreGiven typ n es → AllNormal es
given_normal typ n [] g = tt
given_normal typ n (e ∷ es) g = ((g.0.left_normal, g.0.right_normal), given_normal typ n es g.1)

-- the pairs of types
given_types : (typ : Sig) (n : ℕ) (e : Equation) (es : List Equation) (g : IsGiven typ n e) → all_types (e ∷ es) ≡ (g.left_type, g.right_type) ∷ all_types es
given_types typ n e es g = λ i. types_of (g.left i) (g.right i) (all_types es)

-- the equations are well typed once their types are unified
given_typed : (typ : Sig) (n : ℕ) (s : List TypeEntry) (es : List Equation) → AreGiven typ n es → Unifies s (all_types es) → AllTyped (map (retyped_equation s) es)
given_typed typ n s [] g u = tt
given_typed typ n s (e ∷ es) g u =
    let d = given_sided typ n (e ∷ es) g in
    let w : Unifies s ((g.0.left_type, g.0.right_type) ∷ all_types es) = subst (Unifies s) (given_types typ n e es g.0) u in (
      record {
        typ = inst_ty s g.0.left_type;
        left = retyped_typed s e.binders d.0.left;
        right = subst (λ T. Typed (types_in (map (retyped_variable s) e.binders)) (retyped s e.right) T) (sym w.0) (retyped_typed s e.binders d.0.right);
      },
      given_typed typ n s es g.1 w.1,
    )

-- ---- instances by entries
pub solution_holds : (typ : Sig) (n : ℕ) (r : Instance) → KeepsTypes r → (es : List Equation) → AreGiven typ n es → MakesEqual r es → EachHolds r.types (values_of r.types r.terms) es × Unifies r.types (all_types es)
solution_holds typ n r k [] g m = (tt, tt)
solution_holds typ n r k (e ∷ es) g m =
    let d = given_sided typ n (e ∷ es) g in
    let left = inst_typed r.types r.terms k d.0.left in
    let right = inst_typed r.types r.terms k d.0.right in
    let o : inst_ty r.types g.0.left_type ≡ inst_ty r.types g.0.right_type = one_type (right_typed (norm_conv left)) (right_typed (norm_conv right)) m.0 in
    let right' = subst (λ T. Typed (map (inst_ty r.types) (types_in e.binders)) (inst_tm r.types r.terms e.right) T) (sym o) right in
    let c = norm_same_conv left right' m.0 in
    let G = map (inst_ty r.types) (types_in e.binders) in
    let U = inst_ty r.types g.0.left_type in
    let v = values_of r.types r.terms in
    let c' : Conv G U (val r.types v e.left) (val r.types v e.right) = subst (λ t. Conv G U t (val r.types v e.right)) (sym (val_inst r.types r.terms e.left)) (subst (λ t. Conv G U (inst_tm r.types r.terms e.left) t) (sym (val_inst r.types r.terms e.right)) c) in
    let rest = solution_holds typ n r k es g.1 m.1 in
    ((record { typ = U; equal = c' }, rest.0), subst (Unifies r.types) (sym (given_types typ n e es g.0)) (o, rest.1))

-- ---- the start
asked_has : (k : Key) (es : List TermEntry) (t : Tm) → some_term_has k (with_unknowns es t) ≡ true → (some_term_has k es ≡ true) ⊎ (stands k t ≡ true)
asked_has k es (Const x T) h = inl h
asked_has k es (Free x T) h = inl h
asked_has k es (Bound n) h = inl h
asked_has k es (Abs x T b) h = asked_has k es b h
asked_has k es (App f a) h = go (asked_has k (with_unknowns es f) a h) (λ d. asked_has k es f d)
  where
    first : (some_term_has k es ≡ true) ⊎ (stands k f ≡ true) → (some_term_has k es ≡ true) ⊎ ((stands k f || stands k a) ≡ true)
    first (inl d) = inl d
    first (inr d) = inr (or_left (stands k f) (stands k a) d)

    go : (some_term_has k (with_unknowns es f) ≡ true) ⊎ (stands k a ≡ true) → (some_term_has k (with_unknowns es f) ≡ true → (some_term_has k es ≡ true) ⊎ (stands k f ≡ true)) → (some_term_has k es ≡ true) ⊎ ((stands k f || stands k a) ≡ true)
    go (inl d) p = first (p d)
    go (inr d) p = inr (or_right (stands k f) (stands k a) d)
asked_has k es (Unknown x i T) h = go (is_some (find_term x i T es)) h
  where
    last : (fs : List TermEntry) → some_term_has k (fs ++ becomes x i T (Unknown x i T) ∷ []) ≡ true → (some_term_has k fs ≡ true) ⊎ (stands k (Unknown x i T) ≡ true)
    last [] d = inr (only (stands k (Unknown x i T)) d)
      where
        only : (b : Bool) → (b || false) ≡ true → b ≡ true
        only true e = refl
        only false e = e
    last (f ∷ fs) d = at (either_true (stands k f.term) (some_term_has k (fs ++ becomes x i T (Unknown x i T) ∷ [])) d) (λ c. last fs c)
      where
        at : (stands k f.term ≡ true) ⊎ (some_term_has k (fs ++ becomes x i T (Unknown x i T) ∷ []) ≡ true) → (some_term_has k (fs ++ becomes x i T (Unknown x i T) ∷ []) ≡ true → (some_term_has k fs ≡ true) ⊎ (stands k (Unknown x i T) ≡ true)) → (some_term_has k (f ∷ fs) ≡ true) ⊎ (stands k (Unknown x i T) ≡ true)
        at (inl c) p = inl (or_left (stands k f.term) (some_term_has k fs) c)
        at (inr c) p = inner (p c)
          where
            inner : (some_term_has k fs ≡ true) ⊎ (stands k (Unknown x i T) ≡ true) → (some_term_has k (f ∷ fs) ≡ true) ⊎ (stands k (Unknown x i T) ≡ true)
            inner (inl b) = inl (or_right (stands k f.term) (some_term_has k fs) b)
            inner (inr b) = inr b

    go : (b : Bool) → some_term_has k (cond b es (es ++ becomes x i T (Unknown x i T) ∷ [])) ≡ true → (some_term_has k es ≡ true) ⊎ (stands k (Unknown x i T) ≡ true)
    go true d = inl d
    go false d = last es d

asked_typed : (es : List TermEntry) (t : Tm) → TermsTyped es → TermsTyped (with_unknowns es t)
asked_typed es (Const x T) h = h
asked_typed es (Free x T) h = h
asked_typed es (Bound n) h = h
asked_typed es (Abs x T b) h = asked_typed es b h
asked_typed es (App f a) h = asked_typed (with_unknowns es f) a (asked_typed es f h)
asked_typed es (Unknown x i T) h = go (is_some (find_term x i T es))
  where
    last : (fs : List TermEntry) → TermsTyped fs → TermsTyped (fs ++ becomes x i T (Unknown x i T) ∷ [])
    last [] k = (record { typ = T; typed = TUnknown }, tt)
    last (f ∷ fs) k = (k.0, last fs k.1)

    go : (b : Bool) → TermsTyped (cond b es (es ++ becomes x i T (Unknown x i T) ∷ []))
    go true = h
    go false = last es h

all_asked_typed : (ts : List TermEntry) (es : List Equation) → TermsTyped ts → TermsTyped (asked_terms ts es)
all_asked_typed ts [] h = h
all_asked_typed ts (e ∷ es) h = all_asked_typed (with_unknowns (with_unknowns ts e.left) e.right) es (asked_typed (with_unknowns ts e.left) e.right (asked_typed ts e.left h))

all_asked_known : (typ : Sig) (n : ℕ) (ts : List TermEntry) (es : List Equation) → AreGiven typ n es → ((k : Key) → some_term_has k ts ≡ true → KnownKey typ n k) → (k : Key) → some_term_has k (asked_terms ts es) ≡ true → KnownKey typ n k
all_asked_known typ n ts [] g h k e = h k e
all_asked_known typ n ts (e ∷ es) g h k d = all_asked_known typ n (with_unknowns (with_unknowns ts e.left) e.right) es g.1 (λ l c. second l (asked_has l (with_unknowns ts e.left) e.right c)) k d
  where
    first : (l : Key) → (some_term_has l ts ≡ true) ⊎ (stands l e.left ≡ true) → KnownKey typ n l
    first l (inl c) = h l c
    first l (inr c) = unknowns_known typ n e.left g.0.left_unknowns l c

    second : (l : Key) → (some_term_has l (with_unknowns ts e.left) ≡ true) ⊎ (stands l e.right ≡ true) → KnownKey typ n l
    second l (inl c) = first l (asked_has l ts e.left c)
    second l (inr c) = unknowns_known typ n e.right g.0.right_unknowns l c

pub start_ready : (typ : Sig) (n : ℕ) (es : List Equation) → AreGiven typ n es → (s : List TypeEntry) → Unifies s (all_types es) → Ready (retyped_sig s typ) (retyped_state s (start es n))
start_ready typ n es g s u =
    retyped_ready typ (start es n) s (given_typed typ n s es g u) (given_normal typ n es g) (given_known typ n es g) (all_asked_typed [] es tt) (all_asked_known typ n [] es g (λ k h. absurd (cc)))

-- ---- the law for No
pub no_is_right : NoIsRight
unfolding unify
no_is_right typ n es g e r k m = go (unify_typs (all_types es)) refl e
  where
    h : EachHolds r.types (values_of r.types r.terms) es × Unifies r.types (all_types es)
    h = solution_holds typ n r k es g m

    fit : AreFit r.types (values_of r.types r.terms)
    fit = values_fit r.types r.terms k

    holds : (s : List TypeEntry) → unify_typs (all_types es) ≡ Some s → (same : (T : Ty) → inst_ty r.types (inst_ty s T) ≡ inst_ty r.types T) → EachHolds r.types (retyped_values typ s (values_of r.types r.terms)) (map (retyped_equation s) es)
    holds s p same = retyped_holds typ (start es n) (given_sided typ n es g) (given_known typ n es g) s r.types (values_of r.types r.terms) fit same h.0

    at : (s : List TypeEntry) → unify_typs (all_types es) ≡ Some s → (b : Bool) → clashes (map (retyped_equation s) es) ≡ b → cond b No (unified (retyped_state s (start es n))) ≡ No → ⊥
    at s p b c q =
        let mg = types_most_general (all_types es) s p in
        let same : (T : Ty) → inst_ty r.types (inst_ty s T) ≡ inst_ty r.types T = λ T. mg.general r.types h.1 T in
        let w = retyped_values typ s (values_of r.types r.terms) in
        let f = retyped_fit typ s r.types (values_of r.types r.terms) fit same in
        let hold = holds s p same in
        let normal = retyped_all_normal s es (given_normal typ n es g) in
        let false_there : clashes (map (retyped_equation s) es) ≡ false = no_clash r.types w f (clashes_reached (map (retyped_equation s) es)).1 normal hold in
        let no : unified (retyped_state s (start es n)) ≡ No = sym (ap (λ x. cond x No (unified (retyped_state s (start es n)))) (sym c ∙ false_there)) ∙ q in
        let hopeless : Hopeless (retyped_state s (start es n)) = subst (AnswerView (retyped_sig s typ) (retyped_state s (start es n))) no (answered (unified_reached (retyped_state s (start es n))).1 (retyped_sig s typ) (start_ready typ n es g s mg.unifies)) in
        hopeless r.types w f hold

    go : (o : Option (List TypeEntry)) → unify_typs (all_types es) ≡ o → answer_at es n o ≡ No → ⊥
    go None p q = types_no_unifier (all_types es) p r.types h.1
    go (Some s) p q = at s p (clashes (map (retyped_equation s) es)) refl q
