-- What unification leaves: how far the numbers of new unknowns went, and at which types the unknowns of the answer stand.
use Rattle.std.proofs.Common.{◌≡◌, ◌≢◌, ◌⊎◌, inl, inr, ℕ, ◌+◌, ◌-◌, ◌<◌, ◌≤◌, List, [], ◌∷◌, ◌++◌, map, filter, length, Bool, true, false, cond, ◌&&◌, ◌||◌, nat_eq, nat_lt, refl, sym, ap, subst, ◌∙◌, Option, Some, None, Result, Ok, Err, arith}
use Rattle.std.specs.declared.alloc.AllocError.{AllocError}
use Rattle.std.proofs.lemmas.Bool.Decides.{nat_tests}
use Rattle.isa_terms.specs.Types.{Ty, TyFixed}
use Rattle.isa_terms.specs.Terms.{Tm, Const, Free, Unknown, Bound, Abs, App}
use Rattle.isa_terms.specs.Equal.{name_eq, ty_eq}
use Rattle.isa_terms.specs.Instance.{inst_ty}
use Rattle.isa_terms.specs.Instances.{types_after}
use Rattle.isa_terms.specs.declared.inst.TypeEntry.{TypeEntry}
use Rattle.isa_terms.specs.declared.inst.TermEntry.{TermEntry}
use Rattle.isa_terms.proofs.Composing.{after_ty}
use Rattle.isa_unify.specs.declared.equation.Equation.{Equation}
use Rattle.isa_unify.specs.declared.equation.Variable.{Variable}
use Rattle.isa_unify.specs.declared.progress.Parts.{Parts}
use Rattle.isa_unify.specs.declared.progress.Parts.TheVariants.{Flexible, Clash, Into, Heads}
use Rattle.isa_unify.specs.declared.progress.Verdict.{Verdict}
use Rattle.isa_unify.specs.declared.progress.Verdict.TheVariants.{Fine, Refused, Strays, Prunes}
use Rattle.isa_unify.specs.declared.progress.State.{State}
use Rattle.isa_unify.specs.declared.progress.Answer.{Answer}
use Rattle.isa_unify.specs.declared.progress.Answer.TheVariants.{Yes, No, Outside}
use Rattle.isa_unify.specs.declared.unification.Unified.{Unified}
use Rattle.isa_unify.specs.declared.unification.Unified.TheVariants as call
use Rattle.isa_unify.specs.Descent as Ending
use Rattle.isa_unify.specs.Descent.{Done, Lighter, Solved, Ends}
use Rattle.isa_unify.specs.TypeUnification.{unify_typs, entries_under}
use Rattle.isa_unify.specs.Spines.{head_of, args_of, has_number, distinct_bounds}
use Rattle.isa_unify.specs.Matching.{has_unknown}
use Rattle.isa_unify.specs.Calls.{Answers, MayFollow}
use Rattle.isa_unify.specs.UnifyLaw.{HasUnknowns, IsGiven, AreGiven, equations_have, entries_have, GoesOn}
use Rattle.isa_unify.specs.Unification.{parts_at, clashes, abstracted, range_behind, over, first_place, filled_state, retyped_equation, retyped_state, UnifyStep, becomes, renewed, both_become, after_new, with_first, with_new, solve_at, solve, agreeing, solve_same, solve_two, on_pattern, flexible_step, after_types, front_step, unify_step, unified, asked_types, start, answer_at, all_types, unify}
use Rattle.isa_unify.proofs.Tests.{key_self, key_true}
use Rattle.isa_unify.proofs.Unknowns.{Key, key, key_eq, key_eq-true, key_eq_self, stands, either_true, or_left, or_right}
use Rattle.isa_unify.proofs.Measure.{occurs}
use Rattle.isa_unify.proofs.Assigned.{some_term_has}
use Rattle.isa_unify.proofs.TypeInstances.{inst_nothing}
use Rattle.isa_unify.proofs.TypesUnify.{types_most_general}
use Rattle.isa_unify.proofs.Adequacy.{unified_reached}
use Rattle.isa_unify.proofs.Changing.{Sig, KnownKey, Ready}
use Rattle.isa_unify.proofs.Outcomes.{retyped_sig, entries_nothing, entries_twice}
use Rattle.isa_unify.proofs.Leading.{Leads}
use Rattle.isa_unify.proofs.Stepping.{StepView}
use Rattle.isa_unify.proofs.Fronts.{step_view}
use Rattle.isa_unify.proofs.General.{start_ready}
use Rattle.isa_unify.proofs.Asked.{HasTypes, TypesIn, TypesInEach, AreThemselves, under_ty, asks_each}

-- ---- the numbers of new unknowns
-- numbers are taken from those that may still come
abbrev Grows : State → State → Type 0
Grows st new = (st.next ≤ new.next) × (new.next + new.left ≡ st.next + st.left)

abbrev FollowsAnswer : State → Answer → Type 0
FollowsAnswer st (Yes ts fs n) = (ts ≡ st.types) × (fs ≡ st.terms) × (n ≡ st.next)
FollowsAnswer st No = Unit {0}
FollowsAnswer st Outside = Unit {0}

abbrev Follows : State → UnifyStep → Type 0
Follows st (Done a) = FollowsAnswer st a
Follows st (Lighter t) = Grows st t
Follows st (Solved t) = Grows st t

stays : (st : State) → Grows st st
stays st = (omega arith, refl)

with_new_keeps : (st : State) (f : ℕ → State → UnifyStep) → (nat_eq st.left 0 ≡ false → (new : ℕ) → Follows st (f new (after_new st))) → Follows st (with_new st f)
with_new_keeps st f h = go (nat_eq st.left 0) refl
  where
    go : (c : Bool) → nat_eq st.left 0 ≡ c → Follows st (cond c (Done Outside) (f st.next (after_new st)))
    go true e = tt
    go false e = h e st.next

pattern_keeps : (st : State) (o : Option (List ℕ)) (f : List ℕ → UnifyStep) → ((xs : List ℕ) → Follows st (f xs)) → Follows st (on_pattern o f)
pattern_keeps st None f h = tt
pattern_keeps st (Some xs) f h = h xs

module _ (st : State) (e : Equation) where
  fine_keeps : (es : List TermEntry) → Follows st (Solved (filled_state es st))
  fine_keeps es = stays st

  renewed_keeps : nat_eq st.left 0 ≡ false → Grows st (after_new st)
  renewed_keeps h = let n : st.left ≢ 0 = grind (arith, nat_tests) in (omega arith, omega arith)

  solved_keeps : (f : List ℕ) (k : ℕ) (S : Ty) (xs : List ℕ) (t : Tm) (v : Verdict) → Follows st (solve_at st e f k S xs t v)
  solved_keeps f k S xs t Fine = fine_keeps (becomes f k S (abstracted e.binders xs t) ∷ [])
  solved_keeps f k S xs t Refused = tt
  solved_keeps f k S xs t Strays = tt
  solved_keeps f k S xs t (Prunes x m T cs ys kept) = with_new_keeps st (λ new st'. Solved (renewed (with_first e st') cs x m T ys new kept))
      (λ h new. renewed_keeps h)

  solve_keeps : (f : List ℕ) (k : ℕ) (S : Ty) (xs : List ℕ) (t : Tm) → Follows st (solve st e f k S xs t)
  solve_keeps f k S xs t = solved_keeps f k S xs t (first_place f k xs 0 e.binders t)

  same_keeps : (f : List ℕ) (k : ℕ) (S : Ty) (xs ys : List ℕ) (c : Bool) → Follows st (cond c (Lighter st) (with_new st (λ new st'. Solved (renewed st' e.binders f k S xs new (agreeing xs ys)))))
  same_keeps f k S xs ys true = stays st
  same_keeps f k S xs ys false = with_new_keeps st (λ new st'. Solved (renewed st' e.binders f k S xs new (agreeing xs ys)))
      (λ h new. renewed_keeps h)

  two_keeps : (f : List ℕ) (k : ℕ) (S : Ty) (xs : List ℕ) (g : List ℕ) (m : ℕ) (T : Ty) (ys : List ℕ) → Follows st (solve_two st e f k S xs g m T ys)
  two_keeps f k S xs g m T ys = with_new_keeps st (λ new st'. Solved (both_become st' e f k S xs g m T ys (over e.binders f new (filter (has_number ys) xs) (range_behind xs S))))
      (λ h new. renewed_keeps h)

  both_keep : (f : List ℕ) (k : ℕ) (S : Ty) (xs : List ℕ) (g : List ℕ) (m : ℕ) (T : Ty) (ys : List ℕ) (c : Bool) → Follows st (cond c (solve_same st e f k S xs ys) (solve_two st e f k S xs g m T ys))
  both_keep f k S xs g m T ys true = same_keeps f k S xs ys (nat_eq (length (agreeing xs ys)) (length xs))
  both_keep f k S xs g m T ys false = two_keeps f k S xs g m T ys

  flexible_keeps : (t u : Tm) → Follows st (flexible_step st e t u)
  flexible_keeps (Const x1 T1) (Const x2 T2) = tt
  flexible_keeps (Const x1 T1) (Free x2 T2) = tt
  flexible_keeps (Const x1 T1) (Unknown x2 n2 T2) = pattern_keeps st (distinct_bounds (args_of e.right)) _ (λ ys. solve_keeps x2 n2 T2 ys e.left)
  flexible_keeps (Const x1 T1) (Bound n2) = tt
  flexible_keeps (Const x1 T1) (Abs x2 T2 t2) = tt
  flexible_keeps (Const x1 T1) (App f2 t2) = tt
  flexible_keeps (Free x1 T1) (Const x2 T2) = tt
  flexible_keeps (Free x1 T1) (Free x2 T2) = tt
  flexible_keeps (Free x1 T1) (Unknown x2 n2 T2) = pattern_keeps st (distinct_bounds (args_of e.right)) _ (λ ys. solve_keeps x2 n2 T2 ys e.left)
  flexible_keeps (Free x1 T1) (Bound n2) = tt
  flexible_keeps (Free x1 T1) (Abs x2 T2 t2) = tt
  flexible_keeps (Free x1 T1) (App f2 t2) = tt
  flexible_keeps (Unknown x1 n1 T1) (Const x2 T2) = pattern_keeps st (distinct_bounds (args_of e.left)) _ (λ xs. solve_keeps x1 n1 T1 xs e.right)
  flexible_keeps (Unknown x1 n1 T1) (Free x2 T2) = pattern_keeps st (distinct_bounds (args_of e.left)) _ (λ xs. solve_keeps x1 n1 T1 xs e.right)
  flexible_keeps (Unknown x1 n1 T1) (Unknown x2 n2 T2) = pattern_keeps st (distinct_bounds (args_of e.left)) _ (λ xs. pattern_keeps st (distinct_bounds (args_of e.right)) _ (λ ys. both_keep x1 n1 T1 xs x2 n2 T2 ys (name_eq x1 x2 && nat_eq n1 n2)))
  flexible_keeps (Unknown x1 n1 T1) (Bound n2) = pattern_keeps st (distinct_bounds (args_of e.left)) _ (λ xs. solve_keeps x1 n1 T1 xs e.right)
  flexible_keeps (Unknown x1 n1 T1) (Abs x2 T2 t2) = pattern_keeps st (distinct_bounds (args_of e.left)) _ (λ xs. solve_keeps x1 n1 T1 xs e.right)
  flexible_keeps (Unknown x1 n1 T1) (App f2 t2) = pattern_keeps st (distinct_bounds (args_of e.left)) _ (λ xs. solve_keeps x1 n1 T1 xs e.right)
  flexible_keeps (Bound n1) (Const x2 T2) = tt
  flexible_keeps (Bound n1) (Free x2 T2) = tt
  flexible_keeps (Bound n1) (Unknown x2 n2 T2) = pattern_keeps st (distinct_bounds (args_of e.right)) _ (λ ys. solve_keeps x2 n2 T2 ys e.left)
  flexible_keeps (Bound n1) (Bound n2) = tt
  flexible_keeps (Bound n1) (Abs x2 T2 t2) = tt
  flexible_keeps (Bound n1) (App f2 t2) = tt
  flexible_keeps (Abs x1 T1 t1) (Const x2 T2) = tt
  flexible_keeps (Abs x1 T1 t1) (Free x2 T2) = tt
  flexible_keeps (Abs x1 T1 t1) (Unknown x2 n2 T2) = pattern_keeps st (distinct_bounds (args_of e.right)) _ (λ ys. solve_keeps x2 n2 T2 ys e.left)
  flexible_keeps (Abs x1 T1 t1) (Bound n2) = tt
  flexible_keeps (Abs x1 T1 t1) (Abs x2 T2 t2) = tt
  flexible_keeps (Abs x1 T1 t1) (App f2 t2) = tt
  flexible_keeps (App f1 t1) (Const x2 T2) = tt
  flexible_keeps (App f1 t1) (Free x2 T2) = tt
  flexible_keeps (App f1 t1) (Unknown x2 n2 T2) = pattern_keeps st (distinct_bounds (args_of e.right)) _ (λ ys. solve_keeps x2 n2 T2 ys e.left)
  flexible_keeps (App f1 t1) (Bound n2) = tt
  flexible_keeps (App f1 t1) (Abs x2 T2 t2) = tt
  flexible_keeps (App f1 t1) (App f2 t2) = tt

  types_keep : (parts : List Equation) (q : Option (List TypeEntry)) → Follows st (after_types (record st { equations = parts ++ st.equations }) q)
  types_keep parts None = tt
  types_keep parts (Some s) = stays st

  front_keeps : (r : Parts) → Follows st (front_step st e r)
  front_keeps Clash = tt
  front_keeps (Into parts) = stays st
  front_keeps (Heads S T parts) = types_keep parts (unify_typs ((S, T) ∷ []))
  front_keeps Flexible = flexible_keeps (head_of e.left) (head_of e.right)

step_follows : (st : State) → Follows st (unify_step st)
unfolding unify_step
step_follows st = go st.equations
  where
    go : (eqs : List Equation) → Follows st (elim eqs [
      | [] ↦ Done (Yes st.types st.terms st.next)
      | e ∷ es ↦ front_step (record st { equations = es }) e (parts_at e.binders e.left e.right)
    ])
    go [] = (refl, refl, refl)
    go (e ∷ es) = front_keeps (record st { equations = es }) e (parts_at e.binders e.left e.right)

-- ---- whether an unknown stands in terms
stand_same : (x : List ℕ) (i : ℕ) (T : Ty) (t : Tm) → has_unknown x i T t ≡ stands (key x i T) t
stand_same x i T (Const c U) = refl
stand_same x i T (Free c U) = refl
stand_same x i T (Unknown y j U) = refl
stand_same x i T (Bound n) = refl
stand_same x i T (Abs c U b) = stand_same x i T b
stand_same x i T (App f a) = λ l. stand_same x i T f l || stand_same x i T a l

entries_same : (x : List ℕ) (i : ℕ) (T : Ty) (fs : List TermEntry) → entries_have x i T fs ≡ some_term_has (key x i T) fs
entries_same x i T [] = refl
entries_same x i T (f ∷ fs) = λ l. stand_same x i T f.term l || entries_same x i T fs l

entries_stand : (x : List ℕ) (i : ℕ) (T : Ty) (fs : List TermEntry) → entries_have x i T fs ≡ true → some_term_has (key x i T) fs ≡ true
entries_stand x i T fs h = sym (entries_same x i T fs) ∙ h

equations_same : (x : List ℕ) (i : ℕ) (T : Ty) (es : List Equation) → equations_have x i T es ≡ occurs (key x i T) es
equations_same x i T [] = refl
equations_same x i T (e ∷ es) = λ l. stand_same x i T e.left l || (stand_same x i T e.right l || equations_same x i T es l)

stand_equations : (x : List ℕ) (i : ℕ) (T : Ty) (es : List Equation) → occurs (key x i T) es ≡ true → equations_have x i T es ≡ true
stand_equations x i T es h = equations_same x i T es ∙ h

key_same : (k l : Key) → key_eq k l ≡ true → k ≡ l
key_same k l h = key_eq-true k l h

-- ---- the end of the steps
-- the types of all unknowns at the end, as what the steps make of the types at the start
record Final (sig : Sig) (st : State) (ts : List TypeEntry) (fs : List TermEntry) (n : ℕ) : Type 0 where
  final : Sig
  by : List TypeEntry
  by_sig : (x : List ℕ) (i : ℕ) → i < st.next → final x i ≡ inst_ty by (sig x i)
  by_types : ts ≡ entries_under by st.types
  known : (k : Key) → some_term_has k fs ≡ true → KnownKey final n k
  from : st.next ≤ n
  to : n ≤ st.next + st.left

abbrev FinalView : Sig → State → Answer → Type 0
FinalView sig st (Yes ts fs n) = Final sig st ts fs n
FinalView sig st No = Unit {0}
FinalView sig st Outside = Unit {0}

at_end : (sig : Sig) (st : State) (a : Answer) → Ready sig st → FollowsAnswer st a → FinalView sig st a
at_end sig st (Yes ts fs n) ready f = record {
  final = sig;
  by = [];
  by_sig = λ x i h. sym (inst_nothing (sig x i));
  by_types = f.0 ∙ entries_nothing st.types;
  known = λ k h. subst (λ m. KnownKey sig m k) (sym f.2) (ready.terms_known k (ap (some_term_has k) (sym f.1) ∙ h));
  from = omega (arith, f.2);
  to = omega (arith, f.2);
}
at_end sig st No ready f = tt
at_end sig st Outside ready f = tt

led : (sig : Sig) (st new : State) (l : Leads sig st new) → Grows st new → (a : Answer) → FinalView l.new_sig new a → FinalView sig st a
led sig st new l g (Yes ts fs n) h = record {
  final = h.final;
  by = types_after l.by h.by;
  by_sig = λ x i k. h.by_sig x i (omega (arith, k, g.0)) ∙ ap (inst_ty h.by) (l.by_sig x i k) ∙ sym (after_ty l.by h.by (sig x i));
  by_types = h.by_types ∙ ap (entries_under h.by) l.by_types ∙ entries_twice l.by h.by st.types;
  known = h.known;
  from = omega (arith, g.0, h.from);
  to = omega (arith, g.1, h.to);
}
led sig st new l g No h = tt
led sig st new l g Outside h = tt

ended : {a : Answer} {st : State} {k : ℕ} → Ends unify_step a st k → (sig : Sig) → Ready sig st → FinalView sig st a
ended {a} {st} (Ending.now e) sig ready = at_end sig st a ready (subst (Follows st) e (step_follows st))
ended {a} {st} (Ending.lighter t e h) sig ready =
    let l : Leads sig st t = subst (StepView sig st) e (step_view sig st ready) in
    led sig st t l (subst (Follows st) e (step_follows st)) a (ended h l.new_sig l.ready)
ended {a} {st} (Ending.solved t e h) sig ready =
    let l : Leads sig st t = subst (StepView sig st) e (step_view sig st ready) in
    led sig st t l (subst (Follows st) e (step_follows st)) a (ended h l.new_sig l.ready)

-- ---- the whole
record Whole (typ : Sig) (n : ℕ) (es : List Equation) (ts : List TypeEntry) (fs : List TermEntry) (m : ℕ) : Type 0 where
  final : Sig
  by : List TypeEntry
  by_sig : (x : List ℕ) (i : ℕ) → i < n → final x i ≡ inst_ty by (typ x i)
  by_types : ts ≡ entries_under by (asked_types [] es)
  known : (k : Key) → some_term_has k fs ≡ true → KnownKey final m k
  from : n ≤ m
  to : m ≤ n + 1000000

whole : (typ : Sig) (n : ℕ) (es : List Equation) → AreGiven typ n es → (ts : List TypeEntry) (fs : List TermEntry) (m : ℕ) → unify es n ≡ Yes ts fs m → Whole typ n es ts fs m
unfolding unify
whole typ n es g ts fs m e = go (unify_typs (all_types es)) refl e
  where
    of : (s : List TypeEntry) → Final (retyped_sig s typ) (retyped_state s (start es n)) ts fs m → Whole typ n es ts fs m
    of s h = record {
      final = h.final;
      by = types_after s h.by;
      by_sig = λ x i k. h.by_sig x i k ∙ sym (after_ty s h.by (typ x i));
      by_types = h.by_types ∙ entries_twice s h.by (asked_types [] es);
      known = h.known;
      from = h.from;
      to = h.to;
    }

    at : (s : List TypeEntry) → unify_typs (all_types es) ≡ Some s → (b : Bool) → cond b No (unified (retyped_state s (start es n))) ≡ Yes ts fs m → Whole typ n es ts fs m
    at s p true q = absurd (cc)
    at s p false q =
        let mg = types_most_general (all_types es) s p in
        of s (subst (FinalView (retyped_sig s typ) (retyped_state s (start es n))) q (ended (unified_reached (retyped_state s (start es n))).1 (retyped_sig s typ) (start_ready typ n es g s mg.unifies)))

    go : (o : Option (List TypeEntry)) → unify_typs (all_types es) ≡ o → answer_at es n o ≡ Yes ts fs m → Whole typ n es ts fs m
    go None p q = absurd (cc)
    go (Some s) p q = at s p (clashes (map (retyped_equation s) es)) q

-- ---- an unknown that stands in no equation may be given any type
abbrev with_type : Sig → List ℕ → ℕ → Ty → Sig
with_type typ x i T y j = cond (name_eq y x && nat_eq j i) T (typ y j)

has_with : (typ : Sig) (n : ℕ) (x : List ℕ) (i : ℕ) (T : Ty) (t : Tm) → HasUnknowns typ n t → stands (key x i (typ x i)) t ≡ false → HasUnknowns (with_type typ x i T) n t
has_with typ n x i T (Const c U) h s = tt
has_with typ n x i T (Free c U) h s = tt
has_with typ n x i T (Bound k) h s = tt
has_with typ n x i T (Abs c U b) h s = has_with typ n x i T b h s
has_with typ n x i T (App f a) h s = let p = neither (stands (key x i (typ x i)) f) (stands (key x i (typ x i)) a) s in (has_with typ n x i T f h.0 p.0, has_with typ n x i T a h.1 p.1)
  where
    neither : (b c : Bool) → (b || c) ≡ false → (b ≡ false) × (c ≡ false)
    neither true c h = absurd (cc)
    neither false c h = (refl, h)
has_with typ n x i T (Unknown y j U) h s = (go (name_eq y x && nat_eq j i) refl, h.1)
  where
    go : (b : Bool) → (name_eq y x && nat_eq j i) ≡ b → U ≡ cond b T (typ y j)
    go false e = h.0
    go true e =
        let p = key_true y j x i e in
        let same : key x i (typ x i) ≡ key y j U = λ l. key (sym p.0 l) (sym p.1 l) ((sym (h.0 ∙ λ m. typ (p.0 m) (p.1 m))) l) in
        let f : true ≡ false = sym (key_eq_self (key x i (typ x i))) ∙ ap (key_eq (key x i (typ x i))) same ∙ s in
        absurd (cc)

given_with : (typ : Sig) (n : ℕ) (x : List ℕ) (i : ℕ) (T : Ty) (es : List Equation) → AreGiven typ n es → occurs (key x i (typ x i)) es ≡ false → AreGiven (with_type typ x i T) n es
given_with typ n x i T [] g s = tt
given_with typ n x i T (e ∷ es) g s =
    let p = neither (stands (key x i (typ x i)) e.left) (stands (key x i (typ x i)) e.right || occurs (key x i (typ x i)) es) s in
    let q = neither (stands (key x i (typ x i)) e.right) (occurs (key x i (typ x i)) es) p.1 in (
      record {
        left_type = g.0.left_type;
        right_type = g.0.right_type;
        left = g.0.left;
        right = g.0.right;
        left_normal = g.0.left_normal;
        right_normal = g.0.right_normal;
        left_unknowns = has_with typ n x i T e.left g.0.left_unknowns p.0;
        right_unknowns = has_with typ n x i T e.right g.0.right_unknowns q.0;
      },
      given_with typ n x i T es g.1 q.1,
    )
  where
    neither : (b c : Bool) → (b || c) ≡ false → (b ≡ false) × (c ≡ false)
    neither true c h = absurd (cc)
    neither false c h = (refl, h)

module _ (typ : Sig) (n : ℕ) (es : List Equation) (g : AreGiven typ n es) (ts : List TypeEntry) (fs : List TermEntry) (m : ℕ) (e : unify es n ≡ Yes ts fs m) where
  marked : (k : Key) → some_term_has k fs ≡ true → k.number < n → occurs (key k.name k.number (typ k.name k.number)) es ≡ false → (a : List ℕ) → k.typ ≡ TyFixed a
  marked k h l s a =
      let w = whole (with_type typ k.name k.number (TyFixed a)) n es (given_with typ n k.name k.number (TyFixed a) es g s) ts fs m e in
      (w.known k h).0 ∙ w.by_sig k.name k.number l ∙ ap (inst_ty w.by) (ap (λ b. cond b (TyFixed a) (typ k.name k.number)) (key_self k.name k.number))

  -- an old unknown of the answer stands in an equation
  old_occurs : (k : Key) → some_term_has k fs ≡ true → k.number < n → occurs (key k.name k.number (typ k.name k.number)) es ≡ true
  old_occurs k h l = go (occurs (key k.name k.number (typ k.name k.number)) es) refl
    where
      go : (b : Bool) → occurs (key k.name k.number (typ k.name k.number)) es ≡ b → b ≡ true
      go true s = refl
      go false s = let c : TyFixed [] ≡ TyFixed (0 ∷ []) = sym (marked k h l s []) ∙ marked k h l s (0 ∷ []) in absurd (cc)

  -- and its type is asked for
  term_types : (A : List TypeEntry) (k : Key) (t : Tm) → stands k t ≡ true → TypesIn A t → HasTypes A k.typ
  term_types A k (Const c U) h i = absurd (cc)
  term_types A k (Free c U) h i = absurd (cc)
  term_types A k (Bound j) h i = absurd (cc)
  term_types A k (Abs c U b) h i = term_types A k b h i.1
  term_types A k (App f a) h i = go (either_true (stands k f) (stands k a) h) (λ d. term_types A k f d i.0) (λ d. term_types A k a d i.1)
    where
      go : (stands k f ≡ true) ⊎ (stands k a ≡ true) → (stands k f ≡ true → HasTypes A k.typ) → (stands k a ≡ true → HasTypes A k.typ) → HasTypes A k.typ
      go (inl d) p q = p d
      go (inr d) p q = q d
  term_types A k (Unknown y j U) h i = subst (HasTypes A) (ap (λ (l : Key). l.typ) (sym (key_same k (key y j U) h))) i

  each_types : (A : List TypeEntry) (k : Key) (ds : List Equation) → occurs k ds ≡ true → TypesInEach A ds → HasTypes A k.typ
  each_types A k [] h i = absurd (cc)
  each_types A k (d ∷ ds) h i = go (either_true (stands k d.left) (stands k d.right || occurs k ds) h) (λ x. each_types A k ds x i.1)
    where
      second : (stands k d.right ≡ true) ⊎ (occurs k ds ≡ true) → (occurs k ds ≡ true → HasTypes A k.typ) → HasTypes A k.typ
      second (inl x) p = term_types A k d.right x i.0.1
      second (inr x) p = p x

      go : (stands k d.left ≡ true) ⊎ ((stands k d.right || occurs k ds) ≡ true) → (occurs k ds ≡ true → HasTypes A k.typ) → HasTypes A k.typ
      go (inl x) p = term_types A k d.left x i.0.0
      go (inr x) p = second (either_true (stands k d.right) (occurs k ds) x) p

  abbrev Types : Whole typ n es ts fs m → Sig
  Types w x i = cond (nat_lt i n) (inst_ty ts (typ x i)) (w.final x i)

  old_type : (w : Whole typ n es ts fs m) (x : List ℕ) (i : ℕ) → i < n → Types w x i ≡ inst_ty ts (typ x i)
  old_type w x i h = let t : nat_lt i n ≡ true = grind (arith, nat_tests) in ap (λ b. cond b (inst_ty ts (typ x i)) (w.final x i)) t

  at_type : (w : Whole typ n es ts fs m) (k : Key) → some_term_has k fs ≡ true → k.typ ≡ Types w k.name k.number
  at_type w k h = go (nat_lt k.number n) refl
    where
      go : (b : Bool) → nat_lt k.number n ≡ b → k.typ ≡ cond b (inst_ty ts (typ k.name k.number)) (w.final k.name k.number)
      go false t = (w.known k h).0
      go true t =
          let l : k.number < n = grind (arith, nat_tests) in
          let A = asked_types [] es in
          let asks = asks_each [] es in
          let T = typ k.name k.number in
          let here : HasTypes A T = each_types A (key k.name k.number T) es (old_occurs k h l) asks.has in
          (w.known k h).0 ∙ w.by_sig k.name k.number l ∙ sym (under_ty w.by A (asks.selves tt) T here) ∙ ap (λ us. inst_ty us T) (sym w.by_types)

  pub goes_on : GoesOn typ n m es (record { types = ts; terms = fs })
  goes_on =
      let w = whole typ n es g ts fs m e in
      record {
        from = w.from;
        to = w.to;
        types = Types w;
        stay = old_type w;
        unknowns = λ x i T h. let k = entries_stand x i T fs h in (at_type w (key x i T) k, (w.known (key x i T) k).1);
        own = λ x i T h l. stand_equations x i (typ x i) es (old_occurs (key x i T) (entries_stand x i T fs h) l);
      }

pub may_follow : (r : Result Unified AllocError) (old new : ℕ) (es : List Equation) → Answers r old new (unify es old) → (typ : List ℕ → ℕ → Ty) → AreGiven typ old es → MayFollow r typ old new es
may_follow (Ok (call.Yes s)) old new es h typ g = goes_on typ old es g s.types s.terms new h
may_follow (Ok call.No) old new es h typ g = tt
may_follow (Ok call.Outside) old new es h typ g = tt
may_follow (Err memory) old new es h typ g = tt
