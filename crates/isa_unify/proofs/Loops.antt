-- The loops over the steps of unification and over the walk that looks for clashes.
use Rattle.std.proofs.Common.{◌≡◌, ℕ, ◌<◌, Bool, List, Some, Result, IfOk, ap, arith, ◌∙◌, sym, refl}
use Rattle.std.proofs.lemmas.Result.{IfOk-weaker}
use Rattle.isa_unify.specs.Descent.{Step, Done, Lighter, Solved}
use Rattle.isa_unify.specs.declared.progress.State.{State}
use Rattle.isa_unify.specs.declared.progress.Answer.{Answer}
use Rattle.isa_unify.specs.declared.progress.Progress.TheVariants.{Going, Ended}
use Rattle.isa_unify.specs.declared.equation.Equation.{Equation}
use Rattle.isa_unify.specs.declared.progress.Walk.TheVariants.{Goes, Ends}
use Rattle.isa_terms.specs.declared.inst.TypeEntry.{TypeEntry}
use Rattle.isa_unify.specs.TypeUnification.{unify_typs}
use Rattle.isa_unify.specs.Unification.{UnifyStep, unify_step, unified, weight, clash_step, clashes, all_types, start, retyped_state, unless_clash, answer_at, unify}
use Rattle.isa_unify.specs.Steps.{taken, walked}
use Rattle.isa_unify.proofs.Adequacy.{steps_left, unified-lighter, unified-solved, unified-done, steps_left-lighter, steps_left-solved, ClashGoes, clash_goes, clashes-lighter, clashes-done}

going_same : {s t : State} → Going s ≡ Going t → s ≡ t
going_same h = cc

ended_same : {a b : Answer} → Ended a ≡ Ended b → a ≡ b
ended_same h = cc

lighter_to : (s t : State) → s ≡ t → ◌≡◌ {A = UnifyStep} (Lighter s) (Lighter t)
lighter_to s t h i = Lighter (h i)

solved_to : (s t : State) → s ≡ t → ◌≡◌ {A = UnifyStep} (Solved s) (Solved t)
solved_to s t h i = Solved (h i)

done_to : (a b : Answer) → a ≡ b → ◌≡◌ {A = UnifyStep} (Done a) (Done b)
done_to a b h i = Done (h i)

goes_on : (s t : State) (r : UnifyStep) → unify_step s ≡ r → taken r ≡ Going t → (unified t ≡ unified s) × (steps_left t < steps_left s)
goes_on s t (Done a) e h = absurd (cc)
goes_on s t (Lighter u) e h =
    let f = e ∙ lighter_to u t (going_same h) in
    let n = steps_left-lighter s t f in
    (sym (unified-lighter s t f), omega (arith, n))
goes_on s t (Solved u) e h =
    let f = e ∙ solved_to u t (going_same h) in
    let n = steps_left-solved s t f in
    (sym (unified-solved s t f), omega (arith, n))

ends_at : (s : State) (a : Answer) (r : UnifyStep) → unify_step s ≡ r → taken r ≡ Ended a → unified s ≡ a
ends_at s a (Done b) e h = unified-done s a (e ∙ done_to b a (ended_same h))
ends_at s a (Lighter u) e h = absurd (cc)
ends_at s a (Solved u) e h = absurd (cc)

pub step_same : (s t : State) → Going t ≡ taken (unify_step s) → unified t ≡ unified s
step_same s t h = (goes_on s t (unify_step s) refl (sym h)).0

pub step_falls : (s t : State) → Going t ≡ taken (unify_step s) → steps_left t < steps_left s
step_falls s t h = (goes_on s t (unify_step s) refl (sym h)).1

pub step_ends : (s : State) (a : Answer) → Ended a ≡ taken (unify_step s) → unified s ≡ a
step_ends s a h = ends_at s a (unify_step s) refl (sym h)

-- the walk

goes_same : {s t : List Equation} → Goes s ≡ Goes t → s ≡ t
goes_same h = cc

ends_same : {a b : Bool} → Ends a ≡ Ends b → a ≡ b
ends_same h = cc

walk_on : (s t : List Equation) (r : Step (List Equation) Bool) → clash_step s ≡ r → ClashGoes s r → walked r ≡ Goes t → (clashes t ≡ clashes s) × (weight t < weight s)
walk_on s t (Done a) e g h = absurd (cc)
walk_on s t (Lighter u) e g h =
    let p : ◌≡◌ {A = Step (List Equation) Bool} (Lighter u) (Lighter t) = λ i. Lighter (goes_same h i) in
    let w : weight u ≡ weight t = λ i. weight (goes_same h i) in
    (sym (clashes-lighter s t (e ∙ p)), omega (arith, g, w))
walk_on s t (Solved u) e g h = absurd g

walk_at : (s : List Equation) (b : Bool) (r : Step (List Equation) Bool) → clash_step s ≡ r → walked r ≡ Ends b → clashes s ≡ b
walk_at s b (Done a) e h =
    let p : ◌≡◌ {A = Step (List Equation) Bool} (Done a) (Done b) = λ i. Done (ends_same h i) in
    clashes-done s b (e ∙ p)
walk_at s b (Lighter u) e h = absurd (cc)
walk_at s b (Solved u) e h = absurd (cc)

pub walk_same : (s t : List Equation) → Goes t ≡ walked (clash_step s) → clashes t ≡ clashes s
walk_same s t h = (walk_on s t (clash_step s) refl (clash_goes s) (sym h)).0

pub walk_falls : (s t : List Equation) → Goes t ≡ walked (clash_step s) → weight t < weight s
walk_falls s t h = (walk_on s t (clash_step s) refl (clash_goes s) (sym h)).1

pub walk_ends : (s : List Equation) (b : Bool) → Ends b ≡ walked (clash_step s) → clashes s ≡ b
walk_ends s b h = walk_at s b (clash_step s) refl (sym h)

-- the answer where the types have a unifier

answer_some : (es : List Equation) (k : ℕ) (s : List TypeEntry) → Some s ≡ unify_typs (all_types es) → unless_clash (retyped_state s (start es k)) ≡ unify es k
unfolding unify
answer_some es k s h = ap (answer_at es k) h

pub answered : {E : Type 0} (r : Result Answer E) (es : List Equation) (k : ℕ) (s : List TypeEntry) (st : State) → IfOk r (λ a. a ≡ unless_clash st) → st ≡ retyped_state s (start es k) → Some s ≡ unify_typs (all_types es) → IfOk r (λ a. a ≡ unify es k)
answered r es k s st h e t = IfOk-weaker r (λ a. a ≡ unless_clash st) (λ a. a ≡ unify es k) (λ a p. p ∙ ap unless_clash e ∙ answer_some es k s t) h
