-- The inferences on a state's theorem don't refuse.
use Rattle.std.specs.Prelude.{option_map, Result, Ok, Err}
use Rattle.std.proofs.Common.{◌≡◌, ℕ, ◌-◌, ◌<◌, ◌≤◌, arith, nat_eq, length, List, [], ◌∷◌, ◌++◌, take, drop, Bool, true, false, if◌then◌else◌, Option, Some, None, refl, sym, ap, ◌∙◌, subst}
use Rattle.std.proofs.lemmas.Bool.Decides.{nat_tests}
use Rattle.std.proofs.lemmas.List.{take-append-drop, length-drop}
use Rattle.isa_terms.specs.Terms.{Tm}
use Rattle.isa_terms.specs.Instance.{Instance}
use Rattle.isa_kernel.specs.Theorem.{Theorem}
use Rattle.isa_kernel.specs.Inferences.{Answers, keeps, instantiated}
use Rattle.isa_kernel.specs.declared.inference.InferenceError.{InferenceError}
use Rattle.isa_kernel.specs.declared.inference.InferenceError.TheVariants.{Shape, Memory}
use Rattle.isa_subgoal.specs.Premises.{implies, leading, rule_form, rule_of}
use Rattle.isa_subgoal.specs.Rules.{Rotates, Reshapes}
use Rattle.isa_subgoal.specs.Shape.{shaped}
use Rattle.isa_subgoal.proofs.Deriving.{implies_append}
use Rattle.isa_subgoal.proofs.Rotating.{leading_made}
use Rattle.isa_subgoal.proofs.Splitting.{premises_all}
use Rattle.isa_goal.specs.Goals.{Goals, head_split, around, theorem_of, Proves}
use Rattle.isa_goal.specs.Follows.{IsNormalState, instanced}
use Rattle.isa_goal.specs.Names.{reshaped}
use Rattle.isa_goal.specs.Private.Granting.{IsGranted}
use Rattle.isa_goal.proofs.Numbers.{instance_answer}
use Rattle.isa_goal.proofs.Refining.{around_made}

granted_some : (answer : Result Theorem InferenceError) (x : Theorem) → Answers answer (Some x) → IsGranted answer
granted_some (Ok th) x a = tt
granted_some (Err Shape) x a = absurd (cc (a))
granted_some (Err Memory) x a = tt

pub alone_granted : (i : ℕ) (s : Goals) (thm : Theorem) (us vs ss : List Tm) (w : Tm) (answer : Result Theorem InferenceError) → Proves thm s → around i s.subgoals ≡ Some (us, w, vs) → ss ≡ w ∷ [] → Rotates us ss thm answer → IsGranted answer
alone_granted i s thm us vs ss w answer p a e rot =
    let here : s.subgoals ≡ us ++ (w ∷ vs) = around_made i s.subgoals (us, w, vs) a in
    let turned : Rotates us (w ∷ []) thm answer = subst (λ ts. Rotates us ts thm answer) e rot in
    granted_some answer (rule_of (w ∷ (us ++ vs)) s.goal s.base) (turned vs s.goal s.base (p.same ∙ (λ j. rule_of (here j) s.goal s.base)))

pub back_granted : (n k : ℕ) (s : Goals) (thm : Theorem) (qs us vs : List Tm) (answer : Result Theorem InferenceError) → Proves thm s → qs ≡ (leading n s.goal).0 → us ≡ take k qs → vs ≡ drop k qs → Rotates s.subgoals us thm answer → IsGranted answer
back_granted n k s thm qs us vs answer p e tu dv rot =
    let r : Tm = (leading n s.goal).1 in
    let cut : us ++ vs ≡ (leading n s.goal).0 = (λ i. tu i ++ dv i) ∙ take-append-drop k qs ∙ e in
    let whole : s.goal ≡ implies (us ++ vs) r = leading_made n s.goal ∙ (λ i. implies (sym cut i) r) in
    let th : theorem_of s ≡ rule_of (s.subgoals ++ (us ++ vs)) r s.base = λ i. record { hyps = []; prop = (ap (implies s.subgoals) whole ∙ sym (implies_append s.subgoals (us ++ vs) r)) i; base = s.base } in
    granted_some answer (rule_of (us ++ (s.subgoals ++ vs)) r s.base) (rot vs r s.base (p.same ∙ th))

pub instance_granted : (n : Instance) (s : Goals) (thm : Theorem) (answer : Result Theorem InferenceError) → keeps n.types n.terms ≡ true → Proves thm s → Answers answer (instantiated n thm) → IsGranted answer
instance_granted n s thm answer k p a = granted_some answer (theorem_of (instanced n s)) (subst (λ o. Answers answer o) (instance_answer n s thm k p) a)

pub reshaped_granted : (s : Goals) (thm : Theorem) (answer : Result Theorem InferenceError) → IsNormalState s → Proves thm s → Reshapes s.subgoals thm answer → IsGranted answer
reshaped_granted s thm answer n p r = granted_some answer (theorem_of (reshaped s)) (r s.goal s.base n.subgoals p.same)

-- a state's theorem has as many premises as the state has subgoals
pub never_unread : (k : ℕ) (u : Goals) (x : Theorem) → k ≡ length u.subgoals → x ≡ theorem_of u → rule_form k x ≡ None → ⊥
never_unread k u x l e n =
    let whole : rule_form (length u.subgoals) (theorem_of u) ≡ Some (u.subgoals, u.goal) = premises_all u.subgoals u.goal in
    let none : rule_form (length u.subgoals) (theorem_of u) ≡ None = (λ i. rule_form (sym l i) (sym e i)) ∙ n in
    cc (whole, none)

-- ---- a subgoal that is there
no_head : (ts : List Tm) (f : Tm × List Tm → List Tm × Tm × List Tm) → 0 < length ts → option_map f (head_split ts) ≡ None → ⊥
no_head [] f l e = absurd (omega (arith, l))
no_head (t ∷ ts) f l e = cc

pub never_around : (i : ℕ) (ts : List Tm) → around i ts ≡ None → 0 < i → i ≤ length ts → ⊥
never_around i ts n l m = choose (nat_eq i 0) refl n
  where
    parts : Tm × List Tm → List Tm × Tm × List Tm
    parts p = (take (i - 1) ts, p.0, p.1)

    there : Option (List Tm × Tm × List Tm)
    there = option_map parts (head_split (drop (i - 1) ts))

    zero_is : nat_eq i 0 ≡ true → i ≡ 0
    zero_is e = grind (arith, nat_tests)

    choose : (b : Bool) → nat_eq i 0 ≡ b → (if b then None else there) ≡ None → ⊥
    choose true e k = absurd (let z = zero_is e in omega (arith, z, l))
    choose false e k = no_head (drop (i - 1) ts) parts (let d = length-drop (i - 1) ts in omega (arith, d, l, m)) k
