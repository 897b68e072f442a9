-- A subgoal alone, and subgoals put back.
use Rattle.std.specs.Prelude.{option_and_then, Result, Ok}
use Rattle.std.proofs.Common.{◌≡◌, ℕ, List, [], ◌∷◌, ◌++◌, take, drop, Some, sym, ap, ◌∙◌, subst}
use Rattle.std.proofs.lemmas.List.{take-append-drop}
use Rattle.isa_terms.specs.Terms.{Tm}
use Rattle.isa_kernel.specs.Logic.{prop, IsProposition}
use Rattle.isa_kernel.specs.Theorem.{Theorem}
use Rattle.isa_kernel.specs.declared.inference.InferenceError.{InferenceError}
use Rattle.isa_terms.proofs.Typed.{typed_of_type}
use Rattle.isa_subgoal.specs.Premises.{implies, leading, rule_of}
use Rattle.isa_subgoal.specs.Rules.{Rotates}
use Rattle.isa_subgoal.proofs.Deriving.{ArePropositions, implies_append, implies_typed, derived_propositions}
use Rattle.isa_subgoal.proofs.Rotating.{leading_made}
use Rattle.isa_goal.specs.Goals.{Goals, around, IsStanding, theorem_of, Proves}
use Rattle.isa_goal.specs.Focus.{focused, put_back}
use Rattle.isa_goal.proofs.Answered.{answered}
use Rattle.isa_goal.proofs.Refining.{around_made}

-- ---- a subgoal alone
alone_is : (i : ℕ) (s : Goals) (thm x : Theorem) (us vs ss : List Tm) (w g h : Tm) (answer : Result Theorem InferenceError) → Proves thm s → around i s.subgoals ≡ Some (us, w, vs) → ss ≡ w ∷ [] → h ≡ implies vs s.goal → g ≡ implies us h → Rotates us ss thm answer → answer ≡ Ok x →
    (Proves x (record { subgoals = ss; goal = g; base = x.base })) × (focused i s ≡ Some (record { subgoals = ss; goal = g; base = x.base }))
alone_is i s thm x us vs ss w g h answer p a e f k rot o =
    let here : s.subgoals ≡ us ++ (w ∷ vs) = around_made i s.subgoals (us, w, vs) a in
    let turned : Rotates us (w ∷ []) thm answer = subst (λ ts. Rotates us ts thm answer) e rot in
    let q : x ≡ rule_of (w ∷ (us ++ vs)) s.goal s.base = answered answer x (rule_of (w ∷ (us ++ vs)) s.goal s.base) (turned vs s.goal s.base (p.same ∙ (λ j. rule_of (here j) s.goal s.base))) o in
    let gg : g ≡ implies (us ++ vs) s.goal = k ∙ ap (implies us) f ∙ sym (implies_append us vs s.goal) in (
      record { same = λ j. record { hyps = (q j).hyps; prop = (ap (λ (t : Theorem). t.prop) q ∙ (λ l. implies (sym e l) (sym gg l))) j; base = x.base } },
      ap (λ o. option_and_then {T = List Tm × Tm × List Tm} {U = Goals} (λ at. Some (record { subgoals = at.1 ∷ []; goal = implies (at.0 ++ at.2) s.goal; base = s.base })) o) a
          ∙ (λ j. Some (record { subgoals = sym e j; goal = sym gg j; base = (sym q j).base })),
    )

pub alone_proves : (i : ℕ) (s : Goals) (thm x : Theorem) (us vs ss : List Tm) (w g h : Tm) (answer : Result Theorem InferenceError) → Proves thm s → around i s.subgoals ≡ Some (us, w, vs) → ss ≡ w ∷ [] → h ≡ implies vs s.goal → g ≡ implies us h → Rotates us ss thm answer → answer ≡ Ok x → Proves x (record { subgoals = ss; goal = g; base = x.base })
alone_proves i s thm x us vs ss w g h answer p a e f k rot o = (alone_is i s thm x us vs ss w g h answer p a e f k rot o).0

pub alone_focused : (i : ℕ) (s : Goals) (thm x : Theorem) (us vs ss : List Tm) (w g h : Tm) (answer : Result Theorem InferenceError) → Proves thm s → around i s.subgoals ≡ Some (us, w, vs) → ss ≡ w ∷ [] → h ≡ implies vs s.goal → g ≡ implies us h → Rotates us ss thm answer → answer ≡ Ok x → focused i s ≡ Some (record { subgoals = ss; goal = g; base = x.base })
alone_focused i s thm x us vs ss w g h answer p a e f k rot o = (alone_is i s thm x us vs ss w g h answer p a e f k rot o).1

-- ---- put back
pub leading_propositions : (n : ℕ) (s : Goals) → IsStanding s → ArePropositions (leading n s.goal).0 × IsProposition (leading n s.goal).1
leading_propositions n s d =
    let h : IsProposition s.goal = (derived_propositions s.subgoals s.goal d.derivation).1 in
    let w : IsProposition (implies (leading n s.goal).0 (leading n s.goal).1) = subst (λ g. IsProposition g) (leading_made n s.goal) h in
    implies_typed (leading n s.goal).0 (leading n s.goal).1 (typed_of_type [] (implies (leading n s.goal).0 (leading n s.goal).1) prop w)

put_back_is : (n k : ℕ) (s : Goals) (thm x : Theorem) (qs us vs ss : List Tm) (r g : Tm) (answer : Result Theorem InferenceError) → Proves thm s → qs ≡ (leading n s.goal).0 → r ≡ (leading n s.goal).1 → us ≡ take k qs → vs ≡ drop k qs → ss ≡ us ++ (s.subgoals ++ vs) → g ≡ r → Rotates s.subgoals us thm answer → answer ≡ Ok x →
    (Proves x (record { subgoals = ss; goal = g; base = x.base })) × (record { subgoals = ss; goal = g; base = x.base } ≡ put_back n k s)
put_back_is n k s thm x qs us vs ss r g answer p e f tu dv sp gr rot o =
    let cut : us ++ vs ≡ (leading n s.goal).0 = (λ i. tu i ++ dv i) ∙ take-append-drop k qs ∙ e in
    let whole : s.goal ≡ implies (us ++ vs) r = leading_made n s.goal ∙ (λ i. implies (sym cut i) (sym f i)) in
    let th : theorem_of s ≡ rule_of (s.subgoals ++ (us ++ vs)) r s.base = λ i. record { hyps = []; prop = (ap (implies s.subgoals) whole ∙ sym (implies_append s.subgoals (us ++ vs) r)) i; base = s.base } in
    let q : x ≡ rule_of (us ++ (s.subgoals ++ vs)) r s.base = answered answer x (rule_of (us ++ (s.subgoals ++ vs)) r s.base) (rot vs r s.base (p.same ∙ th)) o in (
      record { same = λ j. record { hyps = (q j).hyps; prop = (ap (λ (t : Theorem). t.prop) q ∙ (λ i. implies (sym sp i) (sym gr i))) j; base = x.base } },
      (λ j. record { subgoals = (sp ∙ (λ i. (tu ∙ ap (take k) e) i ++ (s.subgoals ++ (dv ∙ ap (drop k) e) i))) j; goal = (gr ∙ f) j; base = (q j).base }),
    )

pub put_back_proves : (n k : ℕ) (s : Goals) (thm x : Theorem) (qs us vs ss : List Tm) (r g : Tm) (answer : Result Theorem InferenceError) → Proves thm s → qs ≡ (leading n s.goal).0 → r ≡ (leading n s.goal).1 → us ≡ take k qs → vs ≡ drop k qs → ss ≡ us ++ (s.subgoals ++ vs) → g ≡ r → Rotates s.subgoals us thm answer → answer ≡ Ok x → Proves x (record { subgoals = ss; goal = g; base = x.base })
put_back_proves n k s thm x qs us vs ss r g answer p e f tu dv sp gr rot o = (put_back_is n k s thm x qs us vs ss r g answer p e f tu dv sp gr rot o).0

pub put_back_state : (n k : ℕ) (s : Goals) (thm x : Theorem) (qs us vs ss : List Tm) (r g : Tm) (answer : Result Theorem InferenceError) → Proves thm s → qs ≡ (leading n s.goal).0 → r ≡ (leading n s.goal).1 → us ≡ take k qs → vs ≡ drop k qs → ss ≡ us ++ (s.subgoals ++ vs) → g ≡ r → Rotates s.subgoals us thm answer → answer ≡ Ok x → record { subgoals = ss; goal = g; base = x.base } ≡ put_back n k s
put_back_state n k s thm x qs us vs ss r g answer p e f tu dv sp gr rot o = (put_back_is n k s thm x qs us vs ss r g answer p e f tu dv sp gr rot o).1
