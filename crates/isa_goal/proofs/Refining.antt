-- A refined state stands for the theorem that the inferences give.
use Rattle.std.proofs.Common.{◌≡◌, ℕ, ◌-◌, List, [], ◌∷◌, ◌++◌, take, drop, nat_eq, Bool, true, false, cond, Option, Some, None, refl, sym, ap, ◌∙◌}
use Rattle.std.proofs.lemmas.List.{take-append-drop}
use Rattle.std.specs.Prelude.{option_and_then, option_map, Result, Ok, Err}
use Rattle.isa_terms.specs.Terms.{Tm}
use Rattle.isa_terms.specs.Equal.{tm_eq}
use Rattle.isa_kernel.specs.Axioms.{joined_bases}
use Rattle.isa_kernel.specs.Theorem.{Theorem}
use Rattle.isa_kernel.specs.Inferences.{Answers}
use Rattle.isa_kernel.specs.declared.inference.InferenceError.{InferenceError}
use Rattle.isa_goal.specs.Goals.{Goals, IsStanding, theorem_of, Proves, head_split, around, refined, Gives}
use Rattle.isa_subgoal.specs.Premises.{implies, rule_form, rule_of}
use Rattle.isa_subgoal.specs.Rules.{Cuts}
use Rattle.isa_subgoal.proofs.Deriving.{ArePropositions, derived_propositions}
use Rattle.isa_subgoal.proofs.Splitting.{Form, rule_made}
use Rattle.isa_goal.proofs.Answered.{answered, refused}

cond_none : {A : Type 0} (b : Bool) (o : Option A) {y : A} → cond b None o ≡ Some y → (b ≡ false) × (o ≡ Some y)
cond_none true o e = cc
cond_none false o e = (refl, e)

-- the parts around a subgoal make the whole
pub around_made : (i : ℕ) (ts : List Tm) (at : List Tm × Tm × List Tm) → around i ts ≡ Some at → ts ≡ at.0 ++ (at.1 ∷ at.2)
around_made i ts at e = go (drop (i - 1) ts) (take-append-drop (i - 1) ts) (cond_none (nat_eq i 0) _ e).1
  where
    go : (d : List Tm) → take (i - 1) ts ++ d ≡ ts → option_map (λ p. (take (i - 1) ts, p.0, p.1)) (head_split d) ≡ Some at → ts ≡ at.0 ++ (at.1 ∷ at.2)
    go [] h k = cc
    go (x ∷ xs) h k = let q : (take (i - 1) ts, x, xs) ≡ at = cc in sym h ∙ (λ j. (q j).0 ++ ((q j).1 ∷ (q j).2))

pub standing_propositions : (s : Goals) → IsStanding s → ArePropositions s.subgoals
standing_propositions s d = (derived_propositions s.subgoals s.goal d.derivation).0

-- the state with a theorem's premises in the place of a subgoal
abbrev pub placed : Goals → Theorem → (List Tm × Tm × List Tm) → List Tm → Goals
placed s th at bs = record { subgoals = at.0 ++ (bs ++ at.2); goal = s.goal; base = joined_bases s.base th.base }

-- ---- the state that the inferences give
-- the theorem with the rule's premises in the place of the subgoal
refined_answer : (i n : ℕ) (s : Goals) (th thm : Theorem) (us vs bs : List Tm) (w r : Tm) (answer : Result Theorem InferenceError) → around i s.subgoals ≡ Some (us, w, vs) → rule_form n th ≡ Some (bs, r) → tm_eq w r ≡ true → Proves thm s → Cuts us bs thm th answer → Answers answer (Some (theorem_of (placed s th (us, w, vs) bs)))
refined_answer i n s th thm us vs bs w r answer a f e p k =
    let here : s.subgoals ≡ us ++ (w ∷ vs) = around_made i s.subgoals (us, w, vs) a in
    k w r s.goal vs s.base th.base (p.same ∙ (λ j. rule_of (here j) s.goal s.base)) (rule_made n th (bs, r) f) e

refined_theorem : (i n : ℕ) (s : Goals) (th thm x : Theorem) (us vs bs : List Tm) (w r : Tm) (answer : Result Theorem InferenceError) → around i s.subgoals ≡ Some (us, w, vs) → rule_form n th ≡ Some (bs, r) → tm_eq w r ≡ true → Proves thm s → Cuts us bs thm th answer → answer ≡ Ok x → x ≡ theorem_of (placed s th (us, w, vs) bs)
refined_theorem i n s th thm x us vs bs w r answer a f e p k q = answered answer x (theorem_of (placed s th (us, w, vs) bs)) (refined_answer i n s th thm us vs bs w r answer a f e p k) q

-- no refusal comes
pub refined_err : (i n : ℕ) (s : Goals) (th thm : Theorem) (us vs bs : List Tm) (w r : Tm) (answer : Result Theorem InferenceError) (fault : InferenceError) → around i s.subgoals ≡ Some (us, w, vs) → rule_form n th ≡ Some (bs, r) → tm_eq w r ≡ true → Proves thm s → Cuts us bs thm th answer → answer ≡ Err fault → Gives (Err fault) (refined i th n s)
refined_err i n s th thm us vs bs w r answer fault a f e p k q = refused answer fault (theorem_of (placed s th (us, w, vs) bs)) (refined i th n s) (refined_answer i n s th thm us vs bs w r answer a f e p k) q

refined_state : (i n : ℕ) (s : Goals) (th : Theorem) (us vs bs : List Tm) (w r : Tm) → around i s.subgoals ≡ Some (us, w, vs) → rule_form n th ≡ Some (bs, r) → tm_eq w r ≡ true → refined i th n s ≡ Some (placed s th (us, w, vs) bs)
refined_state i n s th us vs bs w r a f e =
    ap (λ o. option_and_then {T = List Tm × Tm × List Tm} {U = Goals} (λ at. option_and_then {T = Form} {U = Goals} (λ parts. cond (tm_eq at.1 parts.1) (Some (placed s th at parts.0)) None) (rule_form n th)) o) a
    ∙ ap (λ o. option_and_then {T = Form} {U = Goals} (λ parts. cond (tm_eq w parts.1) (Some (placed s th (us, w, vs) parts.0)) None) o) f
    ∙ ap (λ b. cond b (Some (placed s th (us, w, vs) bs)) None) e

-- the answer's theorem, subgoals and goal make a state, which is the refined one
pub refined_proves : (i n : ℕ) (s : Goals) (th thm x : Theorem) (us vs bs : List Tm) (w r : Tm) (answer : Result Theorem InferenceError) (ss : List Tm) (g : Tm) → around i s.subgoals ≡ Some (us, w, vs) → rule_form n th ≡ Some (bs, r) → tm_eq w r ≡ true → Proves thm s → Cuts us bs thm th answer → answer ≡ Ok x → ss ≡ us ++ (bs ++ vs) → g ≡ s.goal →
    Proves x (record { subgoals = ss; goal = g; base = x.base })
refined_proves i n s th thm x us vs bs w r answer ss g a f e p k o l h =
    let q : x ≡ theorem_of (placed s th (us, w, vs) bs) = refined_theorem i n s th thm x us vs bs w r answer a f e p k o in
    record { same = λ j. record { hyps = (q j).hyps; prop = (ap (λ (t : Theorem). t.prop) q ∙ (λ m. implies (sym l m) (sym h m))) j; base = x.base } }

pub refined_gives : (i n : ℕ) (s : Goals) (th thm x : Theorem) (us vs bs : List Tm) (w r : Tm) (answer : Result Theorem InferenceError) (ss : List Tm) (g : Tm) → around i s.subgoals ≡ Some (us, w, vs) → rule_form n th ≡ Some (bs, r) → tm_eq w r ≡ true → Proves thm s → Cuts us bs thm th answer → answer ≡ Ok x → ss ≡ us ++ (bs ++ vs) → g ≡ s.goal →
    refined i th n s ≡ Some (record { subgoals = ss; goal = g; base = x.base })
refined_gives i n s th thm x us vs bs w r answer ss g a f e p k o l h =
    let q : x ≡ theorem_of (placed s th (us, w, vs) bs) = refined_theorem i n s th thm x us vs bs w r answer a f e p k o in
    refined_state i n s th us vs bs w r a f e ∙ (λ j. Some (record { subgoals = sym l j; goal = sym h j; base = (sym q j).base }))
