-- What follows from the answers of inferences, and from the parts of a theorem.
use Rattle.std.specs.Prelude.{option_and_then, Result, Ok, Err, IfOk}
use Rattle.std.specs.declared.alloc.AllocError.{AllocError}
use Rattle.isa_kernel.specs.declared.inference.InferenceError.{InferenceError}
use Rattle.std.proofs.Common.{◌≡◌, ℕ, List, [], ◌∷◌, Bool, true, false, cond, Option, Some, None, refl, sym, ap, ◌∙◌}
use Rattle.isa_terms.specs.Types.{Ty}
use Rattle.isa_terms.specs.Terms.{Tm, Unknown}
use Rattle.isa_terms.specs.Instance.{Instance}
use Rattle.isa_terms.specs.Unknowns.{unknowns_of}
use Rattle.isa_kernel.specs.Forms.{imp_parts, eq_parts, quantifier_parts}
use Rattle.isa_kernel.specs.Theorem.{Theorem}
use Rattle.isa_kernel.specs.Inferences.{Answers, instantiated, forall_eliminated}
use Rattle.isa_subgoal.specs.Premises.{premises, conclusion}
use Rattle.isa_subgoal.specs.Rules.{cut}
use Rattle.isa_unify.specs.Matching.{match_of}
use Rattle.isa_simprules.specs.Numbers.{least_number}
use Rattle.isa_simprules.specs.Roles.{apart, by_match}
use Rattle.isa_simprules.specs.Opening.{variable_of, opened_once}
use Rattle.isa_simprules.specs.Renamings.{is_renamed}
use Rattle.isa_simprules.specs.Rules.{Rule, rule_of}
use Rattle.isa_simprules.specs.Congruences.{Premise, Cong, premises_in, is_congruence, cong_of}

-- the last steps of by_match
abbrev with_match : Theorem → Theorem → Instance → Option Theorem
with_match fact th s = option_and_then (λ (made : Theorem). cut [] (premises th.prop) made th) (instantiated (apart (th.prop ∷ th.hyps) fact.prop s) fact)

abbrev with_premise : Theorem → Theorem → Tm × Tm → Option Theorem
with_premise fact th p = option_and_then (with_match fact th) (match_of p.0 (conclusion th.prop))

pub no_premise : (fact th : Theorem) → imp_parts fact.prop ≡ None → by_match fact th ≡ None
no_premise fact th e = ap (λ o. option_and_then (with_premise fact th) o) e

pub no_match : (fact th : Theorem) (p : Tm × Tm) → imp_parts fact.prop ≡ Some p → match_of p.0 (conclusion th.prop) ≡ None → by_match fact th ≡ None
no_match fact th p e d = ap (λ o. option_and_then (with_premise fact th) o) e ∙ ap (λ o. option_and_then (with_match fact th) o) d

pub not_made : (fact th : Theorem) (p : Tm × Tm) (s : Instance) → imp_parts fact.prop ≡ Some p → match_of p.0 (conclusion th.prop) ≡ Some s → instantiated (apart (th.prop ∷ th.hyps) fact.prop s) fact ≡ None → by_match fact th ≡ None
not_made fact th p s e d k =
    ap (λ o. option_and_then (with_premise fact th) o) e ∙ ap (λ o. option_and_then (with_match fact th) o) d ∙ ap (λ o. option_and_then (λ (made : Theorem). cut [] (premises th.prop) made th) o) k

pub made_cut : (fact th made : Theorem) (p : Tm × Tm) (s : Instance) → imp_parts fact.prop ≡ Some p → match_of p.0 (conclusion th.prop) ≡ Some s → instantiated (apart (th.prop ∷ th.hyps) fact.prop s) fact ≡ Some made →
    by_match fact th ≡ cut [] (premises th.prop) made th
made_cut fact th made p s e d k =
    ap (λ o. option_and_then (with_premise fact th) o) e ∙ ap (λ o. option_and_then (with_match fact th) o) d ∙ ap (λ o. option_and_then (λ (made : Theorem). cut [] (premises th.prop) made th) o) k

-- the unknown for the variable of the first `!!`
abbrev unknown_of : Theorem → Ty × Tm → Tm
unknown_of th p = Unknown (variable_of p.1) (least_number (unknowns_of (th.prop ∷ th.hyps)) (variable_of p.1)) p.0

pub once_none : (th : Theorem) → quantifier_parts th.prop ≡ None → opened_once th ≡ None
once_none th e = ap (λ o. option_and_then (λ (p : Ty × Tm). forall_eliminated (unknown_of th p) th) o) e

pub once_granted : (th : Theorem) (T : Ty) (P : Tm) → quantifier_parts th.prop ≡ Some (T, P) → opened_once th ≡ forall_eliminated (Unknown (variable_of P) (least_number (unknowns_of (th.prop ∷ th.hyps)) (variable_of P)) T) th
once_granted th T P e = ap (λ o. option_and_then (λ (p : Ty × Tm). forall_eliminated (unknown_of th p) th) o) e

pub rule_made : (th : Theorem) (T : Ty) (l r : Tm) → eq_parts (conclusion th.prop) ≡ Some (T, l, r) → rule_of th ≡ Some (record { conditions = premises th.prop; left = l; right = r; permutes = is_renamed l r; thm = th })
rule_made th T l r e =
    ap (λ o. option_and_then (λ (p : Ty × Tm × Tm). Some (record { conditions = premises th.prop; left = p.1; right = p.2; permutes = is_renamed p.1 p.2; thm = th })) o) e

pub cong_made : (th : Theorem) (T : Ty) (l r : Tm) (ps : List Premise) → eq_parts (conclusion th.prop) ≡ Some (T, l, r) → premises_in (premises th.prop) ≡ Some ps → is_congruence ps l r ≡ true → cong_of th ≡ Some (record { premises = ps; left = l; right = r; thm = th })
cong_made th T l r ps e d k =
    ap (λ o. option_and_then (λ (s : Ty × Tm × Tm). option_and_then (λ (qs : List Premise). cond (is_congruence qs s.1 s.2) (Some (record { premises = qs; left = s.1; right = s.2; thm = th })) None) (premises_in (premises th.prop))) o) e
    ∙ ap (λ o. option_and_then (λ (qs : List Premise). cond (is_congruence qs l r) (Some (record { premises = qs; left = l; right = r; thm = th })) None) o) d
    ∙ ap (λ b. cond b (Some (record { premises = ps; left = l; right = r; thm = th })) None) k

-- the option of an answer that may be a refusal is the wanted one
pub granted_is : (answer : Result Theorem InferenceError) (r : Result (Option Theorem) AllocError) (wanted goal : Option Theorem) → IfOk r (λ o. (w : Option Theorem) → Answers answer w → o ≡ w) → Answers answer wanted → wanted ≡ goal → IfOk r (λ o. o ≡ goal)
granted_is answer (Ok o) wanted goal h a e = h wanted a ∙ e
granted_is answer (Err memory) wanted goal h a e = tt

pub once_is_granted : (th : Theorem) (T : Ty) (P u : Tm) (answer : Result Theorem InferenceError) (r : Result (Option Theorem) AllocError) → quantifier_parts th.prop ≡ Some (T, P) → u ≡ Unknown (variable_of P) (least_number (unknowns_of (th.prop ∷ th.hyps)) (variable_of P)) T →
    Answers answer (forall_eliminated u th) → IfOk r (λ o. (w : Option Theorem) → Answers answer w → o ≡ w) → IfOk r (λ o. o ≡ opened_once th)
once_is_granted th T P u answer r e d a h = granted_is answer r (forall_eliminated u th) (opened_once th) h a (ap (λ v. forall_eliminated v th) d ∙ sym (once_granted th T P e))

pub match_is_granted : (fact th made : Theorem) (pattern rest t : Tm) (ps : List Tm) (found s : Instance) (o : Option Theorem) (answer last : Result Theorem InferenceError) (r : Result (Option Theorem) AllocError) →
    imp_parts fact.prop ≡ Some (pattern, rest) → match_of pattern t ≡ Some found → t ≡ conclusion th.prop → s ≡ apart (th.prop ∷ th.hyps) fact.prop found →
    Answers answer (instantiated s fact) → ((w : Option Theorem) → Answers answer w → o ≡ w) → o ≡ Some made →
    ps ≡ premises th.prop → Answers last (cut [] ps made th) → IfOk r (λ q. (w : Option Theorem) → Answers last w → q ≡ w) → IfOk r (λ q. q ≡ by_match fact th)
match_is_granted fact th made pattern rest t ps found s o answer last r e m c i a h k p b g =
    let d : match_of pattern (conclusion th.prop) ≡ Some found = ap (match_of pattern) (sym c) ∙ m in
    let n : instantiated (apart (th.prop ∷ th.hyps) fact.prop found) fact ≡ Some made = ap (λ x. instantiated x fact) (sym i) ∙ sym (h (instantiated s fact) a) ∙ k in
    granted_is last r (cut [] ps made th) (by_match fact th) g b (ap (λ qs. cut [] qs made th) p ∙ sym (made_cut fact th made (pattern, rest) found e d n))
