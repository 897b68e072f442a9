-- What the inferences behind a resolution answer.
use Rattle.std.proofs.Common.{◌≡◌, ℕ, List, [], ◌∷◌, ◌++◌, map, length, true, ◌&&◌, Some, refl, sym, ap, ◌∙◌, subst}
use Rattle.std.specs.Prelude.{option_and_then}
use Rattle.isa_terms.specs.Terms.{Tm, Const, Free, Unknown, Bound, Abs, App}
use Rattle.isa_terms.specs.Instance.{Instance, instance_of, inst_ty}
use Rattle.isa_terms.specs.declared.inst.TypeEntry.{TypeEntry}
use Rattle.isa_terms.specs.declared.inst.TermEntry.{TermEntry}
use Rattle.isa_terms.proofs.Equal.{ty_decides}
use Rattle.isa_kernel.specs.Logic.{prop, IsProposition}
use Rattle.isa_kernel.specs.Theorem.{Theorem, IsDerived}
use Rattle.isa_kernel.specs.Inferences.{keeps, instantiated}
use Rattle.isa_kernel.proofs.Instances.{instantiated_sound}
use Rattle.isa_terms.proofs.Typed.{typed_of_type}
use Rattle.isa_goal.specs.Goals.{Goals, IsStanding, around}
use Rattle.isa_subgoal.specs.Premises.{implies, premises, conclusion, rule_form, rule_of}
use Rattle.isa_terms.specs.Unknowns.{unknowns_of}
use Rattle.isa_goal.specs.Names.{set_terms}
use Rattle.isa_subgoal.specs.Rules.{raised}
use Rattle.isa_goal.specs.Private.Raising.{raised_instance}
use Rattle.isa_goal.specs.Matching.{matched, is_first_order}
use Rattle.isa_goal.specs.Resolving.{apart, new_types, matching, under_assumptions}
use Rattle.isa_subgoal.proofs.Deriving.{ArePropositions, implies_typed, propositions_right}
use Rattle.isa_subgoal.proofs.Answering.{rule_parts, raised_derived}
use Rattle.isa_subgoal.proofs.Closed.{raised_is}
use Rattle.isa_goal.proofs.Refining.{around_made, standing_propositions}
use Rattle.isa_subgoal.proofs.Instancing.{instance_implies, instantiated_is}
use Rattle.isa_subgoal.proofs.Splitting.{premises_all, same_length}
use Rattle.isa_goal.proofs.Numbers.{keeps_sets}
use Rattle.isa_goal.proofs.Matches.{matched_keeps}
use Rattle.isa_subgoal.proofs.Counts.{parts_made}

pub apart_keeps : (es : List TypeEntry) (us : List Tm) → keeps es (apart es us) ≡ true
unfolding apart
apart_keeps es [] = refl
apart_keeps es (Unknown x i T ∷ us) =
    ap (λ b. b && keeps es (apart es us)) ((ty_decides (inst_ty es T) (inst_ty es T)).1 refl)
    ∙ apart_keeps es us
apart_keeps es (Const x T ∷ us) = apart_keeps es us
apart_keeps es (Free x T ∷ us) = apart_keeps es us
apart_keeps es (Bound i ∷ us) = apart_keeps es us
apart_keeps es (Abs x T b ∷ us) = apart_keeps es us
apart_keeps es (App f a ∷ us) = apart_keeps es us

pub matching_keeps : (fs : List TermEntry) (th : Theorem) (t : Tm) → is_first_order (conclusion th.prop) ≡ true → matched (conclusion th.prop) t [] ≡ Some fs → keeps (matching fs th).types (matching fs th).terms ≡ true
matching_keeps fs th t o m =
    keeps_sets (new_types th) fs (set_terms (apart (new_types th) (unknowns_of (th.prop ∷ []))) []) (matched_keeps (new_types th) (conclusion th.prop) t [] fs o m refl)
    (keeps_sets (new_types th) (apart (new_types th) (unknowns_of (th.prop ∷ []))) [] (apart_keeps (new_types th) (unknowns_of (th.prop ∷ []))) refl)

map_twice : (f g : Tm → Tm) (ts : List Tm) → map f (map g ts) ≡ map (λ t. f (g t)) ts
map_twice f g [] = refl
map_twice f g (t ∷ ts) = ap (λ us. f (g t) ∷ us) (map_twice f g ts)

-- the subgoal's premises are propositions
pub aim_propositions : (i : ℕ) (s : Goals) (at : List Tm × Tm × List Tm) → IsStanding s → around i s.subgoals ≡ Some at → ArePropositions (premises at.1)
aim_propositions i s at d e =
    let here = around_made i s.subgoals at e in
    let all : ArePropositions (at.0 ++ (at.1 ∷ at.2)) = subst (λ ts. ArePropositions ts) here (standing_propositions s d) in
    let it : IsProposition at.1 = (propositions_right at.0 (at.1 ∷ at.2) all).0 in
    let whole : IsProposition (implies (premises at.1) (conclusion at.1)) = subst (λ t. IsProposition t) (parts_made at.1) it in
    (implies_typed (premises at.1) (conclusion at.1) (typed_of_type [] (implies (premises at.1) (conclusion at.1)) prop whole)).0

pub rule_instance : (n : Instance) (th : Theorem) → th.hyps ≡ [] → keeps n.types n.terms ≡ true →
    instantiated n th ≡ Some (record { hyps = []; prop = implies (map (instance_of n) (premises th.prop)) (instance_of n (conclusion th.prop)); base = th.base })
rule_instance n th h k =
    (λ j. instantiated n (record { hyps = h j; prop = parts_made th.prop j; base = th.base }))
    ∙ instantiated_is n (implies (premises th.prop) (conclusion th.prop)) th.base k
    ∙ ap (λ p. Some (record { hyps = []; prop = p; base = th.base })) (instance_implies n (premises th.prop) (conclusion th.prop))

-- ---- what the inferences give
raised_found : (hs ps : List Tm) (q : Tm) (k : ℕ) (n : Instance) (th inst : Theorem) → instantiated n th ≡ Some inst → rule_form k inst ≡ Some (ps, q) → raised_instance hs k n th ≡ raised hs ps inst
raised_found hs ps q k n th inst e f =
    ap (λ o. option_and_then {T = Theorem} {U = Theorem} (λ x. option_and_then {T = List Tm × Tm} {U = Theorem} (λ parts. raised hs parts.0 x) (rule_form k x)) o) e
    ∙ ap (λ o. option_and_then {T = List Tm × Tm} {U = Theorem} (λ parts. raised hs parts.0 inst) o) f

-- the instance of a derived rule without hypotheses comes under the assumptions
pub under_is : (hs : List Tm) (k : ℕ) (n : Instance) (th : Theorem) → IsDerived th → th.hyps ≡ [] → k ≡ length (premises th.prop) → ArePropositions hs → keeps n.types n.terms ≡ true → raised_instance hs k n th ≡ Some (under_assumptions hs n th)
under_is hs k n th f h l w kept =
    let qs : List Tm = map (instance_of n) (premises th.prop) in
    let d : Tm = instance_of n (conclusion th.prop) in
    let inst : Theorem = rule_of qs d th.base in
    let made : instantiated n th ≡ Some inst = rule_instance n th h kept in
    let v : ArePropositions qs = rule_parts qs d th.base inst (instantiated_sound n th inst made f) refl in
    let form : rule_form k inst ≡ Some (qs, d) = (λ i. rule_form ((l ∙ sym (same_length (instance_of n) (premises th.prop))) i) inst) ∙ premises_all qs d in
    raised_found hs qs d k n th inst made form
    ∙ raised_is hs qs th.base d w v
    ∙ ap (λ ts. Some (rule_of ts (implies hs d) th.base)) (map_twice (implies hs) (instance_of n) (premises th.prop))

-- a rule under assumptions is derived
pub under_derived : (hs : List Tm) (n : Instance) (th : Theorem) → IsDerived th → th.hyps ≡ [] → ArePropositions hs → keeps n.types n.terms ≡ true → IsDerived (under_assumptions hs n th)
under_derived hs n th d h w kept =
    let qs : List Tm = map (instance_of n) (premises th.prop) in
    let inst : Theorem = rule_of qs (instance_of n (conclusion th.prop)) th.base in
    let sound : IsDerived inst = instantiated_sound n th inst (rule_instance n th h kept) d in
    subst (λ ts. IsDerived (rule_of ts (implies hs (instance_of n (conclusion th.prop))) th.base)) (map_twice (implies hs) (instance_of n) (premises th.prop))
    (raised_derived hs qs (instance_of n (conclusion th.prop)) th.base w sound)
