-- The rule for elimination that the inferences give.
use Rattle.std.specs.Prelude.{option_and_then, Result}
use Rattle.std.proofs.Common.{◌≡◌, ℕ, List, [], ◌∷◌, ◌++◌, cond, Option, Some, None, refl, ap, ◌∙◌, subst}
use Rattle.isa_terms.specs.Terms.{Tm, bare}
use Rattle.isa_terms.specs.Sets.{joined}
use Rattle.isa_kernel.specs.Logic.{prop, imp, IsProposition}
use Rattle.isa_kernel.specs.declared.base.BaseEntry.{BaseEntry}
use Rattle.isa_kernel.specs.declared.inference.InferenceError.{InferenceError}
use Rattle.isa_kernel.specs.Axioms.{propositions, joined_bases}
use Rattle.isa_kernel.specs.Derivation.{Within, Derives}
use Rattle.isa_kernel.specs.Theorem.{Theorem, IsDerived}
use Rattle.isa_kernel.specs.Inferences.{Answers, has_type, implies_eliminated}
use Rattle.isa_kernel.proofs.Members.{bares, Member-left, Member-right}
use Rattle.isa_subgoal.specs.Premises.{implies, premises, conclusion, rule_of}
use Rattle.isa_subgoal.specs.Elimination.{conclusion_unknown, elimination_of}
use Rattle.isa_subgoal.specs.Private.Steps.{introduced, eliminated_into}
use Rattle.isa_subgoal.proofs.Counts.{parts_made}
use Rattle.isa_subgoal.proofs.Stating.{bases_none}
use Rattle.isa_subgoal.proofs.Deriving.{ArePropositions, tm_eq_same, has_type_of, implies_proposition, propositions_append, derived_propositions}
use Rattle.isa_subgoal.proofs.Cutting.{more_hyps, fewer_none, eliminated_is, introduced_is, joined_within, more_within}

pub eliminated_into_is : (ps : List Tm) (b r : Tm) (B : List BaseEntry) → ArePropositions ps → IsProposition b → IsProposition r → eliminated_into ps (imp b r) (ps ++ imp b r ∷ []) (rule_of ps b B) ≡ Some (rule_of (ps ++ imp b r ∷ []) r B)
unfolding eliminated_into
eliminated_into_is ps b r B w hb hr =
    let case : Tm = imp b r in
    let all : List Tm = ps ++ case ∷ [] in
    let hc : IsProposition case = implies_proposition (b ∷ []) r (hb, tt) hr in
    let H : List Tm = more_hyps [] ps in
    let K : List Tm = joined (case ∷ []) H in
    let k_in : Within K all = joined_within (case ∷ []) H all (λ t m. Member-right t ps (case ∷ []) m) (more_within [] ps all (λ t m. absurd m) (λ t m. Member-left t ps (case ∷ []) m)) in
    let met : Theorem = record { hyps = H; prop = b; base = B } in
    let late = λ (a : Theorem). option_and_then {T = Theorem} {U = Theorem} (λ g. introduced all g) (implies_eliminated a met) in
    ap (λ o. option_and_then {T = Theorem} {U = Theorem} (λ m. option_and_then {T = Theorem} {U = Theorem} (λ a. option_and_then {T = Theorem} {U = Theorem} (λ g. introduced all g) (implies_eliminated a m)) (cond (has_type case prop) (Some (record { hyps = case ∷ []; prop = case; base = [] })) None)) o) (eliminated_is ps [] B b w)
    ∙ ap (λ c. option_and_then {T = Theorem} {U = Theorem} late (cond c (Some (record { hyps = case ∷ []; prop = case; base = [] })) None)) (has_type_of case hc)
    ∙ ap (λ c. option_and_then {T = Theorem} {U = Theorem} (λ g. introduced all g) (cond c (Some (record { hyps = K; prop = r; base = joined_bases [] B })) None)) (tm_eq_same b)
    ∙ ap (λ C. introduced all (record { hyps = K; prop = r; base = C })) (bases_none B)
    ∙ introduced_is all K B r (propositions_append ps (case ∷ []) w (hc, tt))
    ∙ ap (λ L. Some (record { hyps = L; prop = implies all r; base = B })) (fewer_none all K k_in)

-- the answer of the call
pub eliminates : (n : ℕ) (th : Theorem) (ps : List Tm) (b r case : Tm) (all : List Tm) (answer : Result Theorem InferenceError) → IsDerived th → th.hyps ≡ [] → ps ≡ premises th.prop → b ≡ conclusion th.prop → r ≡ conclusion_unknown n → case ≡ imp b r → all ≡ ps ++ case ∷ [] → Answers answer (eliminated_into ps case all th) → Answers answer (Some (elimination_of n th))
eliminates n th ps b r case all answer d h p q u k l a =
    let whole : th ≡ rule_of (premises th.prop) (conclusion th.prop) th.base = λ i. record { hyps = h i; prop = parts_made th.prop i; base = th.base } in
    let w = derived_propositions (premises th.prop) (conclusion th.prop) (subst (λ (x : Theorem). Derives (propositions x.base) (bares x.hyps) (bare x.prop)) whole d.derivation) in
    let made : eliminated_into ps case all th ≡ Some (elimination_of n th) =
    (λ i. eliminated_into (p i) ((k ∙ (λ j. imp (q j) (u j))) i) ((l ∙ (λ j. p j ++ (k ∙ (λ m. imp (q m) (u m))) j ∷ [])) i) (whole i))
    ∙ eliminated_into_is (premises th.prop) (conclusion th.prop) (conclusion_unknown n) th.base w.0 w.1 refl in
    subst (λ (o : Option Theorem). Answers answer o) made a
