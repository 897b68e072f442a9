-- The premises of a proposition and of a rule.
use Rattle.std.proofs.Common.{◌≡◌, ℕ, zero, suc, ◌-◌, ◌<◌, arith, append_assoc, List, [], ◌∷◌, ◌++◌, map, Option, Some, None, refl, sym, ap, ◌∙◌, subst}
use Rattle.std.specs.Prelude.{option_and_then, option_map}
use Rattle.isa_terms.specs.Terms.{Tm, bare}
use Rattle.isa_kernel.specs.Axioms.{propositions}
use Rattle.isa_kernel.specs.Logic.{imp}
use Rattle.isa_kernel.specs.Forms.{imp_parts}
use Rattle.isa_kernel.specs.Derivation.{Derives}
use Rattle.isa_kernel.specs.Theorem.{Theorem, IsDerived}
use Rattle.isa_terms.proofs.Functions.{bind_some}
use Rattle.isa_kernel.proofs.Parts.{imp_made}
use Rattle.std.proofs.Common.{length}
use Rattle.isa_subgoal.specs.Premises.{implies, premises_of, rule_form}
use Rattle.isa_subgoal.proofs.Deriving.{ArePropositions, derived_propositions}

pub premises_made : (n : ℕ) (p : Tm) (at : List Tm × Tm) → premises_of n p ≡ Some at → p ≡ implies at.0 at.1
premises_made zero p at e = let q : ([], p) ≡ at = cc (e) in λ j. implies ((q j).0) ((q j).1)
premises_made (suc n) p at e =
    let b = bind_some (imp_parts p) _ e in
    let r = bind_some (premises_of n b.0.1) _ b.2 in
    let q : (b.0.0 ∷ r.0.0, r.0.1) ≡ at = cc (r.2) in
    imp_made p b.0 b.1 ∙ ap (imp b.0.0) (premises_made n b.0.1 r.0 r.1) ∙ (λ j. implies ((q j).0) ((q j).1))

pub rule_made : (n : ℕ) (th : Theorem) (at : List Tm × Tm) → rule_form n th ≡ Some at → th ≡ record { hyps = []; prop = implies at.0 at.1; base = th.base }
rule_made n th at e = go th.hyps refl e
  where
    go : (H : List Tm) → th.hyps ≡ H → elim H [ [] ↦ premises_of n th.prop | h ∷ hs ↦ None ] ≡ Some at → th ≡ record { hyps = []; prop = implies at.0 at.1; base = th.base }
    go [] h k = let m = premises_made n th.prop at k in λ j. record { hyps = h j; prop = m j; base = th.base }
    go (x ∷ xs) h k = cc

pub rule_propositions : (n : ℕ) (th : Theorem) (at : List Tm × Tm) → rule_form n th ≡ Some at → IsDerived th → ArePropositions at.0
rule_propositions n th at e d =
    let q = rule_made n th at e in
    (derived_propositions at.0 at.1 (subst (λ (x : Theorem). Derives (propositions th.base) (map bare th.hyps) (bare x.prop)) q d.derivation)).0

abbrev pub Form : Type 0
Form = List Tm × Tm

-- a premise in front of a rule's, and premises before them
abbrev pub with_first : Tm → Form → Form
with_first p r = (p ∷ r.0, r.1)

abbrev pub with_before : List Tm → Form → Form
with_before d r = (d ++ r.0, r.1)

pub premises_step : (n : ℕ) (t p q : Tm) → 0 < n → imp_parts t ≡ Some (p, q) → premises_of n t ≡ option_map {T = Form} {U = Form} (with_first p) (premises_of (n - 1) q)
premises_step zero t p q l e = absurd (omega (arith, l))
premises_step (suc n) t p q l e = let m : n ≡ suc n - 1 = omega arith in ap (λ o. option_and_then {T = Tm × Tm} {U = Form} (λ parts. option_and_then {T = Form} {U = Form} (λ rest. Some (parts.0 ∷ rest.0, rest.1)) (premises_of n parts.1)) o) e ∙ go (premises_of n q) ∙ ap (λ k. option_map {T = Form} {U = Form} (with_first p) (premises_of k q)) m
  where
    go : (o : Option Form) → option_and_then {T = Form} {U = Form} (λ rest. Some (p ∷ rest.0, rest.1)) o ≡ option_map {T = Form} {U = Form} (with_first p) o
    go None = refl
    go (Some r) = refl

behind_done : (o : Option Form) (d : List Tm) (p : Tm) → option_map {T = Form} {U = Form} (with_before (d ++ p ∷ [])) o ≡ option_map {T = Form} {U = Form} (with_before d) (option_map {T = Form} {U = Form} (with_first p) o)
behind_done None d p = refl
behind_done (Some r) d p = let q : (d ++ p ∷ []) ++ r.0 ≡ d ++ (p ∷ r.0) = append_assoc d (p ∷ []) r.0 in λ i. Some (q i, r.1)

-- a premise behind those that are done
pub premises_more : (n : ℕ) (t p q : Tm) (d e : List Tm) → 0 < n → imp_parts t ≡ Some (p, q) → e ≡ d ++ p ∷ [] → option_map {T = Form} {U = Form} (λ r. (e ++ r.0, r.1)) (premises_of (n - 1) q) ≡ option_map {T = Form} {U = Form} (λ r. (d ++ r.0, r.1)) (premises_of n t)
premises_more n t p q d e l i h =
    ap (λ ts. option_map {T = Form} {U = Form} (with_before ts) (premises_of (n - 1) q)) h
    ∙ behind_done (premises_of (n - 1) q) d p
    ∙ ap (λ o. option_map {T = Form} {U = Form} (with_before d) o) (sym (premises_step n t p q l i))

pub premises_all : (ss : List Tm) (c : Tm) → premises_of (length ss) (implies ss c) ≡ Some (ss, c)
premises_all [] c = refl
premises_all (p ∷ ss) c = ap (λ o. option_and_then {T = List Tm × Tm} {U = List Tm × Tm} (λ rest. Some (p ∷ rest.0, rest.1)) o) (premises_all ss c)

pub same_length : (f : Tm → Tm) (ss : List Tm) → length (map f ss) ≡ length ss
same_length f [] = refl
same_length f (s ∷ ss) = ap suc (same_length f ss)
