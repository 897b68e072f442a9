-- Premises that are eliminated, or introduced, one after the other, and all at once.
use Rattle.std.specs.Prelude.{option_and_then, Result}
use Rattle.std.proofs.Common.{◌≡◌, List, [], ◌∷◌, Bool, true, false, cond, ◌||◌, ◌&&◌, Option, Some, None, refl, sym, ap, ◌∙◌, subst, append-nil}
use Rattle.isa_terms.specs.Terms.{Tm}
use Rattle.isa_terms.specs.Equal.{tm_eq}
use Rattle.isa_terms.specs.Sets.{has, missing, joined, without}
use Rattle.isa_terms.specs.Typing.{type_at}
use Rattle.isa_terms.proofs.Bare.{tm_decides, type_at_bare}
use Rattle.isa_terms.proofs.Typed.{Typed, type_of_typed, typed_of_type}
use Rattle.isa_kernel.specs.Logic.{prop, imp, IsProposition}
use Rattle.isa_kernel.specs.Forms.{imp_parts}
use Rattle.isa_kernel.specs.declared.base.BaseEntry.{BaseEntry}
use Rattle.isa_kernel.specs.declared.inference.InferenceError.{InferenceError}
use Rattle.isa_kernel.specs.Axioms.{joined_bases}
use Rattle.isa_kernel.specs.Theorem.{Theorem, IsDerived}
use Rattle.isa_kernel.specs.Inferences.{Answers, has_type, assumed, implies_introduced}
use Rattle.isa_kernel.specs.Derived.{are_propositions, discharged, conclusion_behind, with_premises, undischarged}
use Rattle.isa_kernel.proofs.Parts.{imp_made}
use Rattle.isa_kernel.proofs.Preserved.{imp_both}
use Rattle.isa_subgoal.specs.Premises.{implies}
use Rattle.isa_subgoal.specs.Private.Steps.{eliminated, introduced}
use Rattle.isa_subgoal.proofs.Deriving.{has_type_of, derived_propositions}

-- ---- introduced
without_missing : (p : Tm) (ps H : List Tm) → without p (missing ps H) ≡ missing (p ∷ ps) H
without_missing p ps [] = refl
without_missing p ps (h ∷ hs) = go (has ps h) (tm_eq p h) refl (without_missing p ps hs)
  where
    go : (b c : Bool) → tm_eq p h ≡ c → without p (missing ps hs) ≡ missing (p ∷ ps) hs → without p (cond b (missing ps hs) (h ∷ missing ps hs)) ≡ cond (c || b) (missing (p ∷ ps) hs) (h ∷ missing (p ∷ ps) hs)
    go true true e r = r
    go true false e r = r
    go false true e r = ap (λ d. cond d (without p (missing ps hs)) (h ∷ without p (missing ps hs))) e ∙ r
    go false false e r = ap (λ d. cond d (without p (missing ps hs)) (h ∷ without p (missing ps hs))) e ∙ ap (λ xs. h ∷ xs) r

pub missing_nothing : (H : List Tm) → missing [] H ≡ H
missing_nothing [] = refl
missing_nothing (h ∷ hs) = ap (λ xs. h ∷ xs) (missing_nothing hs)

pub introduced_at_once : (ps : List Tm) (th : Theorem) → introduced ps th ≡ discharged ps th
unfolding introduced
introduced_at_once [] th = λ i. Some (record { hyps = sym (missing_nothing th.hyps) i; prop = th.prop; base = th.base })
introduced_at_once (p ∷ ps) th =
    ap (λ o. option_and_then {T = Theorem} {U = Theorem} (λ x. implies_introduced p x) o) (introduced_at_once ps th)
    ∙ go (are_propositions ps) (has_type p prop)
    ∙ ap (λ hs. cond (has_type p prop && are_propositions ps) (Some (record { hyps = hs; prop = imp p (implies ps th.prop); base = th.base })) None) (without_missing p ps th.hyps)
  where
    go : (b c : Bool) → option_and_then {T = Theorem} {U = Theorem} (λ x. cond c (Some (record { hyps = without p x.hyps; prop = imp p x.prop; base = x.base })) None) (cond b (Some (record { hyps = missing ps th.hyps; prop = implies ps th.prop; base = th.base })) None)
        ≡ cond (c && b) (Some (record { hyps = without p (missing ps th.hyps); prop = imp p (implies ps th.prop); base = th.base })) None
    go true true = refl
    go true false = refl
    go false true = refl
    go false false = refl

pub introduces : (ps : List Tm) (th : Theorem) (answer : Result Theorem InferenceError) → Answers answer (discharged ps th) → Answers answer (introduced ps th)
introduces ps th answer a = subst (λ (o : Option Theorem). Answers answer o) (sym (introduced_at_once ps th)) a

-- ---- eliminated
abbrev theorem : List Tm → Tm → List BaseEntry → Theorem
theorem H p B = record { hyps = H; prop = p; base = B }

pub premise_proposition : (t : Tm) (q : Tm × Tm) (p : Tm) → Typed [] t prop → imp_parts t ≡ Some q → tm_eq q.0 p ≡ true → IsProposition p × Typed [] q.1 prop
premise_proposition t q p d e k =
    let both = imp_both (subst (λ u. Typed [] u prop) (imp_made t q e) d) in
    (sym (type_at_bare [] p) ∙ ap (type_at []) (sym ((tm_decides q.0 p).0 k)) ∙ type_at_bare [] q.0 ∙ type_of_typed both.0, both.1)

none_after : (b : Bool) (x : Theorem) → option_and_then {T = Theorem} {U = Theorem} (λ a. None) (cond b (Some x) None) ≡ None
none_after true x = refl
none_after false x = refl

module _ (p : Tm) (ps H : List Tm) (t : Tm) (B : List BaseEntry) where
  abbrev step_of : Tm × Tm → Theorem → Option Theorem
  step_of q a = option_and_then {T = Theorem} {U = Theorem} (λ x. eliminated ps x) (cond (tm_eq q.0 a.prop) (Some (theorem (joined H a.hyps) q.1 (joined_bases B a.base))) None)

  abbrev one_by_one : Option (Tm × Tm) → Option Theorem
  one_by_one o = option_and_then {T = Theorem} {U = Theorem} (λ a. option_and_then {T = Theorem} {U = Theorem} (λ x. eliminated ps x) (option_and_then {T = Tm × Tm} {U = Theorem} (λ parts. cond (tm_eq parts.0 a.prop) (Some (theorem (joined H a.hyps) parts.1 (joined_bases B a.base))) None) o)) (assumed p)

  abbrev behind : Option Tm → Option Theorem
  behind o = option_and_then {T = Tm} {U = Theorem} (λ r. Some (theorem (with_premises (joined H (p ∷ [])) ps) r B)) o

  abbrev at_once : Option (Tm × Tm) → Option Theorem
  at_once o = behind (option_and_then {T = Tm × Tm} {U = Tm} (λ parts. cond (tm_eq parts.0 p) (conclusion_behind ps parts.1) None) o)

  missed : (q : Tm × Tm) (c : Bool) → tm_eq q.0 p ≡ false → option_and_then {T = Theorem} {U = Theorem} (λ a. step_of q a) (cond c (Some (theorem (p ∷ []) p [])) None) ≡ None
  missed q true k = ap (λ b. option_and_then {T = Theorem} {U = Theorem} (λ x. eliminated ps x) (cond b (Some (theorem (joined H (p ∷ [])) q.1 (joined_bases B []))) None)) k
  missed q false k = refl

  test : (q : Tm × Tm) (b : Bool) → tm_eq q.0 p ≡ b → imp_parts t ≡ Some q → Typed [] t prop → (tm_eq q.0 p ≡ true → eliminated ps (theorem (joined H (p ∷ [])) q.1 B) ≡ undischarged ps (theorem (joined H (p ∷ [])) q.1 B)) → one_by_one (Some q) ≡ at_once (Some q)
  test q true k e d ih =
      ap (λ c. option_and_then {T = Theorem} {U = Theorem} (λ a. step_of q a) (cond c (Some (theorem (p ∷ []) p [])) None)) (has_type_of p (premise_proposition t q p d e k).0)
      ∙ ap (λ b. option_and_then {T = Theorem} {U = Theorem} (λ x. eliminated ps x) (cond b (Some (theorem (joined H (p ∷ [])) q.1 (joined_bases B []))) None)) k
      ∙ ap (λ C. eliminated ps (theorem (joined H (p ∷ [])) q.1 C)) (append-nil B)
      ∙ ih k
      ∙ ap (λ b. behind (cond b (conclusion_behind ps q.1) None)) (sym k)
  test q false k e d ih = missed q (has_type p prop) k ∙ ap (λ b. behind (cond b (conclusion_behind ps q.1) None)) (sym k)

  either : (o : Option (Tm × Tm)) → imp_parts t ≡ o → Typed [] t prop → ((q : Tm × Tm) → imp_parts t ≡ Some q → tm_eq q.0 p ≡ true → eliminated ps (theorem (joined H (p ∷ [])) q.1 B) ≡ undischarged ps (theorem (joined H (p ∷ [])) q.1 B)) → one_by_one o ≡ at_once o
  either None e d ih = none_after (has_type p prop) (theorem (p ∷ []) p [])
  either (Some q) e d ih = test q (tm_eq q.0 p) refl e d (λ k. ih q e k)

pub eliminated_at_once : (ps H : List Tm) (t : Tm) (B : List BaseEntry) → Typed [] t prop → eliminated ps (theorem H t B) ≡ undischarged ps (theorem H t B)
unfolding eliminated
eliminated_at_once [] H t B d = refl
eliminated_at_once (p ∷ ps) H t B d = either p ps H t B (imp_parts t) refl d (λ q e k. eliminated_at_once ps (joined H (p ∷ [])) q.1 B (premise_proposition t q p d e k).1)

pub eliminates : (ps : List Tm) (th : Theorem) (answer : Result Theorem InferenceError) → IsDerived th → Answers answer (undischarged ps th) → Answers answer (eliminated ps th)
eliminates ps th answer d a =
    let t : IsProposition th.prop = (derived_propositions [] th.prop d.derivation).1 in
    subst (λ (o : Option Theorem). Answers answer o) (sym (eliminated_at_once ps th.hyps th.prop th.base (typed_of_type [] th.prop prop t))) a
