-- The inferences of the calls, one after the other, give what the calls promise, and none where these refuse.
use Rattle.std.specs.Prelude.{option_and_then}
use Rattle.std.proofs.Common.{◌≡◌, inl, inr, List, [], ◌∷◌, ◌++◌, map, Bool, true, false, cond, ◌&&◌, ◌||◌, append-nil, Option, Some, None, refl, sym, ap, ◌∙◌, subst}
use Rattle.isa_terms.specs.Terms.{Tm, bare}
use Rattle.isa_terms.specs.Equal.{tm_eq}
use Rattle.isa_terms.specs.Sets.{has, missing, joined}
use Rattle.isa_terms.proofs.Typed.{Typed, typed_of_type}
use Rattle.isa_terms.proofs.Functions.{bind_some, cond_some}
use Rattle.isa_kernel.specs.Logic.{prop, imp, IsProposition}
use Rattle.isa_terms.proofs.Bare.{tm_decides}
use Rattle.isa_terms.specs.Norm.{norm}
use Rattle.isa_terms.specs.Normal.{IsNormal}
use Rattle.isa_terms.specs.Facts.{is_normal}
use Rattle.isa_terms.specs.Instances.{Each}
use Rattle.isa_terms.proofs.KnownNormal.{normal_told}
use Rattle.isa_kernel.specs.Forms.{imp_parts}
use Rattle.isa_kernel.specs.declared.base.BaseEntry.{BaseEntry}
use Rattle.isa_kernel.specs.Axioms.{joined_bases}
use Rattle.isa_kernel.specs.Derivation.{Member}
use Rattle.isa_kernel.specs.Theorem.{Theorem, IsDerived}
use Rattle.isa_kernel.specs.Inferences.{has_type, assumed, implies_eliminated}
use Rattle.isa_kernel.specs.Derived.{renamed, are_propositions, behind_premises, conclusion_behind, with_premises}
use Rattle.isa_kernel.proofs.Parts.{imp_made}
use Rattle.isa_kernel.proofs.Sound.{has_type_is}
use Rattle.isa_kernel.proofs.Members.{Member-left, Member-right}
use Rattle.isa_subgoal.specs.Premises.{implies, rule_of}
use Rattle.isa_subgoal.specs.Shape.{is_in_form, moved, shaped}
use Rattle.isa_subgoal.specs.Rules.{cut, rotated, raised, can_be_shaped, reshaped}
use Rattle.isa_subgoal.specs.Private.Reshaping.{met_form, met_forms, reshaped_by, are_in_form}
use Rattle.isa_subgoal.proofs.Shaping.{IsMet, met_form_is, shaped_propositions}
use Rattle.isa_subgoal.specs.Private.Steps.{eliminated, introduced, cut_by, rotated_by, met_under, raised_by}
use Rattle.isa_subgoal.proofs.Deriving.{ArePropositions, tm_eq_same, has_type_of, implies_append, implies_typed, implies_proposition, derived_propositions, propositions_under}
use Rattle.isa_subgoal.proofs.Cutting.{more_hyps, met_hyps, eliminated_is}
use Rattle.isa_subgoal.proofs.AtOnce.{introduced_at_once, eliminated_at_once, premise_proposition}
use Rattle.isa_subgoal.proofs.Sets.{member_has, missing_twice, missing_swap, joined_alike, joined_nothing, premises_add_nothing}

abbrev theorem : List Tm → Tm → List BaseEntry → Theorem
theorem H p B = record { hyps = H; prop = p; base = B }

pub typed_derived : (th : Theorem) → IsDerived th → Typed [] th.prop prop
typed_derived th d = typed_of_type [] th.prop prop (derived_propositions [] th.prop d.derivation).1

-- ---- propositions
pub are_of : (ps : List Tm) → ArePropositions ps → are_propositions ps ≡ true
are_of [] w = refl
are_of (p ∷ ps) w = λ i. has_type_of p w.0 i && are_of ps w.1 i

and_parts : (a b : Bool) → (a && b) ≡ true → (a ≡ true) × (b ≡ true)
and_parts true b e = (refl, e)
and_parts false b e = cc

pub of_are : (ps : List Tm) → are_propositions ps ≡ true → ArePropositions ps
of_are [] e = tt
of_are (p ∷ ps) e = let both = and_parts (has_type p prop) (are_propositions ps) e in (has_type_is p prop both.0, of_are ps both.1)

-- the premises that a proposition has are propositions, and so is what is behind them
pub behind_typed : (ps : List Tm) (t q : Tm) → Typed [] t prop → conclusion_behind ps t ≡ Some q → ArePropositions ps × Typed [] q prop
behind_typed [] t q d e = let same : t ≡ q = cc (e) in (tt, subst (λ x. Typed [] x prop) same d)
behind_typed (p ∷ ps) t q d e =
    let i = bind_some (imp_parts t) _ e in
    let c = cond_some (tm_eq i.0.0 p) (conclusion_behind ps i.0.1) i.2 in
    let w = premise_proposition t i.0 p d i.1 c.0 in
    let rest = behind_typed ps i.0.1 q w.1 c.1 in
    ((w.0, rest.0), rest.1)

behind_append : (us vs : List Tm) (t : Tm) → conclusion_behind (us ++ vs) t ≡ option_and_then {T = Tm} {U = Tm} (λ q. conclusion_behind vs q) (conclusion_behind us t)
behind_append [] vs t = refl
behind_append (u ∷ us) vs t = either (imp_parts t) (λ q. behind_append us vs q)
  where
    test : (q : Tm) (b : Bool) → conclusion_behind (us ++ vs) q ≡ option_and_then {T = Tm} {U = Tm} (λ x. conclusion_behind vs x) (conclusion_behind us q) → cond b (conclusion_behind (us ++ vs) q) None ≡ option_and_then {T = Tm} {U = Tm} (λ x. conclusion_behind vs x) (cond b (conclusion_behind us q) None)
    test q true h = h
    test q false h = refl

    either : (o : Option (Tm × Tm)) → ((q : Tm) → conclusion_behind (us ++ vs) q ≡ option_and_then {T = Tm} {U = Tm} (λ x. conclusion_behind vs x) (conclusion_behind us q)) → option_and_then {T = Tm × Tm} {U = Tm} (λ parts. cond (tm_eq parts.0 u) (conclusion_behind (us ++ vs) parts.1) None) o ≡ option_and_then {T = Tm} {U = Tm} (λ x. conclusion_behind vs x) (option_and_then {T = Tm × Tm} {U = Tm} (λ parts. cond (tm_eq parts.0 u) (conclusion_behind us parts.1) None) o)
    either None h = refl
    either (Some p) h = test p.1 (tm_eq p.0 u) (h p.1)

-- the premises of an implication are behind none
pub behind_made : (ps : List Tm) (c : Tm) → conclusion_behind ps (implies ps c) ≡ Some c
behind_made [] c = refl
behind_made (p ∷ ps) c = ap (λ b. cond b (conclusion_behind ps (implies ps c)) None) (tm_eq_same p) ∙ behind_made ps c

introduced_are : (ps H : List Tm) (q : Tm) (B : List BaseEntry) → ArePropositions ps → introduced ps (theorem H q B) ≡ Some (theorem (missing ps H) (implies ps q) B)
introduced_are ps H q B w = introduced_at_once ps (theorem H q B) ∙ ap (λ b. cond b (Some (behind_premises ps (theorem H q B))) None) (are_of ps w)

left_has : (us vs : List Tm) (t : Tm) → Member t us → has (us ++ vs) t ≡ true
left_has us vs t m = member_has t (us ++ vs) (Member-left t us vs m)

right_has : (us vs : List Tm) (t : Tm) → Member t vs → has (us ++ vs) t ≡ true
right_has us vs t m = member_has t (us ++ vs) (Member-right t us vs m)

-- ---- cut
module _ (us bs : List Tm) (th rule : Theorem) where
  abbrev H' : List Tm
  H' = with_premises th.hyps us

  abbrev K' : List Tm
  K' = with_premises rule.hyps bs

  abbrev C : List BaseEntry
  C = joined_bases th.base rule.base

  abbrev answer : Tm → Theorem
  answer c = theorem (missing (us ++ bs) (joined th.hyps rule.hyps)) (implies (us ++ bs) c) C

  abbrev last : Theorem → Option Theorem
  last x = option_and_then {T = Theorem} {U = Theorem} (λ inner. introduced us inner) (introduced bs x)

  abbrev late : Theorem → Theorem → Option Theorem
  late front met = option_and_then {T = Theorem} {U = Theorem} last (implies_eliminated front met)

  abbrev wanted : Tm → Tm → Option Theorem
  wanted q r = option_and_then {T = Tm × Tm} {U = Theorem} (λ parts. cond (tm_eq parts.0 r) (Some (answer parts.1)) None) (imp_parts q)

  left_over : missing us (missing bs (joined H' K')) ≡ missing (us ++ bs) (joined th.hyps rule.hyps)
  left_over = missing_twice us bs (joined H' K')
      ∙ joined_alike (us ++ bs) H' K' th.hyps rule.hyps (premises_add_nothing (us ++ bs) th.hyps us (left_has us bs)) (premises_add_nothing (us ++ bs) rule.hyps bs (right_has us bs))

  put_back : (c : Tm) → ArePropositions us → ArePropositions bs → last (theorem (joined H' K') c C) ≡ Some (answer c)
  put_back c wu wb =
      ap (λ o. option_and_then {T = Theorem} {U = Theorem} (λ inner. introduced us inner) o) (introduced_are bs (joined H' K') c C wb)
      ∙ introduced_are us (missing bs (joined H' K')) (implies bs c) C wu
      ∙ (λ i. Some (theorem (left_over i) (sym (implies_append us bs c) i) C))

  test : (b : Bool) (c : Tm) → ArePropositions us → ArePropositions bs → option_and_then {T = Theorem} {U = Theorem} last (cond b (Some (theorem (joined H' K') c C)) None) ≡ cond b (Some (answer c)) None
  test true c wu wb = put_back c wu wb
  test false c wu wb = refl

  middle : (q r : Tm) (o : Option (Tm × Tm)) → ArePropositions us → ArePropositions bs →
      option_and_then {T = Theorem} {U = Theorem} last (option_and_then {T = Tm × Tm} {U = Theorem} (λ parts. cond (tm_eq parts.0 r) (Some (theorem (joined H' K') parts.1 C)) None) o)
      ≡ option_and_then {T = Tm × Tm} {U = Theorem} (λ parts. cond (tm_eq parts.0 r) (Some (answer parts.1)) None) o
  middle q r None wu wb = refl
  middle q r (Some p) wu wb = test (tm_eq p.0 r) p.1 wu wb

  behind_rule : (q : Tm) (o : Option Tm) → conclusion_behind bs rule.prop ≡ o → Typed [] rule.prop prop → ArePropositions us →
      option_and_then {T = Theorem} {U = Theorem} (λ met. late (theorem H' q th.base) met) (option_and_then {T = Tm} {U = Theorem} (λ r. Some (theorem K' r rule.base)) o)
      ≡ option_and_then {T = Tm} {U = Theorem} (λ r. wanted q r) o
  behind_rule q None e d wu = refl
  behind_rule q (Some r) e d wu = middle q r (imp_parts q) wu (behind_typed bs rule.prop r d e).0

  behind_both : (o : Option Tm) → conclusion_behind us th.prop ≡ o → Typed [] th.prop prop → Typed [] rule.prop prop →
      option_and_then {T = Theorem} {U = Theorem} (λ front. option_and_then {T = Theorem} {U = Theorem} (λ met. late front met) (eliminated bs rule)) (option_and_then {T = Tm} {U = Theorem} (λ q. Some (theorem H' q th.base)) o)
      ≡ option_and_then {T = Tm} {U = Theorem} (λ q. option_and_then {T = Tm} {U = Theorem} (λ r. wanted q r) (conclusion_behind bs rule.prop)) o
  behind_both None e d f = refl
  behind_both (Some q) e d f =
      ap (λ o. option_and_then {T = Theorem} {U = Theorem} (λ met. late (theorem H' q th.base) met) o) (eliminated_at_once bs rule.hyps rule.prop rule.base f)
      ∙ behind_rule q (conclusion_behind bs rule.prop) refl f (behind_typed us th.prop q d e).0

  pub cut_is_closed : IsDerived th → IsDerived rule → cut_by us bs th rule ≡ cut us bs th rule
  unfolding cut_by
  cut_is_closed d f =
      ap (λ o. option_and_then {T = Theorem} {U = Theorem} (λ front. option_and_then {T = Theorem} {U = Theorem} (λ met. late front met) (eliminated bs rule)) o) (eliminated_at_once us th.hyps th.prop th.base (typed_derived th d))
      ∙ behind_both (conclusion_behind us th.prop) refl (typed_derived th d) (typed_derived rule f)

-- ---- rotation
module _ (us vs : List Tm) (th : Theorem) where
  abbrev once : List Tm
  once = with_premises th.hyps us

  abbrev twice : List Tm
  twice = with_premises once vs

  abbrev back : Theorem → Option Theorem
  back x = option_and_then {T = Theorem} {U = Theorem} (λ y. introduced vs y) (introduced us x)

  abbrev turned : Tm → Theorem
  turned c = theorem (missing (us ++ vs) th.hyps) (implies (vs ++ us) c) th.base

  hyps_left : missing vs (missing us twice) ≡ missing (us ++ vs) th.hyps
  hyps_left =
      missing_swap vs us twice
      ∙ missing_twice us vs twice
      ∙ premises_add_nothing (us ++ vs) once vs (right_has us vs)
      ∙ premises_add_nothing (us ++ vs) th.hyps us (left_has us vs)

  second : (q : Tm) (o : Option Tm) → conclusion_behind vs q ≡ o → Typed [] q prop → ArePropositions us →
      option_and_then {T = Theorem} {U = Theorem} back (option_and_then {T = Tm} {U = Theorem} (λ c. Some (theorem twice c th.base)) o) ≡ option_and_then {T = Tm} {U = Theorem} (λ c. Some (turned c)) o
  second q None e d w = refl
  second q (Some c) e d w =
      ap (λ o. option_and_then {T = Theorem} {U = Theorem} (λ y. introduced vs y) o) (introduced_are us twice c th.base w)
      ∙ introduced_are vs (missing us twice) (implies us c) th.base (behind_typed vs q c d e).0
      ∙ (λ i. Some (theorem (hyps_left i) (sym (implies_append vs us c) i) th.base))

  first : (o : Option Tm) → conclusion_behind us th.prop ≡ o → Typed [] th.prop prop →
      option_and_then {T = Theorem} {U = Theorem} (λ a. option_and_then {T = Theorem} {U = Theorem} back (eliminated vs a)) (option_and_then {T = Tm} {U = Theorem} (λ q. Some (theorem once q th.base)) o)
      ≡ option_and_then {T = Tm} {U = Theorem} (λ c. Some (turned c)) (option_and_then {T = Tm} {U = Tm} (λ q. conclusion_behind vs q) o)
  first None e d = refl
  first (Some q) e d =
      let w = behind_typed us th.prop q d e in
      ap (λ o. option_and_then {T = Theorem} {U = Theorem} back o) (eliminated_at_once vs once q th.base w.1)
      ∙ second q (conclusion_behind vs q) refl w.1 w.0

  pub rotated_is_closed : IsDerived th → rotated_by us vs th ≡ rotated us vs th
  unfolding rotated_by
  rotated_is_closed d =
      ap (λ o. option_and_then {T = Theorem} {U = Theorem} (λ a. option_and_then {T = Theorem} {U = Theorem} back (eliminated vs a)) o) (eliminated_at_once us th.hyps th.prop th.base (typed_derived th d))
      ∙ first (conclusion_behind us th.prop) refl (typed_derived th d)
      ∙ ap (λ o. option_and_then {T = Tm} {U = Theorem} (λ c. Some (turned c)) o) (sym (behind_append us vs th.prop))

-- ---- assumptions
more_is : (H ps : List Tm) → more_hyps H ps ≡ with_premises H ps
more_is H [] = refl
more_is H (p ∷ ps) = more_is (joined H (p ∷ [])) ps

none_twice : {A B D : Type 0} (o : Option A) (f : A → Option B) → option_and_then {T = A} {U = D} (λ a. option_and_then {T = B} {U = D} (λ b. None) (f a)) o ≡ None
none_twice None f = refl
none_twice (Some a) f = go (f a)
  where
    go : {B D : Type 0} (p : Option B) → option_and_then {T = B} {U = D} (λ b. None) p ≡ None
    go None = refl
    go (Some b) = refl

none_once : {A D : Type 0} (o : Option A) → option_and_then {T = A} {U = D} (λ a. None) o ≡ None
none_once None = refl
none_once (Some a) = refl

module _ (hs : List Tm) (w : ArePropositions hs) where
  abbrev cores : List Tm → List Tm → List BaseEntry → Option Tm → Option Theorem
  cores H ps B o = option_and_then {T = Tm} {U = Theorem} (λ c. Some (theorem (met_hyps H hs ps) c B)) o

  abbrev met_of : Tm → List Tm
  met_of p = more_hyps (implies hs p ∷ []) hs

  module _ (p : Tm) (ps H : List Tm) (t : Tm) (B : List BaseEntry) where
    abbrev step_on : Option (Tm × Tm) → Theorem → Option Theorem
    step_on o b = option_and_then {T = Theorem} {U = Theorem} (λ n. met_under hs ps n) (option_and_then {T = Tm × Tm} {U = Theorem} (λ parts. cond (tm_eq parts.0 b.prop) (Some (theorem (joined H b.hyps) parts.1 (joined_bases B b.base))) None) o)

    abbrev by_steps : Option (Tm × Tm) → Option Theorem
    by_steps o = option_and_then {T = Theorem} {U = Theorem} (λ a. option_and_then {T = Theorem} {U = Theorem} (λ b. step_on o b) (eliminated hs a)) (assumed (implies hs p))

    abbrev by_premises : Option (Tm × Tm) → Option Theorem
    by_premises o = cores H (p ∷ ps) B (option_and_then {T = Tm × Tm} {U = Tm} (λ parts. cond (tm_eq parts.0 p) (conclusion_behind ps parts.1) None) o)

    assumption_met : IsProposition p → (o : Option (Tm × Tm)) → by_steps o ≡ step_on o (theorem (met_of p) p [])
    assumption_met h o =
        ap (λ b. option_and_then {T = Theorem} {U = Theorem} (λ a. option_and_then {T = Theorem} {U = Theorem} (λ b. step_on o b) (eliminated hs a)) (cond b (Some (theorem (implies hs p ∷ []) (implies hs p) [])) None)) (has_type_of (implies hs p) (implies_proposition hs p w h))
        ∙ ap (λ x. option_and_then {T = Theorem} {U = Theorem} (λ b. step_on o b) x) (eliminated_is hs (implies hs p ∷ []) [] p w)

    premise_met : (q : Tm × Tm) → IsProposition p → tm_eq q.0 p ≡ true → met_under hs ps (theorem (joined H (met_of p)) q.1 B) ≡ cores (joined H (met_of p)) ps B (conclusion_behind ps q.1) → by_steps (Some q) ≡ by_premises (Some q)
    premise_met q v k ih =
        assumption_met v (Some q)
        ∙ ap (λ b. option_and_then {T = Theorem} {U = Theorem} (λ n. met_under hs ps n) (cond b (Some (theorem (joined H (met_of p)) q.1 (joined_bases B []))) None)) k
        ∙ ap (λ D. met_under hs ps (theorem (joined H (met_of p)) q.1 D)) (append-nil B)
        ∙ ih
        ∙ ap (λ b. cores H (p ∷ ps) B (cond b (conclusion_behind ps q.1) None)) (sym k)

    premise_refused : (q : Tm × Tm) (b : Bool) → has_type (implies hs p) prop ≡ b → tm_eq q.0 p ≡ false → by_steps (Some q) ≡ None
    premise_refused q true h k =
        let v = implies_typed hs p (typed_of_type [] (implies hs p) prop (has_type_is (implies hs p) prop h)) in
        assumption_met v.1 (Some q)
        ∙ ap (λ b. option_and_then {T = Theorem} {U = Theorem} (λ n. met_under hs ps n) (cond b (Some (theorem (joined H (met_of p)) q.1 (joined_bases B []))) None)) k
    premise_refused q false h k = ap (λ b. option_and_then {T = Theorem} {U = Theorem} (λ a. option_and_then {T = Theorem} {U = Theorem} (λ b. step_on (Some q) b) (eliminated hs a)) (cond b (Some (theorem (implies hs p ∷ []) (implies hs p) [])) None)) h

    premise_tested : (q : Tm × Tm) (b : Bool) → tm_eq q.0 p ≡ b → (tm_eq q.0 p ≡ true → IsProposition p) → (tm_eq q.0 p ≡ true → met_under hs ps (theorem (joined H (met_of p)) q.1 B) ≡ cores (joined H (met_of p)) ps B (conclusion_behind ps q.1)) → by_steps (Some q) ≡ by_premises (Some q)
    premise_tested q true k v ih = premise_met q (v k) k (ih k)
    premise_tested q false k v ih = premise_refused q (has_type (implies hs p) prop) refl k ∙ ap (λ b. cores H (p ∷ ps) B (cond b (conclusion_behind ps q.1) None)) (sym k)

    premise_there : (o : Option (Tm × Tm)) → ((q : Tm × Tm) → o ≡ Some q → tm_eq q.0 p ≡ true → IsProposition p) → ((q : Tm × Tm) → o ≡ Some q → tm_eq q.0 p ≡ true → met_under hs ps (theorem (joined H (met_of p)) q.1 B) ≡ cores (joined H (met_of p)) ps B (conclusion_behind ps q.1)) → by_steps o ≡ by_premises o
    premise_there None v ih = none_twice (assumed (implies hs p)) (λ a. eliminated hs a)
    premise_there (Some q) v ih = premise_tested q (tm_eq q.0 p) refl (v q refl) (ih q refl)

  pub met_is_closed : (ps H : List Tm) (t : Tm) (B : List BaseEntry) → Typed [] t prop → met_under hs ps (theorem H t B) ≡ cores H ps B (conclusion_behind ps t)
  unfolding met_under
  met_is_closed [] H t B d = refl
  met_is_closed (p ∷ ps) H t B d =
      premise_there p ps H t B (imp_parts t)
      (λ q e k. (premise_proposition t q p d e k).0)
      (λ q e k. met_is_closed ps (joined H (met_of p)) q.1 B (premise_proposition t q p d e k).1)

-- what is met adds nothing to the hypotheses but the premises and the assumptions
met_adds_nothing : (S hs ps H : List Tm) → ((t : Tm) → Member t hs → has S t ≡ true) → ((t : Tm) → Member t (map (implies hs) ps) → has S t ≡ true) → missing S (met_hyps H hs ps) ≡ missing S H
met_adds_nothing S hs [] H a b = refl
met_adds_nothing S hs (p ∷ ps) H a b =
    let first : missing S (implies hs p ∷ []) ≡ [] = ap (λ c. cond c [] (implies hs p ∷ [])) (b (implies hs p) (inl refl)) in
    met_adds_nothing S hs ps (joined H (more_hyps (implies hs p ∷ []) hs)) a (λ t m. b t (inr m))
    ∙ joined_nothing S H (more_hyps (implies hs p ∷ []) hs) (ap (missing S) (more_is (implies hs p ∷ []) hs) ∙ premises_add_nothing S (implies hs p ∷ []) hs a ∙ first)

module _ (hs ps : List Tm) (th : Theorem) where
  abbrev news : List Tm
  news = map (implies hs) ps

  abbrev under : Tm → Theorem
  under c = theorem (missing (news ++ hs) th.hyps) (implies news (implies hs c)) th.base

  abbrev finish : Theorem → Option Theorem
  finish core = option_and_then {T = Theorem} {U = Theorem} (λ inner. introduced news inner) (introduced hs core)

  rest : (o : Option Tm) → conclusion_behind ps th.prop ≡ o → Typed [] th.prop prop → ArePropositions hs →
      option_and_then {T = Theorem} {U = Theorem} finish (option_and_then {T = Tm} {U = Theorem} (λ c. Some (theorem (met_hyps th.hyps hs ps) c th.base)) o)
      ≡ option_and_then {T = Tm} {U = Theorem} (λ c. cond true (Some (under c)) None) o
  rest None e d w = refl
  rest (Some c) e d w =
      let K : List Tm = met_hyps th.hyps hs ps in
      ap (λ o. option_and_then {T = Theorem} {U = Theorem} (λ inner. introduced news inner) o) (introduced_are hs K c th.base w)
      ∙ introduced_are news (missing hs K) (implies hs c) th.base (propositions_under hs ps w (behind_typed ps th.prop c d e).0)
      ∙ ap (λ L. Some (theorem L (implies news (implies hs c)) th.base)) (missing_twice news hs K ∙ met_adds_nothing (news ++ hs) hs ps th.hyps (right_has news hs) (left_has news hs))

  cases : (b : Bool) → are_propositions hs ≡ b → IsDerived th → raised_by hs ps th ≡ option_and_then {T = Tm} {U = Theorem} (λ c. cond b (Some (under c)) None) (conclusion_behind ps th.prop)
  unfolding raised_by
  cases true e d =
      ap (λ o. option_and_then {T = Theorem} {U = Theorem} finish o) (met_is_closed hs (of_are hs e) ps th.hyps th.prop th.base (typed_derived th d))
      ∙ rest (conclusion_behind ps th.prop) refl (typed_derived th d) (of_are hs e)
  cases false e d =
      let no : (x : Theorem) → introduced hs x ≡ None = λ x. introduced_at_once hs x ∙ ap (λ b. cond b (Some (behind_premises hs x)) None) e in
      (λ i. option_and_then {T = Theorem} {U = Theorem} (λ core. option_and_then {T = Theorem} {U = Theorem} (λ inner. introduced news inner) (no core i)) (met_under hs ps th))
      ∙ none_once (met_under hs ps th)
      ∙ sym (none_once (conclusion_behind ps th.prop))

  pub raised_is_closed : IsDerived th → raised_by hs ps th ≡ raised hs ps th
  raised_is_closed d = cases (are_propositions hs) refl d

-- of a rule without hypotheses
pub raised_is : (hs ps : List Tm) (B : List BaseEntry) (q : Tm) → ArePropositions hs → ArePropositions ps → raised hs ps (rule_of ps q B) ≡ Some (rule_of (map (implies hs) ps) (implies hs q) B)
raised_is hs ps B q w v =
    ap (λ o. option_and_then {T = Tm} {U = Theorem} (λ c. cond (are_propositions hs) (Some (rule_of (map (implies hs) ps) (implies hs c) B)) None) o) (behind_made ps q)
    ∙ ap (λ b. cond b (Some (rule_of (map (implies hs) ps) (implies hs q) B)) None) (are_of hs w)

-- ---- forms
behind_bare : (ps : List Tm) (t c : Tm) → conclusion_behind ps t ≡ Some c → bare (implies ps c) ≡ bare t
behind_bare [] t c e = let same : t ≡ c = cc (e) in ap bare (sym same)
behind_bare (p ∷ ps) t c e =
    let i = bind_some (imp_parts t) _ e in
    let k = cond_some (tm_eq i.0.0 p) (conclusion_behind ps i.0.1) i.2 in
    (λ j. imp (sym ((tm_decides i.0.0 p).0 k.0) j) (behind_bare ps i.0.1 c k.1 j)) ∙ ap bare (sym (imp_made t i.0 i.1))

met_forms_are : (ss H : List Tm) (t c : Tm) (B : List BaseEntry) → Typed [] t prop → can_be_shaped ss ≡ true → conclusion_behind ss t ≡ Some c → met_forms ss (theorem H t B) ≡ Some (theorem (with_premises H (map shaped ss)) c B)
unfolding met_forms
met_forms_are [] H t c B d n e = let same : t ≡ c = cc (e) in ap (λ x. Some (theorem H x B)) same
met_forms_are (s ∷ ss) H t c B d n e =
    let i = bind_some (imp_parts t) _ e in
    let k = cond_some (tm_eq i.0.0 s) (conclusion_behind ss i.0.1) i.2 in
    let v = premise_proposition t i.0 s d i.1 k.0 in
    let b = and_parts (is_in_form s || is_normal s) (can_be_shaped ss) n in
    let m : IsMet s (shaped s) (met_form s) = met_form_is s v.0 b.0 in
    let more : List Tm = joined H (shaped s ∷ []) in
    let met : tm_eq i.0.0 m.prop ≡ true = (tm_decides i.0.0 m.prop).1 ((tm_decides i.0.0 s).0 k.0 ∙ sym m.same) in
    ap (λ o. option_and_then {T = Theorem} {U = Theorem} (λ x. option_and_then {T = Theorem} {U = Theorem} (λ y. met_forms ss y) (implies_eliminated (theorem H t B) x)) o) m.found
    ∙ ap (λ o. option_and_then {T = Theorem} {U = Theorem} (λ y. met_forms ss y) (option_and_then {T = Tm × Tm} {U = Theorem} (λ parts. cond (tm_eq parts.0 m.prop) (Some (theorem more parts.1 (joined_bases B []))) None) o)) i.1
    ∙ ap (λ q. option_and_then {T = Theorem} {U = Theorem} (λ y. met_forms ss y) (cond q (Some (theorem more i.0.1 (joined_bases B []))) None)) met
    ∙ ap (λ D. met_forms ss (theorem more i.0.1 D)) (append-nil B)
    ∙ met_forms_are ss more i.0.1 c B v.1 b.1 k.1

-- the definition where the theorem has the premises
reshaped_there : (ss : List Tm) (th : Theorem) (c : Tm) → conclusion_behind ss th.prop ≡ Some c → can_be_shaped ss ≡ true → reshaped ss th ≡ Some (theorem (missing (map shaped ss) th.hyps) (implies (map shaped ss) c) th.base)
reshaped_there ss th c e n =
    ap (λ o. option_and_then {T = Tm} {U = Theorem} (λ q. cond (can_be_shaped ss) (Some (theorem (missing (map shaped ss) th.hyps) (implies (map shaped ss) q) th.base)) None) o) e
    ∙ ap (λ b. cond b (Some (theorem (missing (map shaped ss) th.hyps) (implies (map shaped ss) c) th.base)) None) n

pub reshaped_is_closed : (ss : List Tm) (th : Theorem) (c : Tm) → IsDerived th → conclusion_behind ss th.prop ≡ Some c → can_be_shaped ss ≡ true → reshaped_by ss th ≡ reshaped ss th
unfolding reshaped_by
reshaped_is_closed ss th c d e n =
    let fs : List Tm = map shaped ss in
    let w : ArePropositions fs = shaped_propositions ss (behind_typed ss th.prop c (typed_derived th d) e).0 in
    ap (λ o. option_and_then {T = Theorem} {U = Theorem} (λ core. introduced fs core) o) (met_forms_are ss th.hyps th.prop c th.base (typed_derived th d) n e)
    ∙ introduced_are fs (with_premises th.hyps fs) c th.base w
    ∙ ap (λ L. Some (theorem L (implies fs c) th.base)) (premises_add_nothing fs th.hyps fs (λ t m. member_has t fs m))
    ∙ sym (reshaped_there ss th c e n)

all_stay : (ss : List Tm) → are_in_form ss ≡ true → map shaped ss ≡ ss
all_stay [] e = refl
all_stay (s ∷ ss) e =
    let b = and_parts (is_in_form s) (are_in_form ss) e in
    λ i. ap (λ (c : Bool). cond c s (norm (moved s))) b.0 i ∷ all_stay ss b.1 i

-- where all premises have the form, and no hypothesis is there, the call's names alone come in
pub reshaped_is_renamed : (ss : List Tm) (th : Theorem) (c : Tm) → th.hyps ≡ [] → conclusion_behind ss th.prop ≡ Some c → can_be_shaped ss ≡ true → are_in_form ss ≡ true → renamed (implies ss c) th ≡ reshaped ss th
reshaped_is_renamed ss th c h e n f =
    ap (λ b. cond b (Some (theorem th.hyps (implies ss c) th.base)) None) ((tm_decides (implies ss c) th.prop).1 (behind_bare ss th.prop c e))
    ∙ (λ i. Some (theorem (h i) (implies (sym (all_stay ss f) i) c) th.base))
    ∙ ap (λ L. Some (theorem (missing (map shaped ss) L) (implies (map shaped ss) c) th.base)) (sym h)
    ∙ sym (reshaped_there ss th c e n)

pub reshaped_not_there : (ss : List Tm) (th : Theorem) → conclusion_behind ss th.prop ≡ None → reshaped ss th ≡ None
reshaped_not_there ss th e = ap (λ o. option_and_then {T = Tm} {U = Theorem} (λ q. cond (can_be_shaped ss) (Some (theorem (missing (map shaped ss) th.hyps) (implies (map shaped ss) q) th.base)) None) o) e

pub reshaped_not_normal : (ss : List Tm) (th : Theorem) → can_be_shaped ss ≡ false → reshaped ss th ≡ None
reshaped_not_normal ss th e =
    ap (λ b. option_and_then {T = Tm} {U = Theorem} (λ q. cond b (Some (theorem (missing (map shaped ss) th.hyps) (implies (map shaped ss) q) th.base)) None) (conclusion_behind ss th.prop)) e
    ∙ none_once (conclusion_behind ss th.prop)

can_be_normal : (ss : List Tm) → Each IsNormal ss → can_be_shaped ss ≡ true
can_be_normal [] n = refl
can_be_normal (s ∷ ss) n = λ i. or_second (is_in_form s) (is_normal s) (normal_told s n.0) i && can_be_normal ss n.1 i
  where
    or_second : (a b : Bool) → b ≡ true → (a || b) ≡ true
    or_second true b e = refl
    or_second false b e = e

-- of a theorem without hypotheses
pub reshaped_is : (ss : List Tm) (c : Tm) (B : List BaseEntry) → Each IsNormal ss → reshaped ss (rule_of ss c B) ≡ Some (rule_of (map shaped ss) c B)
reshaped_is ss c B n = reshaped_there ss (rule_of ss c B) c (behind_made ss c) (can_be_normal ss n)
