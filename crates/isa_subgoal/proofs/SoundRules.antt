-- What the inferences on premises give has a derivation where the rule has one; so lifted and renumbered rules have, and rules for elimination.
use Rattle.std.proofs.Common.{◌≡◌, ℕ, ◌+◌, ◌<◌, arith, length, List, [], ◌∷◌, ◌++◌, map, cond, Some, None, refl, sym, ap, ◌∙◌, subst}
use Rattle.isa_terms.specs.Terms.{Tm, bare}
use Rattle.isa_terms.specs.Equal.{tm_eq}
use Rattle.isa_terms.proofs.Bare.{tm_decides}
use Rattle.isa_terms.proofs.Functions.{bind_some, cond_some}
use Rattle.isa_kernel.specs.Logic.{imp}
use Rattle.isa_kernel.specs.Axioms.{propositions}
use Rattle.isa_kernel.specs.Derivation.{Derives}
use Rattle.isa_kernel.specs.Derived.{renamed}
use Rattle.isa_kernel.specs.Theorem.{Theorem, IsDerived}
use Rattle.isa_kernel.specs.Inferences.{assumed, implies_introduced, implies_eliminated, forall_introduced, forall_eliminated, instantiated}
use Rattle.isa_kernel.proofs.Members.{bares}
use Rattle.isa_kernel.proofs.Sound.{derived_some, assumed_sound, implies_introduced_sound, implies_eliminated_sound, forall_introduced_sound, forall_eliminated_sound}
use Rattle.isa_kernel.proofs.Instances.{instantiated_sound}
use Rattle.isa_subgoal.specs.declared.lift.Parameter.{Parameter}
use Rattle.isa_subgoal.specs.Premises.{implies, premises, conclusion, rule_form, rule_of}
use Rattle.isa_subgoal.specs.Elimination.{conclusion_unknown, elimination_of, EliminationIsDerived}
use Rattle.isa_subgoal.specs.Lift.{lift_over, lifted_prop, lifted_rule, IsLiftable, LiftedIsDerived}
use Rattle.isa_subgoal.specs.Renumbering.{renumbered_rule, IsBareRule, RenumberedIsDerived}
use Rattle.isa_subgoal.specs.Private.Reshaping.{opened}
use Rattle.isa_subgoal.specs.Private.Steps.{eliminated, introduced, met_under, raised_by, eliminated_into}
use Rattle.isa_subgoal.specs.Private.Lifting.{longest_name, variables_from, turned, lifted_entries, raised_at, specialized, quantified_over, met_over, lifted_over, lifted_by}
use Rattle.isa_subgoal.specs.Private.Renumbering.{numbers_in_types, numbers_in}
use Rattle.isa_subgoal.proofs.Counts.{parts_made}
use Rattle.isa_subgoal.proofs.Deriving.{derived_propositions}
use Rattle.isa_subgoal.proofs.Eliminating.{eliminated_into_is}
use Rattle.isa_subgoal.proofs.LiftingSteps.{lifted_by_gives}
use Rattle.isa_subgoal.proofs.Renumbered.{renumbered_instance}
use Rattle.isa_subgoal.proofs.Stating.{renamed_is}

renamed_sound : (p : Tm) (th x : Theorem) → renamed p th ≡ Some x → IsDerived th → IsDerived x
renamed_sound p th x e d =
    let c = cond_some (tm_eq p th.prop) _ e in
    let same : bare th.prop ≡ bare p = sym ((tm_decides p th.prop).0 c.0) in
    derived_some c.1 (record { derivation = subst (λ q. Derives (propositions th.base) (map bare th.hyps) q) same d.derivation })

pub eliminated_sound : (ps : List Tm) (th x : Theorem) → eliminated ps th ≡ Some x → IsDerived th → IsDerived x
unfolding eliminated
eliminated_sound [] th x e d = derived_some e d
eliminated_sound (p ∷ ps) th x e d =
    let a = bind_some (assumed p) _ e in
    let n = bind_some (implies_eliminated th a.0) _ a.2 in
    eliminated_sound ps n.0 x n.2 (implies_eliminated_sound th a.0 n.0 n.1 d (assumed_sound p a.0 a.1))

pub introduced_sound : (ps : List Tm) (th x : Theorem) → introduced ps th ≡ Some x → IsDerived th → IsDerived x
unfolding introduced
introduced_sound [] th x e d = derived_some e d
introduced_sound (p ∷ ps) th x e d =
    let i = bind_some (introduced ps th) _ e in
    implies_introduced_sound p i.0 x i.2 (introduced_sound ps th i.0 i.1 d)

under_sound : (hs ps : List Tm) (th x : Theorem) → met_under hs ps th ≡ Some x → IsDerived th → IsDerived x
unfolding met_under
under_sound hs [] th x e d = derived_some e d
under_sound hs (p ∷ ps) th x e d =
    let a = bind_some (assumed (implies hs p)) _ e in
    let b = bind_some (eliminated hs a.0) _ a.2 in
    let n = bind_some (implies_eliminated th b.0) _ b.2 in
    under_sound hs ps n.0 x n.2 (implies_eliminated_sound th b.0 n.0 n.1 d (eliminated_sound hs a.0 b.0 b.1 (assumed_sound (implies hs p) a.0 a.1)))

raised_sound : (hs ps : List Tm) (th x : Theorem) → raised_by hs ps th ≡ Some x → IsDerived th → IsDerived x
unfolding raised_by
raised_sound hs ps th x e d =
    let c = bind_some (met_under hs ps th) _ e in
    let i = bind_some (introduced hs c.0) _ c.2 in
    introduced_sound (map (implies hs) ps) i.0 x i.2 (introduced_sound hs c.0 i.0 i.1 (under_sound hs ps th c.0 c.1 d))

pub specialized_sound : (vs : List Tm) (th x : Theorem) → specialized vs th ≡ Some x → IsDerived th → IsDerived x
unfolding specialized
specialized_sound [] th x e d = derived_some e d
specialized_sound (v ∷ vs) th x e d =
    let n = bind_some (forall_eliminated v th) _ e in
    specialized_sound vs n.0 x n.2 (forall_eliminated_sound v th n.0 n.1 d)

pub quantified_sound : (vs : List Tm) (th x : Theorem) → quantified_over vs th ≡ Some x → IsDerived th → IsDerived x
unfolding quantified_over
quantified_sound [] th x e d = derived_some e d
quantified_sound (v ∷ vs) th x e d =
    let i = bind_some (quantified_over vs th) _ e in
    forall_introduced_sound v i.0 x i.2 (quantified_sound vs th i.0 i.1 d)

over_sound : (vs ps : List Tm) (th x : Theorem) → met_over vs ps th ≡ Some x → IsDerived th → IsDerived x
unfolding met_over
over_sound vs [] th x e d = derived_some e d
over_sound vs (p ∷ ps) th x e d =
    let a = bind_some (assumed p) _ e in
    let b = bind_some (specialized vs a.0) _ a.2 in
    let n = bind_some (implies_eliminated th b.0) _ b.2 in
    over_sound vs ps n.0 x n.2 (implies_eliminated_sound th b.0 n.0 n.1 d (specialized_sound vs a.0 b.0 b.1 (assumed_sound p a.0 a.1)))

lifted_sound : (vs ps : List Tm) (th x : Theorem) → lifted_over vs ps th ≡ Some x → IsDerived th → IsDerived x
unfolding lifted_over
lifted_sound vs ps th x e d =
    let c = bind_some (met_over vs ps th) _ e in
    let w = bind_some (quantified_over vs c.0) _ c.2 in
    introduced_sound ps w.0 x w.2 (quantified_sound vs c.0 w.0 w.1 (over_sound vs ps th c.0 c.1 d))

at_sound : (xs : List Parameter) (vs hs : List Tm) (th x : Theorem) → raised_at xs vs hs th ≡ Some x → IsDerived th → IsDerived x
unfolding raised_at
at_sound xs vs hs th x e d =
    let r = bind_some (instantiated (record { types = []; terms = lifted_entries xs vs th.prop [] }) th) _ e in
    let p = bind_some (rule_form (length (premises th.prop)) r.0) _ r.2 in
    raised_sound (map (opened vs 0) hs) p.0.0 r.0 x p.2 (instantiated_sound (record { types = []; terms = lifted_entries xs vs th.prop [] }) th r.0 r.1 d)

lifted_by_sound : (xs : List Parameter) (hs outer inner qs : List Tm) (w : Tm) (th x : Theorem) → lifted_by xs hs outer inner qs w th ≡ Some x → IsDerived th → IsDerived x
unfolding lifted_by
lifted_by_sound xs hs outer inner qs w th x e d =
    let r = bind_some (raised_at xs inner hs th) _ e in
    let l = bind_some (lifted_over outer qs r.0) _ r.2 in
    renamed_sound w l.0 x l.2 (lifted_sound outer qs r.0 l.0 l.1 (at_sound xs inner hs th r.0 r.1 d))

into_sound : (ps : List Tm) (case : Tm) (all : List Tm) (th x : Theorem) → eliminated_into ps case all th ≡ Some x → IsDerived th → IsDerived x
unfolding eliminated_into
into_sound ps case all th x e d =
    let m = bind_some (eliminated ps th) _ e in
    let a = bind_some (assumed case) _ m.2 in
    let g = bind_some (implies_eliminated a.0 m.0) _ a.2 in
    introduced_sound all g.0 x g.2 (implies_eliminated_sound a.0 m.0 g.0 g.1 (assumed_sound case a.0 a.1) (eliminated_sound ps th m.0 m.1 d))

-- ---- rules for resolution
pub lifted_derived : LiftedIsDerived
lifted_derived xs hs th l d =
    let n : ℕ = longest_name (lifted_prop xs hs th) + 1 in
    lifted_by_sound xs hs (variables_from n xs) (turned (variables_from n xs) []) (map (lift_over xs hs) (premises th.prop)) (lifted_prop xs hs th) th (lifted_rule xs hs th)
    (lifted_by_gives xs hs th n (omega arith) d l.hyps l.normal l.assumptions) d

pub renumbered_derived : RenumberedIsDerived
renumbered_derived n th b d = instantiated_sound (record { types = numbers_in_types n th.prop []; terms = numbers_in n th.prop [] }) th (renumbered_rule n th) (renumbered_instance n th b.hyps b.normal) d

pub elimination_derived : EliminationIsDerived
elimination_derived n th h d =
    let ps : List Tm = premises th.prop in
    let b : Tm = conclusion th.prop in
    let case : Tm = imp b (conclusion_unknown n) in
    let whole : th ≡ rule_of ps b th.base = λ i. record { hyps = h i; prop = parts_made th.prop i; base = th.base } in
    let w = derived_propositions ps b (subst (λ (x : Theorem). Derives (propositions x.base) (bares x.hyps) (bare x.prop)) whole d.derivation) in
    into_sound ps case (ps ++ case ∷ []) (rule_of ps b th.base) (elimination_of n th) (eliminated_into_is ps b (conclusion_unknown n) th.base w.0 w.1 refl) (subst (λ x. IsDerived x) whole d)
