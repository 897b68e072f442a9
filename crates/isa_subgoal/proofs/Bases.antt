-- The inferences on premises keep the base of a rule.
use Rattle.std.specs.Prelude.{not}
use Rattle.std.proofs.Common.{◌≡◌, length, ◌&&◌, List, [], ◌∷◌, map, Bool, true, false, cond, Option, Some, None, sym, ap, ◌∙◌, append-nil}
use Rattle.isa_terms.specs.Terms.{Tm}
use Rattle.isa_terms.specs.Equal.{tm_eq}
use Rattle.isa_terms.specs.Sets.{joined, without}
use Rattle.isa_terms.specs.Binding.{occurs_in, close}
use Rattle.isa_terms.specs.Instance.{Instance, in_tms, instance_of}
use Rattle.isa_terms.proofs.Functions.{bind_some, cond_some}
use Rattle.isa_kernel.specs.Logic.{prop, imp, all}
use Rattle.isa_kernel.specs.Forms.{imp_parts, quantifier_parts, free_parts, at}
use Rattle.isa_kernel.specs.Axioms.{joined_bases}
use Rattle.isa_kernel.specs.Theorem.{Theorem}
use Rattle.isa_kernel.specs.Inferences.{has_type, keeps, assumed, implies_introduced, implies_eliminated, forall_introduced, forall_eliminated, instantiated}
use Rattle.isa_subgoal.specs.declared.lift.Parameter.{Parameter}
use Rattle.isa_subgoal.specs.Premises.{implies, premises, rule_form}
use Rattle.isa_subgoal.specs.Private.Reshaping.{opened}
use Rattle.isa_subgoal.specs.Private.Steps.{eliminated, introduced, met_under, raised_by}
use Rattle.isa_subgoal.specs.Private.Lifting.{lifted_entries, raised_at, specialized, quantified_over, met_over, lifted_over, lifted_by}
use Rattle.isa_subgoal.proofs.Stating.{renamed_is}

-- ---- the inferences of the kernel
assumed_base : (p : Tm) (x : Theorem) → assumed p ≡ Some x → x.base ≡ []
assumed_base p x e =
    let c = cond_some (has_type p prop) _ e in
    let q : record { hyps = p ∷ []; prop = p; base = [] } ≡ x = cc (c.1) in
    ap (λ (y : Theorem). y.base) (sym q)

introduced_one : (p : Tm) (th x : Theorem) → implies_introduced p th ≡ Some x → x.base ≡ th.base
introduced_one p th x e =
    let c = cond_some (has_type p prop) _ e in
    let q : record { hyps = without p th.hyps; prop = imp p th.prop; base = th.base } ≡ x = cc (c.1) in
    ap (λ (y : Theorem). y.base) (sym q)

eliminated_one : (ab a x : Theorem) → implies_eliminated ab a ≡ Some x → x.base ≡ joined_bases ab.base a.base
eliminated_one ab a x e =
    let i = bind_some (imp_parts ab.prop) _ e in
    let c = cond_some (tm_eq i.0.0 a.prop) _ i.2 in
    let q : record { hyps = joined ab.hyps a.hyps; prop = i.0.1; base = joined_bases ab.base a.base } ≡ x = cc (c.1) in
    ap (λ (y : Theorem). y.base) (sym q)

specialized_one : (t : Tm) (th x : Theorem) → forall_eliminated t th ≡ Some x → x.base ≡ th.base
specialized_one t th x e =
    let i = bind_some (quantifier_parts th.prop) _ e in
    let c = cond_some (has_type t i.0.0) _ i.2 in
    let q : record { hyps = th.hyps; prop = at i.0.1 t; base = th.base } ≡ x = cc (c.1) in
    ap (λ (y : Theorem). y.base) (sym q)

pub instantiated_keeps : (n : Instance) (th x : Theorem) → instantiated n th ≡ Some x → (x.base ≡ th.base) × (x.hyps ≡ th.hyps)
instantiated_keeps n th x e =
    let c = cond_some (keeps n.types n.terms && not (in_tms n.types n.terms th.hyps)) _ e in
    let q : record { hyps = th.hyps; prop = instance_of n th.prop; base = th.base } ≡ x = cc (c.1) in
    (ap (λ (y : Theorem). y.base) (sym q), ap (λ (y : Theorem). y.hyps) (sym q))

cond_none : {A : Type 0} (b : Bool) (o : Option A) {y : A} → cond b None o ≡ Some y → o ≡ Some y
cond_none true o e = cc
cond_none false o e = e

quantified_one : (v : Tm) (th x : Theorem) → forall_introduced v th ≡ Some x → x.base ≡ th.base
quantified_one v th x e =
    let i = bind_some (free_parts v) _ e in
    let q : record { hyps = th.hyps; prop = all i.0.0 i.0.1 (close i.0.0 i.0.1 th.prop); base = th.base } ≡ x = cc (cond_none (occurs_in i.0.0 i.0.1 th.hyps) _ i.2) in
    ap (λ (y : Theorem). y.base) (sym q)

-- ---- and those on premises
met_one : (th a x : Theorem) → a.base ≡ [] → implies_eliminated th a ≡ Some x → x.base ≡ th.base
met_one th a x n e = eliminated_one th a x e ∙ ap (joined_bases th.base) n ∙ append-nil th.base

eliminated_base : (ps : List Tm) (th x : Theorem) → eliminated ps th ≡ Some x → x.base ≡ th.base
unfolding eliminated
eliminated_base [] th x e = let q : th ≡ x = cc (e) in ap (λ (y : Theorem). y.base) (sym q)
eliminated_base (p ∷ ps) th x e =
    let a = bind_some (assumed p) _ e in
    let n = bind_some (implies_eliminated th a.0) _ a.2 in
    eliminated_base ps n.0 x n.2 ∙ met_one th a.0 n.0 (assumed_base p a.0 a.1) n.1

introduced_base : (ps : List Tm) (th x : Theorem) → introduced ps th ≡ Some x → x.base ≡ th.base
unfolding introduced
introduced_base [] th x e = let q : th ≡ x = cc (e) in ap (λ (y : Theorem). y.base) (sym q)
introduced_base (p ∷ ps) th x e =
    let i = bind_some (introduced ps th) _ e in
    introduced_one p i.0 x i.2 ∙ introduced_base ps th i.0 i.1

under_base : (hs ps : List Tm) (th x : Theorem) → met_under hs ps th ≡ Some x → x.base ≡ th.base
unfolding met_under
under_base hs [] th x e = let q : th ≡ x = cc (e) in ap (λ (y : Theorem). y.base) (sym q)
under_base hs (p ∷ ps) th x e =
    let a = bind_some (assumed (implies hs p)) _ e in
    let b = bind_some (eliminated hs a.0) _ a.2 in
    let n = bind_some (implies_eliminated th b.0) _ b.2 in
    under_base hs ps n.0 x n.2 ∙ met_one th b.0 n.0 (eliminated_base hs a.0 b.0 b.1 ∙ assumed_base (implies hs p) a.0 a.1) n.1

pub raised_base : (hs ps : List Tm) (th x : Theorem) → raised_by hs ps th ≡ Some x → x.base ≡ th.base
unfolding raised_by
raised_base hs ps th x e =
    let c = bind_some (met_under hs ps th) _ e in
    let i = bind_some (introduced hs c.0) _ c.2 in
    introduced_base (map (implies hs) ps) i.0 x i.2 ∙ introduced_base hs c.0 i.0 i.1 ∙ under_base hs ps th c.0 c.1

specialized_base : (vs : List Tm) (th x : Theorem) → specialized vs th ≡ Some x → x.base ≡ th.base
unfolding specialized
specialized_base [] th x e = let q : th ≡ x = cc (e) in ap (λ (y : Theorem). y.base) (sym q)
specialized_base (v ∷ vs) th x e =
    let n = bind_some (forall_eliminated v th) _ e in
    specialized_base vs n.0 x n.2 ∙ specialized_one v th n.0 n.1

quantified_base : (vs : List Tm) (th x : Theorem) → quantified_over vs th ≡ Some x → x.base ≡ th.base
unfolding quantified_over
quantified_base [] th x e = let q : th ≡ x = cc (e) in ap (λ (y : Theorem). y.base) (sym q)
quantified_base (v ∷ vs) th x e =
    let i = bind_some (quantified_over vs th) _ e in
    quantified_one v i.0 x i.2 ∙ quantified_base vs th i.0 i.1

over_base : (vs ps : List Tm) (th x : Theorem) → met_over vs ps th ≡ Some x → x.base ≡ th.base
unfolding met_over
over_base vs [] th x e = let q : th ≡ x = cc (e) in ap (λ (y : Theorem). y.base) (sym q)
over_base vs (p ∷ ps) th x e =
    let a = bind_some (assumed p) _ e in
    let b = bind_some (specialized vs a.0) _ a.2 in
    let n = bind_some (implies_eliminated th b.0) _ b.2 in
    over_base vs ps n.0 x n.2 ∙ met_one th b.0 n.0 (specialized_base vs a.0 b.0 b.1 ∙ assumed_base p a.0 a.1) n.1

pub lifted_base : (vs ps : List Tm) (th x : Theorem) → lifted_over vs ps th ≡ Some x → x.base ≡ th.base
unfolding lifted_over
lifted_base vs ps th x e =
    let c = bind_some (met_over vs ps th) _ e in
    let w = bind_some (quantified_over vs c.0) _ c.2 in
    introduced_base ps w.0 x w.2 ∙ quantified_base vs c.0 w.0 w.1 ∙ over_base vs ps th c.0 c.1

at_base : (xs : List Parameter) (vs hs : List Tm) (th x : Theorem) → raised_at xs vs hs th ≡ Some x → x.base ≡ th.base
unfolding raised_at
at_base xs vs hs th x e =
    let r = bind_some (instantiated (record { types = []; terms = lifted_entries xs vs th.prop [] }) th) _ e in
    let p = bind_some (rule_form (length (premises th.prop)) r.0) _ r.2 in
    raised_base (map (opened vs 0) hs) p.0.0 r.0 x p.2 ∙ (instantiated_keeps (record { types = []; terms = lifted_entries xs vs th.prop [] }) th r.0 r.1).0

-- what comes is the proposition by the rule's axioms
pub lifted_by_is : (xs : List Parameter) (hs outer inner qs : List Tm) (w : Tm) (th x : Theorem) → lifted_by xs hs outer inner qs w th ≡ Some x → (x.prop ≡ w) × (x.base ≡ th.base)
unfolding lifted_by
lifted_by_is xs hs outer inner qs w th x e =
    let r = bind_some (raised_at xs inner hs th) _ e in
    let l = bind_some (lifted_over outer qs r.0) _ r.2 in
    let q = renamed_is w l.0 x l.2 in
    (ap (λ (y : Theorem). y.prop) q, ap (λ (y : Theorem). y.base) q ∙ lifted_base outer qs r.0 l.0 l.1 ∙ at_base xs inner hs th r.0 r.1)
