-- The base of the composition of two rules.
use Rattle.std.specs.Prelude.{not, Result, IfOk}
use Rattle.std.specs.declared.alloc.AllocError.{AllocError}
use Rattle.std.proofs.Common.{◌≡◌, ◌&&◌, List, [], ◌∷◌, ◌++◌, map, Some, refl, sym, ap, ◌∙◌, subst}
use Rattle.isa_terms.specs.Terms.{Tm}
use Rattle.isa_terms.specs.Equal.{tm_eq}
use Rattle.isa_terms.specs.Sets.{joined}
use Rattle.isa_terms.proofs.Functions.{bind_some, cond_some}
use Rattle.isa_kernel.specs.Forms.{imp_parts}
use Rattle.isa_kernel.specs.Axioms.{joined_bases}
use Rattle.isa_kernel.specs.Theorem.{Theorem}
use Rattle.isa_kernel.specs.Derived.{are_propositions, behind_premises, discharged, with_premises, conclusion_behind, undischarged}
use Rattle.isa_kernel.specs.Inferences.{keeps, implies_eliminated, instantiated}
use Rattle.isa_terms.specs.Instance.{Instance, instance_of, in_tms}
use Rattle.isa_subgoal.specs.Premises.{implies, premises, conclusion}
use Rattle.isa_resolution.specs.Compose.{composed_under}

pub undischarged_base : (ps : List Tm) (th x : Theorem) → undischarged ps th ≡ Some x → x.base ≡ th.base
undischarged_base ps th x e =
    let q = bind_some (conclusion_behind ps th.prop) _ e in
    let r : record { hyps = with_premises th.hyps ps; prop = q.0; base = th.base } ≡ x = cc (q.2) in
    ap (λ (y : Theorem). y.base) (sym r)

pub discharged_base : (ps : List Tm) (th x : Theorem) → discharged ps th ≡ Some x → x.base ≡ th.base
discharged_base ps th x e =
    let c = cond_some (are_propositions ps) _ e in
    let r : behind_premises ps th ≡ x = cc (c.1) in
    ap (λ (y : Theorem). y.base) (sym r)

pub eliminated_base : (ab a x : Theorem) → implies_eliminated ab a ≡ Some x → x.base ≡ joined_bases ab.base a.base
eliminated_base ab a x e =
    let i = bind_some (imp_parts ab.prop) _ e in
    let c = cond_some (tm_eq i.0.0 a.prop) _ i.2 in
    let q : record { hyps = joined ab.hyps a.hyps; prop = i.0.1; base = joined_bases ab.base a.base } ≡ x = cc (c.1) in
    ap (λ (y : Theorem). y.base) (sym q)

pub joined_in_turn : (us bs vs all : List Tm) (th rule front met middle last x : Theorem) → undischarged us th ≡ Some front → undischarged bs rule ≡ Some met → implies_eliminated front met ≡ Some middle → undischarged vs middle ≡ Some last → discharged all last ≡ Some x → x.base ≡ joined_bases th.base rule.base
joined_in_turn us bs vs all th rule front met middle last x a b c d e =
    discharged_base all last x e ∙ undischarged_base vs middle last d ∙ eliminated_base front met middle c ∙ (λ i. joined_bases (undischarged_base us th front a i) (undischarged_base bs rule met b i))

pub instantiated_base : (n : Instance) (th x : Theorem) → instantiated n th ≡ Some x → x.base ≡ th.base
instantiated_base n th x e =
    let c = cond_some (keeps n.types n.terms && not (in_tms n.types n.terms th.hyps)) _ e in
    let q : record { hyps = th.hyps; prop = instance_of n th.prop; base = th.base } ≡ x = cc (c.1) in
    ap (λ (y : Theorem). y.base) (sym q)

map_append : (f : Tm → Tm) (us vs : List Tm) → map f us ++ map f vs ≡ map f (us ++ vs)
map_append f [] vs = refl
map_append f (u ∷ us) vs = ap (λ ts. f u ∷ ts) (map_append f us vs)

pub composed_is : (n : Instance) (r s th : Theorem) (us vs all : List Tm) (a w : Tm) (answer : Result Theorem AllocError) →
    all ≡ map (instance_of n) us ++ (map (instance_of n) vs ++ map (instance_of n) (premises r.prop)) → w ≡ implies all (instance_of n (conclusion s.prop)) → th.base ≡ joined_bases s.base r.base →
    IfOk answer (λ x. x ≡ record { hyps = []; prop = w; base = th.base }) → IfOk answer (λ x. x ≡ composed_under n r s (us, a, vs))
composed_is n r s th us vs all a w answer e f b h =
    let g : all ≡ map (instance_of n) (us ++ (vs ++ premises r.prop)) = e ∙ ap (λ ts. map (instance_of n) us ++ ts) (map_append (instance_of n) vs (premises r.prop)) ∙ map_append (instance_of n) us (vs ++ premises r.prop) in
    let q : w ≡ implies (map (instance_of n) (us ++ (vs ++ premises r.prop))) (instance_of n (conclusion s.prop)) = f ∙ ap (λ ts. implies ts (instance_of n (conclusion s.prop))) g in
    subst (λ (t : Theorem). IfOk answer (λ x. x ≡ t)) (λ j. record { hyps = []; prop = q j; base = b j }) h
