-- After opening, no `!!` stands in front.
use Rattle.std.specs.Prelude.{is_some, codes, option_and_then}
use Rattle.std.proofs.Common.{◌≡◌, ℕ, zero, suc, ◌+◌, ◌-◌, ◌≤◌, nat_eq, nat_lt, List, [], ◌∷◌, Bool, true, false, cond, Option, Some, None, refl, sym, ap, ◌∙◌, arith}
use Rattle.isa_terms.specs.Types.{Ty}
use Rattle.isa_terms.specs.Terms.{Tm, Const, Free, Unknown, Bound, Abs, App}
use Rattle.isa_terms.specs.Equal.{ty_eq}
use Rattle.isa_terms.specs.Replace.{raise, put}
use Rattle.isa_terms.specs.Unknowns.{unknowns_of}
use Rattle.isa_terms.proofs.Functions.{bind_some, cond_some}
use Rattle.isa_terms.proofs.Composing.{typ_self}
use Rattle.isa_kernel.specs.Forms.{const_type, predicate_of, quantifier_parts, at}
use Rattle.isa_kernel.specs.Theorem.{Theorem}
use Rattle.isa_kernel.specs.Inferences.{has_type}
use Rattle.isa_simprules.specs.Numbers.{least_number}
use Rattle.isa_simprules.specs.Opening.{quantifiers, variable_of, opened_once, opened_often, opened, OpenedHasNoQuantifier}

module _ (x : List ℕ) (i : ℕ) (T : Ty) where
  put_bound : (k j : ℕ) (c d : Bool) → quantifiers (cond c (raise k 0 (Unknown x i T)) (cond d (Bound (j - 1)) (Bound j))) ≡ 0
  put_bound k j true d = refl
  put_bound k j false true = refl
  put_bound k j false false = refl

  quantifiers_put : (k : ℕ) (b : Tm) → quantifiers (put (Unknown x i T) k b) ≡ quantifiers b
  quantifiers_put k (Const c U) = refl
  quantifiers_put k (Free a U) = refl
  quantifiers_put k (Unknown y j U) = refl
  quantifiers_put k (Bound j) = put_bound k j (nat_eq j k) (nat_lt k j)
  quantifiers_put k (Abs y U b) = quantifiers_put (k + 1) b
  quantifiers_put k (App f a) = λ n. quantifiers_put k f n + quantifiers_put k a n

  quantifiers_at : (P : Tm) → quantifiers (at P (Unknown x i T)) ≡ quantifiers P
  quantifiers_at (Abs y U b) = quantifiers_put 0 b
  quantifiers_at (Const c U) = omega arith
  quantifiers_at (Free a U) = omega arith
  quantifiers_at (Unknown y j U) = omega arith
  quantifiers_at (Bound j) = omega arith
  quantifiers_at (App f a) = omega arith

quantifier_there : (f : Tm) (F : Ty) → const_type (codes "Pure.all") f ≡ Some F → quantifiers f ≡ 1
quantifier_there (Const c U) F e = ap (λ o. cond (is_some o) 1 0) e
quantifier_there (Free a U) F e = cc
quantifier_there (Unknown y j U) F e = cc
quantifier_there (Bound j) F e = cc
quantifier_there (Abs y U b) F e = cc
quantifier_there (App f a) F e = cc

-- a `!!` is one more than its predicate has
quantified : (t : Tm) (p : Ty × Tm) → quantifier_parts t ≡ Some p → quantifiers t ≡ quantifiers p.1 + 1
quantified (App f a) p e =
    let c = bind_some (const_type (codes "Pure.all") f) _ e in
    let d = bind_some (predicate_of c.0) _ c.2 in
    let b = bind_some (predicate_of d.0) _ d.2 in
    let q : a ≡ p.1 = same_predicate b.0 a p b.2 in
    let n = quantifier_there f c.0 c.1 in
    let m : quantifiers a ≡ quantifiers p.1 = ap quantifiers q in
    omega (arith, n, m)
  where
    same_predicate : (T : Ty) (a : Tm) (p : Ty × Tm) → Some (T, a) ≡ Some p → a ≡ p.1
    same_predicate T a p e = let q : (T, a) ≡ p = cc e in ap (λ r. r.1) q
quantified (Const c U) p e = cc
quantified (Free a U) p e = cc
quantified (Unknown y j U) p e = cc
quantified (Bound j) p e = cc
quantified (Abs y U b) p e = cc

-- the unknown for the variable of the first `!!`
abbrev unknown_for : Theorem → Ty × Tm → Tm
unknown_for th p = Unknown (variable_of p.1) (least_number (unknowns_of (th.prop ∷ th.hyps)) (variable_of p.1)) p.0

-- opening once, by the parts of the first `!!`
abbrev once_at : Theorem → Option (Ty × Tm) → Option Theorem
once_at th o = option_and_then (λ (p : Ty × Tm). option_and_then (λ (q : Ty × Tm). cond (has_type (unknown_for th p) q.0) (Some (record { hyps = th.hyps; prop = at q.1 (unknown_for th p); base = th.base })) None) o) o

once_is : (th : Theorem) → opened_once th ≡ once_at th (quantifier_parts th.prop)
once_is th = refl

once_some : (th : Theorem) (p : Ty × Tm) → once_at th (Some p) ≡ Some (record { hyps = th.hyps; prop = at p.1 (unknown_for th p); base = th.base })
once_some th p = ap (λ b. cond b (Some (record { hyps = th.hyps; prop = at p.1 (unknown_for th p); base = th.base })) None) (typ_self p.0)

once_none : (th : Theorem) → once_at th None ≡ None
once_none th = refl

-- each opening leaves one `!!` less
fewer : (th : Theorem) (p : Ty × Tm) → quantifier_parts th.prop ≡ Some p → quantifiers th.prop ≡ quantifiers (at p.1 (unknown_for th p)) + 1
fewer th p e =
    let n = quantified th.prop p e in
    let m = quantifiers_at (variable_of p.1) (least_number (unknowns_of (th.prop ∷ th.hyps)) (variable_of p.1)) p.0 p.1 in
    omega (arith, n, m)

all_opened : (n : ℕ) (th : Theorem) → quantifiers th.prop ≤ n → quantifier_parts (opened_often n th).prop ≡ None
all_opened zero th h = go (quantifier_parts th.prop) refl
  where
    go : (o : Option (Ty × Tm)) → quantifier_parts th.prop ≡ o → quantifier_parts th.prop ≡ None
    go None e = e
    go (Some p) e = let n = quantified th.prop p e in absurd (omega (arith, n, h))
all_opened (suc n) th h = go (quantifier_parts th.prop) refl (λ x d. all_opened n x d)
  where
    step : (o : Option Theorem) → opened_once th ≡ o → quantifier_parts (elim o as (λ o. Theorem) [ None ↦ th | Some x ↦ opened_often n x ]).prop ≡ None → quantifier_parts (opened_often (suc n) th).prop ≡ None
    step o e d = ap (λ o. quantifier_parts (elim o as (λ o. Theorem) [ None ↦ th | Some x ↦ opened_often n x ]).prop) e ∙ d

    go : (o : Option (Ty × Tm)) → quantifier_parts th.prop ≡ o → ((x : Theorem) → quantifiers x.prop ≤ n → quantifier_parts (opened_often n x).prop ≡ None) → quantifier_parts (opened_often (suc n) th).prop ≡ None
    go None e r = step None (once_is th ∙ ap (once_at th) e ∙ once_none th) e
    go (Some p) e r =
        let f = fewer th p e in
        step (Some (record { hyps = th.hyps; prop = at p.1 (unknown_for th p); base = th.base })) (once_is th ∙ ap (once_at th) e ∙ once_some th p)
        (r (record { hyps = th.hyps; prop = at p.1 (unknown_for th p); base = th.base }) (omega (arith, f, h)))

pub opened_has_no_quantifier : OpenedHasNoQuantifier
opened_has_no_quantifier th = all_opened (quantifiers th.prop) th (omega arith)
