-- The form of a subgoal, and premises, without free variables named `:` and digits.
use Rattle.std.specs.Prelude.{codes, option_and_then}
use Rattle.std.proofs.Common.{◌≡◌, ℕ, zero, suc, List, [], ◌∷◌, ◌++◌, map, Bool, true, false, cond, Option, Some, None, refl, sym, ap, ◌∙◌, subst}
use Rattle.isa_terms.specs.Types.{Ty}
use Rattle.isa_terms.specs.Terms.{Tm, Const, Free, Unknown, Bound, Abs, App}
use Rattle.isa_terms.specs.Replace.{raise}
use Rattle.isa_terms.specs.Norm.{norm}
use Rattle.isa_terms.proofs.Functions.{bind_some}
use Rattle.isa_kernel.specs.Forms.{imp_parts, quantifier_parts, const_type, predicate_of}
use Rattle.isa_kernel.proofs.Parts.{imp_made}
use Rattle.isa_subgoal.specs.Premises.{implies, premises_of, premises, conclusion, leading}
use Rattle.isa_subgoal.specs.Shape.{is_in_form, over_name, over_names, spelled, gathered, moved, shaped}
use Rattle.isa_goal.proofs.Uncounted.{Uncounted, AreUncounted, join_uncounted, map_uncounted, raise_uncounted, norm_uncounted}

-- ---- parts
pub imp_uncounted : (t : Tm) (p : Tm × Tm) → imp_parts t ≡ Some p → Uncounted t → Uncounted p.0 × Uncounted p.1
imp_uncounted t p e u = let v = subst Uncounted (imp_made t p e) u in (v.0.1, v.1)

quantifier_uncounted : (f a : Tm) (q : Ty × Tm) → quantifier_parts (App f a) ≡ Some q → Uncounted a → Uncounted q.1
quantifier_uncounted f a q e u =
    let F = bind_some (const_type (codes "Pure.all") f) _ e in
    let P = bind_some (predicate_of F.0) _ F.2 in
    let T = bind_some (predicate_of P.0) _ P.2 in
    let s : (T.0, a) ≡ q = cc (T.2) in
    subst (λ (r : Ty × Tm). Uncounted r.1) s u

pub implies_uncounted : (hs : List Tm) (t : Tm) → AreUncounted hs → Uncounted t → Uncounted (implies hs t)
implies_uncounted [] t p u = u
implies_uncounted (h ∷ hs) t p u = ((tt, p.0), implies_uncounted hs t p.1 u)

-- ---- the form of a subgoal
over_names_uncounted : (T : Ty) (P : Tm) → Uncounted P → Uncounted (over_names T P)
over_names_uncounted T P u = (tt, at (quantifier_parts (App (raise 1 0 P) (Bound 0))) refl)
  where
    at : (o : Option (Ty × Tm)) → quantifier_parts (App (raise 1 0 P) (Bound 0)) ≡ o → Uncounted (elim o as (λ _. Tm) [ None ↦ App (raise 1 0 P) (Bound 0) | Some q ↦ over_name q.0 q.1 ])
    at None e = (raise_uncounted 1 0 P u, tt)
    at (Some q) e = (tt, (raise_uncounted 1 0 q.1 (quantifier_uncounted (raise 1 0 P) (Bound 0) q e tt), tt))

quantified_spelled : (f : Tm) (x : List ℕ) (T : Ty) (b : Tm) (o : Option (Ty × Tm)) → Uncounted f → Uncounted b → Uncounted (spelled b) → Uncounted (elim o as (λ _. Tm) [ None ↦ App f (Abs x T b) | Some q ↦ App f (Abs x T (spelled b)) ])
quantified_spelled f x T b None p q r = (p, q)
quantified_spelled f x T b (Some s) p q r = (p, r)

applied_spelled : (f a : Tm) (o : Option (Tm × Tm)) (r : Option (Ty × Tm)) → quantifier_parts (App f a) ≡ r → Uncounted f → Uncounted a → Uncounted (spelled a) →
    Uncounted (elim o as (λ _. Tm) [ None ↦ elim r as (λ _. Tm) [ None ↦ App f a | Some q ↦ over_names q.0 q.1 ] | Some p ↦ App f (spelled a) ])
applied_spelled f a None None e p q s = (p, q)
applied_spelled f a None (Some t) e p q s = over_names_uncounted t.0 t.1 (quantifier_uncounted f a t e q)
applied_spelled f a (Some t) r e p q s = (p, s)

spelled_uncounted : (t : Tm) → Uncounted t → Uncounted (spelled t)
spelled_uncounted (App f (Abs x T b)) u = quantified_spelled f x T b (quantifier_parts (App f (Abs x T b))) u.0 u.1 (spelled_uncounted b u.1)
spelled_uncounted (App f a) u = applied_spelled f a (imp_parts (App f a)) (quantifier_parts (App f a)) refl u.0 u.1 (spelled_uncounted a u.1)
spelled_uncounted (Const x T) u = u
spelled_uncounted (Free x T) u = u
spelled_uncounted (Unknown x i T) u = u
spelled_uncounted (Bound i) u = u
spelled_uncounted (Abs x T b) u = u

quantified_gathered : (hs : List Tm) (f : Tm) (x : List ℕ) (T : Ty) (b : Tm) (o : Option (Ty × Tm)) → AreUncounted hs → Uncounted f → Uncounted b → Uncounted (gathered (map (raise 1 0) hs) b) →
    Uncounted (elim o as (λ _. Tm) [ None ↦ implies hs (App f (Abs x T b)) | Some q ↦ App f (Abs x T (gathered (map (raise 1 0) hs) b)) ])
quantified_gathered hs f x T b None w p q r = implies_uncounted hs (App f (Abs x T b)) w (p, q)
quantified_gathered hs f x T b (Some s) w p q r = (p, r)

applied_gathered : (hs : List Tm) (f a : Tm) (o : Option (Tm × Tm)) → imp_parts (App f a) ≡ o → AreUncounted hs → Uncounted f → Uncounted a → ((gs : List Tm) → AreUncounted gs → Uncounted (gathered gs a)) →
    Uncounted (elim o as (λ _. Tm) [ None ↦ implies hs (App f a) | Some p ↦ gathered (hs ++ p.0 ∷ []) a ])
applied_gathered hs f a None e w p q r = implies_uncounted hs (App f a) w (p, q)
applied_gathered hs f a (Some t) e w p q r = r (hs ++ t.0 ∷ []) (join_uncounted hs (t.0 ∷ []) w ((imp_uncounted (App f a) t e (p, q)).0, tt))

gathered_uncounted : (hs : List Tm) (t : Tm) → AreUncounted hs → Uncounted t → Uncounted (gathered hs t)
gathered_uncounted hs (App f (Abs x T b)) w u = quantified_gathered hs f x T b (quantifier_parts (App f (Abs x T b))) w u.0 u.1 (gathered_uncounted (map (raise 1 0) hs) b (map_uncounted (raise 1 0) hs (λ t v. raise_uncounted 1 0 t v) w) u.1)
gathered_uncounted hs (App f a) w u = applied_gathered hs f a (imp_parts (App f a)) refl w u.0 u.1 (λ gs v. gathered_uncounted gs a v u.1)
gathered_uncounted hs (Const x T) w u = implies_uncounted hs (Const x T) w u
gathered_uncounted hs (Free x T) w u = implies_uncounted hs (Free x T) w u
gathered_uncounted hs (Unknown x i T) w u = implies_uncounted hs (Unknown x i T) w u
gathered_uncounted hs (Bound i) w u = implies_uncounted hs (Bound i) w u
gathered_uncounted hs (Abs x T b) w u = implies_uncounted hs (Abs x T b) w u

pub shaped_uncounted : (t : Tm) → Uncounted t → Uncounted (shaped t)
shaped_uncounted t u = either (is_in_form t) (norm_uncounted (moved t) (gathered_uncounted [] (spelled t) tt (spelled_uncounted t u)))
  where
    either : (b : Bool) → Uncounted (norm (moved t)) → Uncounted (cond b t (norm (moved t)))
    either true v = u
    either false v = v

-- ---- premises
pub premises_of_uncounted : (n : ℕ) (t : Tm) (r : List Tm × Tm) → premises_of n t ≡ Some r → Uncounted t → AreUncounted r.0 × Uncounted r.1
premises_of_uncounted zero t r e u = let s : ([], t) ≡ r = cc in subst (λ (p : List Tm × Tm). AreUncounted p.0 × Uncounted p.1) s (tt, u)
premises_of_uncounted (suc n) t r e u =
    let p = bind_some (imp_parts t) _ e in
    let q = bind_some (premises_of n p.0.1) _ p.2 in
    let s : (p.0.0 ∷ q.0.0, q.0.1) ≡ r = cc (q.2) in
    let v = imp_uncounted t p.0 p.1 u in
    let w = premises_of_uncounted n p.0.1 q.0 q.1 v.1 in
    subst (λ (x : List Tm × Tm). AreUncounted x.0 × Uncounted x.1) s ((v.0, w.0), w.1)

premises_at : (f a : Tm) (o : Option (Tm × Tm)) → imp_parts (App f a) ≡ o → Uncounted (App f a) → AreUncounted (premises a) → AreUncounted (elim o as (λ _. List Tm) [ None ↦ [] | Some p ↦ p.0 ∷ premises a ])
premises_at f a None e u v = tt
premises_at f a (Some p) e u v = ((imp_uncounted (App f a) p e u).0, v)

pub premises_uncounted : (t : Tm) → Uncounted t → AreUncounted (premises t)
premises_uncounted (App f a) u = premises_at f a (imp_parts (App f a)) refl u (premises_uncounted a u.1)
premises_uncounted (Const x T) u = tt
premises_uncounted (Free x T) u = tt
premises_uncounted (Unknown x i T) u = tt
premises_uncounted (Bound i) u = tt
premises_uncounted (Abs x T b) u = tt

conclusion_at : (f a : Tm) (o : Option (Tm × Tm)) → Uncounted (App f a) → Uncounted (conclusion a) → Uncounted (elim o as (λ _. Tm) [ None ↦ App f a | Some p ↦ conclusion a ])
conclusion_at f a None u v = u
conclusion_at f a (Some p) u v = v

pub conclusion_uncounted : (t : Tm) → Uncounted t → Uncounted (conclusion t)
conclusion_uncounted (App f a) u = conclusion_at f a (imp_parts (App f a)) u (conclusion_uncounted a u.1)
conclusion_uncounted (Const x T) u = u
conclusion_uncounted (Free x T) u = u
conclusion_uncounted (Unknown x i T) u = u
conclusion_uncounted (Bound i) u = u
conclusion_uncounted (Abs x T b) u = u

leading_at : (n : ℕ) (t : Tm) (o : Option (Tm × Tm)) → imp_parts t ≡ o → Uncounted t → ((u : Tm) → Uncounted u → AreUncounted (leading n u).0 × Uncounted (leading n u).1) →
    AreUncounted (elim o as (λ _. List Tm × Tm) [ None ↦ ([], t) | Some p ↦ (p.0 ∷ (leading n p.1).0, (leading n p.1).1) ]).0 × Uncounted (elim o as (λ _. List Tm × Tm) [ None ↦ ([], t) | Some p ↦ (p.0 ∷ (leading n p.1).0, (leading n p.1).1) ]).1
leading_at n t None e u rest = (tt, u)
leading_at n t (Some p) e u rest =
    let v = imp_uncounted t p e u in
    let w = rest p.1 v.1 in
    ((v.0, w.0), w.1)

pub leading_uncounted : (n : ℕ) (t : Tm) → Uncounted t → AreUncounted (leading n t).0 × Uncounted (leading n t).1
leading_uncounted zero t u = (tt, u)
leading_uncounted (suc n) t u = leading_at n t (imp_parts t) refl u (leading_uncounted n)
