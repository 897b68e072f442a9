-- The premises of a proposition.
use Rattle.std.proofs.Common.{◌≡◌, ◌<◌, arith, List, [], ◌∷◌, ◌++◌, append_assoc, append-nil, Option, Some, None, refl, sym, ap, ◌∙◌, subst}
use Rattle.isa_terms.specs.Terms.{Tm, Const, Free, Unknown, Bound, Abs, App, nodes}
use Rattle.isa_kernel.specs.Logic.{imp}
use Rattle.isa_kernel.specs.Forms.{imp_parts}
use Rattle.isa_kernel.proofs.Parts.{imp_made}
use Rattle.isa_subgoal.specs.Premises.{premises, conclusion, implies}

pub premises_step : (t p q : Tm) → imp_parts t ≡ Some (p, q) → premises t ≡ p ∷ premises q
premises_step t p q e = ap premises (imp_made t (p, q) e)

pub conclusion_step : (t p q : Tm) → imp_parts t ≡ Some (p, q) → conclusion t ≡ conclusion q
conclusion_step t p q e = ap conclusion (imp_made t (p, q) e)

pub premises_none : (t : Tm) → imp_parts t ≡ None → premises t ≡ []
premises_none (App f b) e = ap (λ o. elim o [ None ↦ [] | Some p ↦ p.0 ∷ premises b ]) e
premises_none (Const x T) e = refl
premises_none (Free x T) e = refl
premises_none (Unknown x i T) e = refl
premises_none (Bound i) e = refl
premises_none (Abs x T b) e = refl

pub conclusion_none : (t : Tm) → imp_parts t ≡ None → conclusion t ≡ t
conclusion_none (App f b) e = ap (λ o. elim o [ None ↦ App f b | Some p ↦ conclusion b ]) e
conclusion_none (Const x T) e = refl
conclusion_none (Free x T) e = refl
conclusion_none (Unknown x i T) e = refl
conclusion_none (Bound i) e = refl
conclusion_none (Abs x T b) e = refl

smaller : (p q : Tm) → nodes q < nodes (imp p q)
smaller p q = omega arith

pub imp_smaller : (t p q : Tm) → imp_parts t ≡ Some (p, q) → nodes q < nodes t
imp_smaller t p q e = subst (λ x. nodes q < nodes x) (sym (imp_made t (p, q) e)) (smaller p q)

-- behind those that are done
pub premises_done : (t p q : Tm) (d e : List Tm) → imp_parts t ≡ Some (p, q) → e ≡ d ++ p ∷ [] → e ++ premises q ≡ d ++ premises t
premises_done t p q d e i h = ap (λ x. x ++ premises q) h ∙ append_assoc d (p ∷ []) (premises q) ∙ ap (λ x. d ++ x) (sym (premises_step t p q i))

pub premises_end : (t : Tm) (d : List Tm) → imp_parts t ≡ None → d ≡ d ++ premises t
premises_end t d e = sym (ap (λ x. d ++ x) (premises_none t e) ∙ append-nil d)

abbrev arg : Tm → Tm
arg (App f a) = a
arg t = t

-- a proposition is its conclusion under its premises
pub parts_made : (t : Tm) → t ≡ implies (premises t) (conclusion t)
parts_made (App f b) = go (imp_parts (App f b)) refl (parts_made b)
  where
    whole : (o : Option (Tm × Tm)) → imp_parts (App f b) ≡ o → implies (elim o [ None ↦ [] | Some p ↦ p.0 ∷ premises b ]) (elim o [ None ↦ App f b | Some p ↦ conclusion b ]) ≡ implies (premises (App f b)) (conclusion (App f b))
    whole o e = ap (λ x. implies (elim x [ None ↦ [] | Some p ↦ p.0 ∷ premises b ]) (elim x [ None ↦ App f b | Some p ↦ conclusion b ])) (sym e)

    go : (o : Option (Tm × Tm)) → imp_parts (App f b) ≡ o → b ≡ implies (premises b) (conclusion b) → App f b ≡ implies (premises (App f b)) (conclusion (App f b))
    go None e h = whole None e
    go (Some p) e h =
        let m : App f b ≡ imp p.0 p.1 = imp_made (App f b) p e in
        let q : b ≡ p.1 = ap arg m in
        m ∙ ap (imp p.0) (sym q ∙ h) ∙ whole (Some p) e
parts_made (Const x T) = refl
parts_made (Free x T) = refl
parts_made (Unknown x i T) = refl
parts_made (Bound i) = refl
parts_made (Abs x T b) = refl
