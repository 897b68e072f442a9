-- The parts of a subgoal make it again.
use Rattle.std.proofs.Common.{◌≡◌, ℕ, List, [], ◌∷◌, Option, Some, None, refl, sym, ap, ◌∙◌, subst}
use Rattle.isa_terms.specs.Types.{Ty}
use Rattle.isa_terms.specs.Terms.{Tm, Const, Free, Unknown, Bound, Abs, App, bare}
use Rattle.isa_terms.specs.Norm.{norm}
use Rattle.isa_terms.proofs.Typed.{Typed, typed_of_type}
use Rattle.isa_terms.proofs.Conv.{Conv, CSym, right_typed}
use Rattle.isa_terms.proofs.Unique.{conv_norm}
use Rattle.isa_terms.proofs.NormalForms.{norm_same}
use Rattle.isa_kernel.specs.Logic.{prop}
use Rattle.isa_kernel.specs.Forms.{quantifier_parts}
use Rattle.isa_kernel.proofs.Quantifier.{quantifier}
use Rattle.isa_subgoal.specs.declared.lift.Parameter.{Parameter}
use Rattle.isa_subgoal.specs.Lift.{quantified}
use Rattle.isa_subgoal.specs.Shape.{spelled}
use Rattle.isa_subgoal.specs.Parts.{leading_binders, behind_binders, PartsMakeTheSubgoal}
use Rattle.isa_subgoal.proofs.Counts.{parts_made}
use Rattle.isa_subgoal.proofs.Spelling.{all_constant, body_typed, spelled_conv}

binder_made : (f : Tm) (x : List ℕ) (S : Ty) (b : Tm) {G : List Ty} {U : Ty} (o : Option (Ty × Tm)) → quantifier_parts (App f (Abs x S b)) ≡ o → Typed G (App f (Abs x S b)) U → (Typed (S ∷ G) b prop → quantified (leading_binders b) (behind_binders b) ≡ b) →
    quantified (elim o as (λ _. List Parameter) [ None ↦ [] | Some q ↦ record { name = x; typ = S } ∷ leading_binders b ]) (elim o as (λ _. Tm) [ None ↦ App f (Abs x S b) | Some q ↦ behind_binders b ]) ≡ App f (Abs x S b)
binder_made f x S b None e d h = refl
binder_made f x S b {G} {U} (Some q) e d h =
    let c : f ≡ quantifier S = all_constant f x S b q e d in
    let k : Typed G (App (quantifier S) (Abs x S b)) U = subst (λ g. Typed G (App g (Abs x S b)) U) c d in
    ap (λ u. App (quantifier S) (Abs x S u)) (h (body_typed k).1) ∙ ap (λ g. App g (Abs x S b)) (sym c)

binders_made : (t : Tm) {G : List Ty} {U : Ty} → Typed G t U → quantified (leading_binders t) (behind_binders t) ≡ t
binders_made (App f (Abs x S b)) d = binder_made f x S b (quantifier_parts (App f (Abs x S b))) refl d (λ e. binders_made b e)
binders_made (App f (Const x T)) d = refl
binders_made (App f (Free x T)) d = refl
binders_made (App f (Unknown x i T)) d = refl
binders_made (App f (Bound i)) d = refl
binders_made (App f (App g a)) d = refl
binders_made (Const x T) d = refl
binders_made (Free x T) d = refl
binders_made (Unknown x i T) d = refl
binders_made (Bound i) d = refl
binders_made (Abs x T b) d = refl

pub parts_make : PartsMakeTheSubgoal
parts_make t h n =
    let c : Conv [] prop t (spelled t) = spelled_conv t (typed_of_type [] t prop h) in
    let s : Tm = spelled t in
    ap (λ u. bare (norm u)) (ap (quantified (leading_binders s)) (sym (parts_made (behind_binders s))) ∙ binders_made s (right_typed c))
    ∙ conv_norm (CSym c) ∙ ap bare (norm_same t n)

-- ---- the steps as the code takes them
pub binders_step : (t f : Tm) (x : List ℕ) (T : Ty) (b : Tm) (q : Ty × Tm) → App f (Abs x T b) ≡ t → Some q ≡ quantifier_parts t → (leading_binders t ≡ record { name = x; typ = T } ∷ leading_binders b) × (behind_binders t ≡ behind_binders b)
binders_step t f x T b q e g =
    let there : quantifier_parts (App f (Abs x T b)) ≡ Some q = ap quantifier_parts e ∙ sym g in (
      ap leading_binders (sym e) ∙ ap (λ (o : Option (Ty × Tm)). elim o as (λ _. List Parameter) [ None ↦ [] | Some p ↦ record { name = x; typ = T } ∷ leading_binders b ]) there,
      ap behind_binders (sym e) ∙ ap (λ (o : Option (Ty × Tm)). elim o as (λ _. Tm) [ None ↦ App f (Abs x T b) | Some p ↦ behind_binders b ]) there,
    )
