-- A subgoal in its form is a proposition, and one that is spelled out converts to itself.
use Rattle.std.specs.Prelude.{codes}
use Rattle.std.proofs.Common.{◌≡◌, ℕ, List, [], ◌∷◌, ◌++◌, map, Option, Some, None, refl, sym, ap, ◌∙◌, subst}
use Rattle.isa_terms.specs.Types.{Ty}
use Rattle.isa_terms.specs.Terms.{Tm, Const, Free, Unknown, Bound, Abs, App}
use Rattle.isa_terms.specs.Typing.{function_of}
use Rattle.isa_terms.specs.Replace.{raise}
use Rattle.isa_kernel.specs.Logic.{prop}
use Rattle.isa_kernel.specs.Forms.{imp_parts, quantifier_parts}
use Rattle.isa_kernel.proofs.Parts.{imp_made}
use Rattle.isa_kernel.proofs.Quantifier.{quantifier, quantifier_made}
use Rattle.isa_kernel.proofs.Preserved.{app_typed, const_typed, abs_typed, function_first, function_second}
use Rattle.isa_terms.proofs.Typed.{Typed, TConst, TBound, TAbs, TApp}
use Rattle.isa_terms.proofs.Conv.{Conv, CRefl, CSym, CTrans, CApp, CAbs, CEta}
use Rattle.isa_terms.proofs.Opening.{next_typed}
use Rattle.isa_subgoal.specs.Premises.{implies}
use Rattle.isa_subgoal.specs.Shape.{over_name, over_names, spelled, gathered}

abbrev pub implication : Tm
implication = Const (codes "Pure.imp") (function_of prop (function_of prop prop))

abbrev fun_of : Tm → Tm
fun_of (App f a) = f
fun_of t = t

abbrev arg_of : Tm → Tm
arg_of (App f a) = a
arg_of t = t

-- ---- the parts
pub imp_front : (f a : Tm) (p : Tm × Tm) → imp_parts (App f a) ≡ Some p → (f ≡ App implication p.0) × (a ≡ p.1)
imp_front f a p e = let q = imp_made (App f a) p e in (ap fun_of q, ap arg_of q)

pub all_front : (f a : Tm) (q : Ty × Tm) → quantifier_parts (App f a) ≡ Some q → (f ≡ quantifier q.0) × (a ≡ q.1)
all_front f a q e = let m = quantifier_made (App f a) q e in (ap fun_of m, ap arg_of m)

module _ {G : List Ty} where
  pub premise_typed : {A b : Tm} {U : Ty} → Typed G (App (App implication A) b) U → Typed G A prop × Typed G b prop
  premise_typed {A} {b} d =
      let outer = app_typed d in
      let inner = app_typed outer.1 in
      let c = const_typed inner.1 in
      (subst (λ S. Typed G A S) (sym (function_first c)) inner.2, subst (λ S. Typed G b S) (sym (function_first (function_second c))) outer.2)

  -- the predicate of a `!!`
  pub over_typed : {T U : Ty} {P : Tm} → Typed G (App (quantifier T) P) U → Typed G P (function_of T prop)
  over_typed {T} {U} {P} d =
      let outer = app_typed d in
      subst (λ S. Typed G P S) (sym (function_first (const_typed outer.1))) outer.2

  pub body_typed : {T S U : Ty} {x : List ℕ} {b : Tm} → Typed G (App (quantifier T) (Abs x S b)) U → (T ≡ S) × Typed (S ∷ G) b prop
  body_typed {T} {S} {U} {x} {b} d =
      let a = abs_typed (over_typed d) in
      (function_first a.1, subst (λ B. Typed (S ∷ G) b B) (sym (function_second a.1)) a.2)

-- the constant of a `!!` over an abstraction
pub all_constant : (f : Tm) (x : List ℕ) (S : Ty) (b : Tm) (q : Ty × Tm) {G : List Ty} {U : Ty} → quantifier_parts (App f (Abs x S b)) ≡ Some q → Typed G (App f (Abs x S b)) U → f ≡ quantifier S
all_constant f x S b q {G} {U} e d =
    let m = (all_front f (Abs x S b) q e).0 in
    m ∙ ap quantifier (body_typed (subst (λ g. Typed G (App g (Abs x S b)) U) m d)).0

-- ---- spelling out
over_name_conv : (G : List Ty) (T : Ty) (P : Tm) → Typed G P (function_of T prop) → Conv G prop (App (quantifier T) P) (over_name T P)
over_name_conv G T P d = CApp {S = function_of T prop} (CRefl TConst) (CSym (CEta d))

over_inner : (G : List Ty) (u : Tm) (f a : Tm) (o : Option (Ty × Tm)) → u ≡ App f a → quantifier_parts (App f a) ≡ o → Typed G (App f a) prop → Conv G prop (App f a) (elim o as (λ _. Tm) [ None ↦ App f a | Some q ↦ over_name q.0 q.1 ])
over_inner G u f a None k e d = CRefl d
over_inner G u f a (Some q) k e d =
    let m : App f a ≡ App (quantifier q.0) q.1 = quantifier_made (App f a) q e in
    subst (λ r. Conv G prop r (over_name q.0 q.1)) (sym m) (over_name_conv G q.0 q.1 (over_typed (subst (λ r. Typed G r prop) m d)))

over_names_conv : (G : List Ty) (T : Ty) (P : Tm) → Typed G P (function_of T prop) → Conv G prop (App (quantifier T) P) (over_names T P)
over_names_conv G T P d =
    let u : Typed (T ∷ G) (App (raise 1 0 P) (Bound 0)) prop = TApp (next_typed T d) (TBound refl) in
    CTrans (over_name_conv G T P d) (CApp {S = function_of T prop} (CRefl TConst) (CAbs (over_inner (T ∷ G) _ (raise 1 0 P) (Bound 0) (quantifier_parts (App (raise 1 0 P) (Bound 0))) refl refl u)))

spelled_abs : (f : Tm) (x : List ℕ) (S : Ty) (b : Tm) {G : List Ty} (o : Option (Ty × Tm)) → quantifier_parts (App f (Abs x S b)) ≡ o → Typed G (App f (Abs x S b)) prop → (Typed (S ∷ G) b prop → Conv (S ∷ G) prop b (spelled b)) →
    Conv G prop (App f (Abs x S b)) (elim o as (λ _. Tm) [ None ↦ App f (Abs x S b) | Some q ↦ App f (Abs x S (spelled b)) ])
spelled_abs f x S b None e d h = CRefl d
spelled_abs f x S b {G} (Some q) e d h =
    let c : f ≡ quantifier S = all_constant f x S b q e d in
    let k : Typed G (App (quantifier S) (Abs x S b)) prop = subst (λ g. Typed G (App g (Abs x S b)) prop) c d in
    subst (λ g. Conv G prop (App g (Abs x S b)) (App g (Abs x S (spelled b)))) (sym c) (CApp {S = function_of S prop} (CRefl TConst) (CAbs (h (body_typed k).1)))

spelled_app : (f a : Tm) {G : List Ty} (o : Option (Tm × Tm)) (k : Option (Ty × Tm)) → imp_parts (App f a) ≡ o → quantifier_parts (App f a) ≡ k → Typed G (App f a) prop → (Typed G a prop → Conv G prop a (spelled a)) →
    Conv G prop (App f a) (elim o as (λ _. Tm) [ None ↦ elim k as (λ _. Tm) [ None ↦ App f a | Some q ↦ over_names q.0 q.1 ] | Some p ↦ App f (spelled a) ])
spelled_app f a None None e r d h = CRefl d
spelled_app f a {G} None (Some q) e r d h =
    let m : App f a ≡ App (quantifier q.0) q.1 = quantifier_made (App f a) q r in
    subst (λ t. Conv G prop t (over_names q.0 q.1)) (sym m) (over_names_conv G q.0 q.1 (over_typed (subst (λ t. Typed G t prop) m d)))
spelled_app f a {G} (Some p) k e r d h =
    let c : f ≡ App implication p.0 = (imp_front f a p e).0 in
    let w = premise_typed (subst (λ g. Typed G (App g a) prop) c d) in
    subst (λ g. Conv G prop (App g a) (App g (spelled a))) (sym c) (CApp {S = prop} (CRefl (TApp TConst w.0)) (h w.1))

pub spelled_conv : (t : Tm) {G : List Ty} → Typed G t prop → Conv G prop t (spelled t)
spelled_conv (App f (Abs x S b)) d = spelled_abs f x S b (quantifier_parts (App f (Abs x S b))) refl d (λ e. spelled_conv b e)
spelled_conv (App f a) d = spelled_app f a (imp_parts (App f a)) (quantifier_parts (App f a)) refl refl d (λ e. spelled_conv a e)
spelled_conv (Const x T) d = CRefl d
spelled_conv (Free x T) d = CRefl d
spelled_conv (Unknown x i T) d = CRefl d
spelled_conv (Bound i) d = CRefl d
spelled_conv (Abs x T b) d = CRefl d

-- ---- the gathered form
abbrev pub AllTyped : List Ty → List Tm → Type 0
AllTyped G [] = Unit {0}
AllTyped G (h ∷ hs) = Typed G h prop × AllTyped G hs

pub implies_at : {G : List Ty} (hs : List Tm) {c : Tm} → AllTyped G hs → Typed G c prop → Typed G (implies hs c) prop
implies_at [] w d = d
implies_at (h ∷ hs) w d = TApp (TApp TConst w.0) (implies_at hs w.1 d)

pub all_raised : (G : List Ty) (S : Ty) (hs : List Tm) → AllTyped G hs → AllTyped (S ∷ G) (map (raise 1 0) hs)
all_raised G S [] w = tt
all_raised G S (h ∷ hs) w = (next_typed S w.0, all_raised G S hs w.1)

pub all_more : {G : List Ty} (hs : List Tm) (a : Tm) → AllTyped G hs → Typed G a prop → AllTyped G (hs ++ a ∷ [])
all_more [] a w d = (d, tt)
all_more (h ∷ hs) a w d = (w.0, all_more hs a w.1 d)

gathered_abs : (f : Tm) (x : List ℕ) (S : Ty) (b : Tm) (hs : List Tm) {G : List Ty} (o : Option (Ty × Tm)) → quantifier_parts (App f (Abs x S b)) ≡ o → AllTyped G hs → Typed G (App f (Abs x S b)) prop → (Typed (S ∷ G) b prop → Typed (S ∷ G) (gathered (map (raise 1 0) hs) b) prop) →
    Typed G (elim o as (λ _. Tm) [ None ↦ implies hs (App f (Abs x S b)) | Some q ↦ App f (Abs x S (gathered (map (raise 1 0) hs) b)) ]) prop
gathered_abs f x S b hs None e w d h = implies_at hs w d
gathered_abs f x S b hs {G} (Some q) e w d h =
    let c : f ≡ quantifier S = all_constant f x S b q e d in
    let k : Typed G (App (quantifier S) (Abs x S b)) prop = subst (λ g. Typed G (App g (Abs x S b)) prop) c d in
    subst (λ g. Typed G (App g (Abs x S (gathered (map (raise 1 0) hs) b))) prop) (sym c) (TApp TConst (TAbs (h (body_typed k).1)))

gathered_app : (f a : Tm) (hs : List Tm) {G : List Ty} (o : Option (Tm × Tm)) → imp_parts (App f a) ≡ o → AllTyped G hs → Typed G (App f a) prop → ((A : Tm) → Typed G A prop → Typed G a prop → Typed G (gathered (hs ++ A ∷ []) a) prop) →
    Typed G (elim o as (λ _. Tm) [ None ↦ implies hs (App f a) | Some p ↦ gathered (hs ++ p.0 ∷ []) a ]) prop
gathered_app f a hs None e w d h = implies_at hs w d
gathered_app f a hs {G} (Some p) e w d h =
    let v = premise_typed (subst (λ g. Typed G (App g a) prop) (imp_front f a p e).0 d) in
    h p.0 v.0 v.1

pub gathered_typed : (t : Tm) (hs : List Tm) {G : List Ty} → AllTyped G hs → Typed G t prop → Typed G (gathered hs t) prop
gathered_typed (App f (Abs x S b)) hs {G} w d = gathered_abs f x S b hs (quantifier_parts (App f (Abs x S b))) refl w d (λ e. gathered_typed b (map (raise 1 0) hs) (all_raised G S hs w) e)
gathered_typed (App f a) hs w d = gathered_app f a hs (imp_parts (App f a)) refl w d (λ A u v. gathered_typed a (hs ++ A ∷ []) (all_more hs A w u) v)
gathered_typed (Const x T) hs w d = implies_at hs w d
gathered_typed (Free x T) hs w d = implies_at hs w d
gathered_typed (Unknown x i T) hs w d = implies_at hs w d
gathered_typed (Bound i) hs w d = implies_at hs w d
gathered_typed (Abs x T b) hs w d = implies_at hs w d
