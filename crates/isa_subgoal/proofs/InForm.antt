-- A shaped subgoal is in the form.
use Rattle.std.specs.Prelude.{is_some, not}
use Rattle.std.proofs.Common.{◌≡◌, ℕ, ◌-◌, List, [], ◌∷◌, ◌++◌, map, Bool, true, false, cond, ◌||◌, nat_eq, nat_lt, Option, Some, None, refl, sym, ap, ◌∙◌, subst}
use Rattle.isa_terms.specs.Types.{Ty}
use Rattle.isa_terms.specs.Terms.{Tm, Const, Free, Unknown, Bound, Abs, App}
use Rattle.isa_terms.specs.Replace.{raise, replace}
use Rattle.isa_terms.specs.Norm.{norm, eta, loose}
use Rattle.isa_terms.specs.Normal.{IsHead, IsNormal}
use Rattle.isa_kernel.specs.Logic.{prop, IsProposition}
use Rattle.isa_kernel.specs.Forms.{imp_parts, quantifier_parts}
use Rattle.isa_kernel.proofs.Quantifier.{quantifier}
use Rattle.isa_kernel.proofs.Preserved.{abs_typed}
use Rattle.isa_terms.proofs.Typed.{Typed, typed_of_type}
use Rattle.isa_terms.proofs.Conv.{right_typed}
use Rattle.isa_terms.proofs.NormalForms.{norm_normal, norm_same, raise_normal}
use Rattle.isa_terms.specs.Instances.{Each}
use Rattle.isa_subgoal.specs.Premises.{implies, conclusion}
use Rattle.isa_subgoal.specs.Shape.{is_quantified, is_in_form, over_name, over_names, spelled, gathered, moved, shaped}
use Rattle.isa_subgoal.proofs.Spelling.{implication, imp_front, all_front, premise_typed, body_typed, all_constant, spelled_conv, AllTyped, all_raised, all_more, gathered_typed}

-- ---- what is spelled out
-- `!!`s over abstractions and `==>`s, and then a conclusion that is neither
pub data IsSpelled : Tm → Type 0 where
  SAll : {S : Ty} {x : List ℕ} {b : Tm} → IsSpelled b → IsSpelled (App (quantifier S) (Abs x S b))
  SImp : {A b : Tm} → IsNormal A → IsSpelled b → IsSpelled (App (App implication A) b)
  SEnd : {c : Tm} → IsNormal c → imp_parts c ≡ None → quantifier_parts c ≡ None → IsSpelled c

no_abstraction : {G : List Ty} {x : List ℕ} {S : Ty} {b : Tm} → Typed G (Abs x S b) prop → ⊥
no_abstraction d = let a = abs_typed d in absurd (cc (a.1))

no_imp : (f : Tm) (x : List ℕ) (S : Ty) (b : Tm) {G : List Ty} → Typed G (App f (Abs x S b)) prop → imp_parts (App f (Abs x S b)) ≡ None
no_imp f x S b {G} d = go (imp_parts (App f (Abs x S b))) refl
  where
    go : (o : Option (Tm × Tm)) → imp_parts (App f (Abs x S b)) ≡ o → imp_parts (App f (Abs x S b)) ≡ None
    go None e = e
    go (Some p) e = absurd (no_abstraction (premise_typed (subst (λ g. Typed G (App g (Abs x S b)) prop) (imp_front f (Abs x S b) p e).0 d)).1)

-- a predicate that is no abstraction, at the variable of one binder more
at_last_normal : (P : Tm) → IsHead P → IsNormal P → IsNormal (App (raise 1 0 P) (Bound 0))
at_last_normal P h n = let k = raise_normal 1 0 (App P (Free [] prop)) (h, (n, tt)) in (k.0, (k.1.0, tt))

over_inner : (f a : Tm) (o : Option (Tm × Tm)) (k : Option (Ty × Tm)) → a ≡ Bound 0 → imp_parts (App f a) ≡ o → quantifier_parts (App f a) ≡ k → IsNormal (App f a) → IsSpelled (elim k as (λ _. Tm) [ None ↦ App f a | Some q ↦ over_name q.0 q.1 ])
over_inner f a None None z e r n = SEnd n e r
over_inner f a (Some p) None z e r n =
    let c : f ≡ App implication p.0 = (imp_front f a p e).0 in
    let m : IsNormal (App (App implication p.0) a) = subst (λ g. IsNormal (App g a)) c n in
    let last : IsSpelled a = subst IsSpelled (sym z) (SEnd {c = Bound 0} tt refl refl) in
    subst (λ g. IsSpelled (App g a)) (sym c) (SImp m.1.0.1.1 last)
over_inner f a o (Some q) z e r n =
    let b : q.1 ≡ Bound 0 = sym (all_front f a q r).1 ∙ z in
    subst (λ v. IsSpelled (over_name q.0 v)) (sym b) (SAll (SEnd {c = App (Bound 1) (Bound 0)} (tt, (tt, tt)) refl refl))

over_names_spelled : (T : Ty) (P : Tm) → IsHead P → IsNormal P → IsSpelled (over_names T P)
over_names_spelled T P h n = SAll (over_inner (raise 1 0 P) (Bound 0) (imp_parts (App (raise 1 0 P) (Bound 0))) (quantifier_parts (App (raise 1 0 P) (Bound 0))) refl refl refl (at_last_normal P h n))

spelled_abs : (f : Tm) (x : List ℕ) (S : Ty) (b : Tm) {G : List Ty} (o : Option (Ty × Tm)) → quantifier_parts (App f (Abs x S b)) ≡ o → Typed G (App f (Abs x S b)) prop → IsNormal (App f (Abs x S b)) → (Typed (S ∷ G) b prop → IsNormal b → IsSpelled (spelled b)) →
    IsSpelled (elim o as (λ _. Tm) [ None ↦ App f (Abs x S b) | Some q ↦ App f (Abs x S (spelled b)) ])
spelled_abs f x S b None e d n h = SEnd n (no_imp f x S b d) e
spelled_abs f x S b {G} (Some q) e d n h =
    let c : f ≡ quantifier S = all_constant f x S b q e d in
    subst (λ g. IsSpelled (App g (Abs x S (spelled b)))) (sym c) (SAll (h (body_typed (subst (λ g. Typed G (App g (Abs x S b)) prop) c d)).1 n.1.1.0))

spelled_app : (f a : Tm) {G : List Ty} (o : Option (Tm × Tm)) (k : Option (Ty × Tm)) → imp_parts (App f a) ≡ o → quantifier_parts (App f a) ≡ k → Typed G (App f a) prop → IsNormal (App f a) → IsHead a → (Typed G a prop → IsNormal a → IsSpelled (spelled a)) →
    IsSpelled (elim o as (λ _. Tm) [ None ↦ elim k as (λ _. Tm) [ None ↦ App f a | Some q ↦ over_names q.0 q.1 ] | Some p ↦ App f (spelled a) ])
spelled_app f a None None e r d n i h = SEnd n e r
spelled_app f a None (Some q) e r d n i h =
    let m : a ≡ q.1 = (all_front f a q r).1 in
    over_names_spelled q.0 q.1 (subst IsHead m i) (subst IsNormal m n.1.1)
spelled_app f a {G} (Some p) k e r d n i h =
    let c : f ≡ App implication p.0 = (imp_front f a p e).0 in
    let m : IsNormal (App (App implication p.0) a) = subst (λ g. IsNormal (App g a)) c n in
    let w = premise_typed (subst (λ g. Typed G (App g a) prop) c d) in
    subst (λ g. IsSpelled (App g (spelled a))) (sym c) (SImp m.1.0.1.1 (h w.1 n.1.1))

spelled_is : (t : Tm) {G : List Ty} → Typed G t prop → IsNormal t → IsSpelled (spelled t)
spelled_is (App f (Abs x S b)) d n = spelled_abs f x S b (quantifier_parts (App f (Abs x S b))) refl d n (λ e m. spelled_is b e m)
spelled_is (App f a) d n = spelled_app f a (imp_parts (App f a)) (quantifier_parts (App f a)) refl refl d n tt (λ e m. spelled_is a e m)
spelled_is (Const x T) d n = SEnd tt refl refl
spelled_is (Free x T) d n = SEnd tt refl refl
spelled_is (Unknown x i T) d n = SEnd tt refl refl
spelled_is (Bound i) d n = SEnd tt refl refl
spelled_is (Abs x T b) d n = absurd (no_abstraction d)

-- ---- the premises and the conclusion
conclusion_end : (c : Tm) → imp_parts c ≡ None → conclusion c ≡ c
conclusion_end (App f b) e = ap (λ o. elim o as (λ _. Tm) [ None ↦ App f b | Some p ↦ conclusion b ]) e
conclusion_end (Const x T) e = refl
conclusion_end (Free x T) e = refl
conclusion_end (Unknown x i T) e = refl
conclusion_end (Bound i) e = refl
conclusion_end (Abs x T b) e = refl

conclusion_implies : (hs : List Tm) (c : Tm) → conclusion (implies hs c) ≡ conclusion c
conclusion_implies [] c = refl
conclusion_implies (h ∷ hs) c = conclusion_implies hs c

plain_form : (t : Tm) → quantifier_parts t ≡ None → quantifier_parts (conclusion t) ≡ None → is_in_form t ≡ true
plain_form (App f (Abs x S b)) r e = ap (λ (o : Option (Ty × Tm)). cond (is_some o) (is_in_form b) (not (is_quantified (conclusion (App f (Abs x S b)))))) r ∙ ap (λ (o : Option (Ty × Tm)). not (is_some o)) e
plain_form (App f a) r e = λ i. is_some (r i) || not (is_some (e i))
plain_form (Const x T) r e = refl
plain_form (Free x T) r e = refl
plain_form (Unknown x i T) r e = refl
plain_form (Bound i) r e = refl
plain_form (Abs x T b) r e = refl

-- what is no `!!`
without : (t : Tm) → is_quantified t ≡ false → is_in_form t ≡ not (is_quantified (conclusion t))
without (App f (Abs x S b)) e = ap (λ c. cond c (is_in_form b) (not (is_quantified (conclusion (App f (Abs x S b)))))) e
without (App f a) e = ap (λ c. c || not (is_quantified (conclusion (App f a)))) e
without (Const x T) e = refl
without (Free x T) e = refl
without (Unknown x i T) e = refl
without (Bound i) e = refl
without (Abs x T b) e = refl

pub form_without : (t u : Tm) (a b : Bool) → a ≡ is_quantified t → a ≡ false → u ≡ conclusion t → b ≡ is_quantified u → not b ≡ is_in_form t
form_without t u a b e f g h = ap not (h ∙ ap is_quantified g) ∙ sym (without t (sym e ∙ f))

implies_none : (hs : List Tm) (c : Tm) → quantifier_parts c ≡ None → quantifier_parts (implies hs c) ≡ None
implies_none [] c r = r
implies_none (h ∷ hs) c r = refl

implies_form : (hs : List Tm) (c : Tm) → imp_parts c ≡ None → quantifier_parts c ≡ None → is_in_form (implies hs c) ≡ true
implies_form hs c e r = plain_form (implies hs c) (implies_none hs c r) (ap quantifier_parts (conclusion_implies hs c ∙ conclusion_end c e) ∙ r)

implies_normal : (hs : List Tm) (c : Tm) → Each IsNormal hs → IsNormal c → IsNormal (implies hs c)
implies_normal [] c w n = n
implies_normal (h ∷ hs) c w n = (tt, ((tt, (tt, w.0)), implies_normal hs c w.1 n))

-- ---- the parameters
replaced_form : (S : Ty) (f : Tm) → IsHead f → is_in_form (App (quantifier S) (replace f (Bound 0))) ≡ true
replaced_form S (Const x T) h = refl
replaced_form S (Free x T) h = refl
replaced_form S (Unknown x i T) h = refl
replaced_form S (App f a) h = refl
replaced_form S (Abs x T b) h = absurd h
replaced_form S (Bound i) h =
    elim (nat_eq i 0) as (λ b. is_in_form (App (quantifier S) (cond b (Bound 0) (cond (nat_lt 0 i) (Bound (i - 1)) (Bound i)))) ≡ true) [
      | true ↦ refl
      | false ↦ elim (nat_lt 0 i) as (λ b. is_in_form (App (quantifier S) (cond b (Bound (i - 1)) (Bound i))) ≡ true) [ true ↦ refl | false ↦ refl ]
    ]

eta_bound : (x : List ℕ) (S : Ty) (f : Tm) (i : ℕ) (b c : Bool) → IsHead f → is_in_form (App f (Bound i)) ≡ true → is_in_form (App (quantifier S) (cond b (cond c (Abs x S (App f (Bound i))) (replace f (Bound 0))) (Abs x S (App f (Bound i))))) ≡ true
eta_bound x S f i true true h e = e
eta_bound x S f i true false h e = replaced_form S f h
eta_bound x S f i false c h e = e

eta_form : (x : List ℕ) (S : Ty) (b : Tm) → IsNormal b → is_in_form b ≡ true → is_in_form (App (quantifier S) (eta x S b)) ≡ true
eta_form x S (App f (Bound i)) n e = eta_bound x S f i (nat_eq i 0) (loose 0 f) n.0 e
eta_form x S (App f (Const y T)) n e = e
eta_form x S (App f (Free y T)) n e = e
eta_form x S (App f (Unknown y i T)) n e = e
eta_form x S (App f (Abs y T c)) n e = e
eta_form x S (App f (App g a)) n e = e
eta_form x S (Const y T) n e = refl
eta_form x S (Free y T) n e = refl
eta_form x S (Unknown y i T) n e = refl
eta_form x S (Bound i) n e = refl
eta_form x S (Abs y T c) n e = refl

-- ---- the gathered form
gathered_imp : (hs : List Tm) (A b : Tm) {G : List Ty} → Typed G b prop → gathered hs (App (App implication A) b) ≡ gathered (hs ++ A ∷ []) b
gathered_imp hs A (App f a) d = refl
gathered_imp hs A (Const x T) d = refl
gathered_imp hs A (Free x T) d = refl
gathered_imp hs A (Unknown x i T) d = refl
gathered_imp hs A (Bound i) d = refl
gathered_imp hs A (Abs x T b) d = absurd (no_abstraction d)

gathered_end : (hs : List Tm) (c : Tm) → imp_parts c ≡ None → quantifier_parts c ≡ None → gathered hs c ≡ implies hs c
gathered_end hs (App f (Abs x S b)) e r = ap (λ o. elim o as (λ _. Tm) [ None ↦ implies hs (App f (Abs x S b)) | Some q ↦ App f (Abs x S (gathered (map (raise 1 0) hs) b)) ]) r
gathered_end hs (App f a) e r = ap (λ o. elim o as (λ _. Tm) [ None ↦ implies hs (App f a) | Some p ↦ gathered (hs ++ p.0 ∷ []) a ]) e
gathered_end hs (Const x T) e r = refl
gathered_end hs (Free x T) e r = refl
gathered_end hs (Unknown x i T) e r = refl
gathered_end hs (Bound i) e r = refl
gathered_end hs (Abs x T b) e r = refl

all_raised_normal : (hs : List Tm) → Each IsNormal hs → Each IsNormal (map (raise 1 0) hs)
all_raised_normal [] w = tt
all_raised_normal (h ∷ hs) w = (raise_normal 1 0 h w.0, all_raised_normal hs w.1)

all_more_normal : (hs : List Tm) (a : Tm) → Each IsNormal hs → IsNormal a → Each IsNormal (hs ++ a ∷ [])
all_more_normal [] a w n = (n, tt)
all_more_normal (h ∷ hs) a w n = (w.0, all_more_normal hs a w.1 n)

gathered_form : {s : Tm} → IsSpelled s → (hs : List Tm) (G : List Ty) → Typed G s prop → AllTyped G hs → Each IsNormal hs → is_in_form (norm (gathered hs s)) ≡ true
gathered_form (SAll {S} {x} {b} i) hs G d w n =
    let ups : List Tm = map (raise 1 0) hs in
    let db : Typed (S ∷ G) b prop = (body_typed d).1 in
    let wb : AllTyped (S ∷ G) ups = all_raised G S hs w in
    eta_form x S (norm (gathered ups b)) (norm_normal (gathered_typed b ups wb db)) (gathered_form i ups (S ∷ G) db wb (all_raised_normal hs n))
gathered_form (SImp {A} {b} m i) hs G d w n =
    let k = premise_typed d in
    ap (λ t. is_in_form (norm t)) (gathered_imp hs A b k.1) ∙ gathered_form i (hs ++ A ∷ []) G k.1 (all_more hs A w k.0) (all_more_normal hs A n m)
gathered_form (SEnd {c} m e r) hs G d w n =
    ap (λ t. is_in_form (norm t)) (gathered_end hs c e r) ∙ ap is_in_form (norm_same (implies hs c) (implies_normal hs c n m)) ∙ implies_form hs c e r

pub shaped_in_form : (t : Tm) → IsProposition t → IsNormal t → is_in_form (shaped t) ≡ true
shaped_in_form t h n = go (is_in_form t) refl
  where
    go : (b : Bool) → is_in_form t ≡ b → is_in_form (cond b t (norm (moved t))) ≡ true
    go true e = e
    go false e = let d : Typed [] t prop = typed_of_type [] t prop h in gathered_form (spelled_is t d n) [] [] (right_typed (spelled_conv t d)) tt tt

-- ---- the steps as the code takes them
pub gathered_parameter : (hs ups : List Tm) (t f : Tm) (x : List ℕ) (T : Ty) (b inner : Tm) (q : Ty × Tm) → App f (Abs x T b) ≡ t → Some q ≡ quantifier_parts t → ups ≡ map (raise 1 0) hs → inner ≡ gathered ups b → App f (Abs x T inner) ≡ gathered hs t
gathered_parameter hs ups t f x T b inner q e g h k =
    ap (λ u. App f (Abs x T u)) (k ∙ ap (λ us. gathered us b) h)
    ∙ ap (λ o. elim o as (λ _. Tm) [ None ↦ implies hs (App f (Abs x T b)) | Some p ↦ App f (Abs x T (gathered (map (raise 1 0) hs) b)) ]) (g ∙ ap quantifier_parts (sym e))
    ∙ ap (gathered hs) e

pub gathered_premise : (hs gs : List Tm) (t f a : Tm) (p : Tm × Tm) → App f a ≡ t → IsHead a → Some p ≡ imp_parts t → gs ≡ hs ++ p.0 ∷ [] → gathered gs a ≡ gathered hs t
gathered_premise hs gs t f a p e i g h =
    ap (λ xs. gathered xs a) h
    ∙ ap (λ (o : Option (Tm × Tm)). elim o as (λ _. Tm) [ None ↦ implies hs (App f a) | Some q ↦ gathered (hs ++ q.0 ∷ []) a ]) (g ∙ ap imp_parts (sym e))
    ∙ sym (shape a i)
    ∙ ap (gathered hs) e
  where
    shape : (a : Tm) → IsHead a → gathered hs (App f a) ≡ elim (imp_parts (App f a)) as (λ _. Tm) [ None ↦ implies hs (App f a) | Some q ↦ gathered (hs ++ q.0 ∷ []) a ]
    shape (Const x T) i = refl
    shape (Free x T) i = refl
    shape (Unknown x m T) i = refl
    shape (Bound m) i = refl
    shape (App k c) i = refl
    shape (Abs x T b) i = absurd i
