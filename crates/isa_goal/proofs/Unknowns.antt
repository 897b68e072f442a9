-- An instance that only renames unknowns and type unknowns.
use Rattle.std.specs.Prelude.{is_some, not, codes, option_map, option_and_then}
use Rattle.std.proofs.Common.{◌≡◌, ℕ, ◌+◌, List, [], ◌∷◌, Bool, true, false, cond, ◌||◌, ◌&&◌, nat_eq, Option, Some, None, unwrap_or, refl, sym, ap, ◌∙◌}
use Rattle.isa_terms.specs.Types.{Ty, Tys, TyCon, TyFixed, TyUnknown, NoTys, MoreTys}
use Rattle.isa_terms.specs.Terms.{Tm, Const, Free, Unknown, Bound, Abs, App}
use Rattle.isa_terms.specs.Equal.{name_eq, ty_eq}
use Rattle.isa_terms.specs.Typing.{function_of, two_args}
use Rattle.isa_terms.specs.Norm.{loose, norm}
use Rattle.isa_terms.specs.Normal.{redex_at, redex, IsHead, IsNormal}
use Rattle.isa_terms.specs.Instance.{find_type, find_term, inst_ty, inst_tys, inst_tm}
use Rattle.isa_terms.specs.declared.inst.TypeEntry.{TypeEntry}
use Rattle.isa_terms.specs.declared.inst.TermEntry.{TermEntry}
use Rattle.isa_kernel.specs.Logic.{prop, imp}
use Rattle.isa_kernel.specs.Forms.{predicate_of, imp_parts}
use Rattle.isa_kernel.proofs.Parts.{imp_made}
use Rattle.isa_terms.proofs.NormalForms.{norm_same}
use Rattle.isa_subgoal.specs.Premises.{conclusion}
use Rattle.isa_goal.specs.Matching.{is_ground, are_ground}
use Rattle.isa_subgoal.specs.Shape.{is_quantified, is_in_form}
use Rattle.isa_goal.proofs.Matches.{ground_same}
use Rattle.isa_subgoal.proofs.Spelling.{implication}

abbrev pub IsTypeUnknown : Ty → Type 0
IsTypeUnknown (TyUnknown x i) = Unit {0}
IsTypeUnknown _ = ⊥

abbrev pub IsUnknown : Tm → Type 0
IsUnknown (Unknown x i T) = Unit {0}
IsUnknown _ = ⊥

-- the entries send type unknowns to type unknowns, and unknowns to unknowns
abbrev pub RenamesTypes : List TypeEntry → Type 0
RenamesTypes [] = Unit {0}
RenamesTypes (e ∷ es) = IsTypeUnknown e.typ × RenamesTypes es

abbrev pub RenamesTerms : List TermEntry → Type 0
RenamesTerms [] = Unit {0}
RenamesTerms (f ∷ fs) = IsUnknown f.term × RenamesTerms fs

-- ---- what a type unknown or an unknown is not
type_unknown_ground : (U : Ty) → IsTypeUnknown U → is_ground U ≡ false
type_unknown_ground (TyUnknown x i) h = refl
type_unknown_ground (TyCon x Ts) h = absurd h
type_unknown_ground (TyFixed x) h = absurd h

type_unknown_prop : (U : Ty) → IsTypeUnknown U → ty_eq U prop ≡ false
type_unknown_prop (TyUnknown x i) h = refl
type_unknown_prop (TyCon x Ts) h = absurd h
type_unknown_prop (TyFixed x) h = absurd h

type_unknown_predicate : (U : Ty) → IsTypeUnknown U → predicate_of U ≡ None
type_unknown_predicate (TyUnknown x i) h = refl
type_unknown_predicate (TyCon x Ts) h = absurd h
type_unknown_predicate (TyFixed x) h = absurd h

unknown_loose : (k : ℕ) (u : Tm) → IsUnknown u → loose k u ≡ false
unknown_loose k (Unknown x i T) h = refl
unknown_loose k (Const x T) h = absurd h
unknown_loose k (Free x T) h = absurd h
unknown_loose k (Bound n) h = absurd h
unknown_loose k (Abs x T b) h = absurd h
unknown_loose k (App f a) h = absurd h

unknown_redex_at : (f u : Tm) → IsUnknown u → redex_at f u ≡ false
unknown_redex_at f (Unknown x i T) h = refl
unknown_redex_at f (Const x T) h = absurd h
unknown_redex_at f (Free x T) h = absurd h
unknown_redex_at f (Bound n) h = absurd h
unknown_redex_at f (Abs x T b) h = absurd h
unknown_redex_at f (App g a) h = absurd h

unknown_redex : (u : Tm) → IsUnknown u → redex u ≡ false
unknown_redex (Unknown x i T) h = refl
unknown_redex (Const x T) h = absurd h
unknown_redex (Free x T) h = absurd h
unknown_redex (Bound n) h = absurd h
unknown_redex (Abs x T b) h = absurd h
unknown_redex (App g a) h = absurd h

unknown_normal : (u : Tm) → IsUnknown u → IsHead u × IsNormal u
unknown_normal (Unknown x i T) h = (tt, tt)
unknown_normal (Const x T) h = absurd h
unknown_normal (Free x T) h = absurd h
unknown_normal (Bound n) h = absurd h
unknown_normal (Abs x T b) h = absurd h
unknown_normal (App g a) h = absurd h

unknown_quantified : (u : Tm) → IsUnknown u → is_quantified u ≡ false
unknown_quantified (Unknown x i T) h = refl
unknown_quantified (Const x T) h = absurd h
unknown_quantified (Free x T) h = absurd h
unknown_quantified (Bound n) h = absurd h
unknown_quantified (Abs x T b) h = absurd h
unknown_quantified (App g a) h = absurd h

unknown_applied : (u a : Tm) → IsUnknown u → is_quantified (App u a) ≡ false
unknown_applied (Unknown x i T) a h = refl
unknown_applied (Const x T) a h = absurd h
unknown_applied (Free x T) a h = absurd h
unknown_applied (Bound n) a h = absurd h
unknown_applied (Abs x T b) a h = absurd h
unknown_applied (App g b) a h = absurd h

unknown_imp : (u a : Tm) → IsUnknown u → imp_parts (App u a) ≡ None
unknown_imp (Unknown x i T) a h = refl
unknown_imp (Const x T) a h = absurd h
unknown_imp (Free x T) a h = absurd h
unknown_imp (Bound n) a h = absurd h
unknown_imp (Abs x T b) a h = absurd h
unknown_imp (App g b) a h = absurd h

unknown_imp_front : (u a b : Tm) → IsUnknown u → imp_parts (App (App u a) b) ≡ None
unknown_imp_front (Unknown x i T) a b h = refl
unknown_imp_front (Const x T) a b h = absurd h
unknown_imp_front (Free x T) a b h = absurd h
unknown_imp_front (Bound n) a b h = absurd h
unknown_imp_front (Abs x T c) a b h = absurd h
unknown_imp_front (App g c) a b h = absurd h

unknown_conclusion : (u : Tm) → IsUnknown u → conclusion u ≡ u
unknown_conclusion (Unknown x i T) h = refl
unknown_conclusion (Const x T) h = absurd h
unknown_conclusion (Free x T) h = absurd h
unknown_conclusion (Bound n) h = absurd h
unknown_conclusion (Abs x T b) h = absurd h
unknown_conclusion (App g a) h = absurd h

unknown_form : (u : Tm) → IsUnknown u → is_in_form u ≡ true
unknown_form (Unknown x i T) h = refl
unknown_form (Const x T) h = absurd h
unknown_form (Free x T) h = absurd h
unknown_form (Bound n) h = absurd h
unknown_form (Abs x T b) h = absurd h
unknown_form (App g a) h = absurd h

-- ---- types
module _ (es : List TypeEntry) (hs : RenamesTypes es) where
  pub type_renamed : (x : List ℕ) (i : ℕ) → IsTypeUnknown (inst_ty es (TyUnknown x i))
  type_renamed x i = go es hs
    where
      found : (e : TypeEntry) (o : Option Ty) (b : Bool) → IsTypeUnknown e.typ → IsTypeUnknown (unwrap_or o (TyUnknown x i)) → IsTypeUnknown (unwrap_or (cond b (Some e.typ) o) (TyUnknown x i))
      found e o true h r = h
      found e o false h r = r

      go : (ds : List TypeEntry) → RenamesTypes ds → IsTypeUnknown (inst_ty ds (TyUnknown x i))
      go [] h = tt
      go (e ∷ ds) h = found e (find_type x i ds) (name_eq x e.name && nat_eq i e.number) h.0 (go ds h.1)

  mutual
    ground_renamed : (T : Ty) → is_ground (inst_ty es T) ≡ is_ground T
    ground_renamed (TyCon x Ts) = grounds_renamed Ts
    ground_renamed (TyFixed x) = refl
    ground_renamed (TyUnknown x i) = type_unknown_ground (inst_ty es (TyUnknown x i)) (type_renamed x i)

    grounds_renamed : (Ts : Tys) → are_ground (inst_tys es Ts) ≡ are_ground Ts
    grounds_renamed NoTys = refl
    grounds_renamed (MoreTys T Ts) = λ i. ground_renamed T i && grounds_renamed Ts i

  -- a type without unknowns comes of itself alone
  pub ground_back : (T U : Ty) → is_ground U ≡ true → inst_ty es T ≡ U → T ≡ U
  ground_back T U g e = sym (ground_same es T (sym (ground_renamed T) ∙ ap is_ground e ∙ g)) ∙ e

  prop_renamed : (T : Ty) → ty_eq (inst_ty es T) prop ≡ ty_eq T prop
  prop_renamed (TyCon x NoTys) = refl
  prop_renamed (TyCon x (MoreTys T Ts)) = refl
  prop_renamed (TyFixed x) = refl
  prop_renamed (TyUnknown x i) = type_unknown_prop (inst_ty es (TyUnknown x i)) (type_renamed x i)

  abbrev ranged : Option (Ty × Ty) → Option Ty
  ranged o = option_and_then (λ p. cond (ty_eq p.1 prop) (Some p.0) None) o

  chosen : (A : Ty) (b : Bool) → cond b (Some (inst_ty es A)) None ≡ option_map (inst_ty es) (cond b (Some A) None)
  chosen A true = refl
  chosen A false = refl

  ranged_renamed : (Ts : Tys) (b : Bool) → ranged (cond b (two_args (inst_tys es Ts)) None) ≡ option_map (inst_ty es) (ranged (cond b (two_args Ts) None))
  ranged_renamed Ts false = refl
  ranged_renamed NoTys true = refl
  ranged_renamed (MoreTys A NoTys) true = refl
  ranged_renamed (MoreTys A (MoreTys B NoTys)) true = ap (λ b. cond b (Some (inst_ty es A)) None) (prop_renamed B) ∙ chosen A (ty_eq B prop)
  ranged_renamed (MoreTys A (MoreTys B (MoreTys C Ts))) true = refl

  predicate_renamed : (T : Ty) → predicate_of (inst_ty es T) ≡ option_map (inst_ty es) (predicate_of T)
  predicate_renamed (TyCon x Ts) = ranged_renamed Ts (name_eq x (codes "fun"))
  predicate_renamed (TyFixed x) = refl
  predicate_renamed (TyUnknown x i) = type_unknown_predicate (inst_ty es (TyUnknown x i)) (type_renamed x i)

-- ---- terms
module _ (es : List TypeEntry) (fs : List TermEntry) (hs : RenamesTypes es) (hf : RenamesTerms fs) where
  pub term_renamed : (x : List ℕ) (i : ℕ) (T : Ty) → IsUnknown (inst_tm es fs (Unknown x i T))
  term_renamed x i T = go fs hf
    where
      found : (f : TermEntry) (o : Option Tm) (b : Bool) → IsUnknown f.term → IsUnknown (unwrap_or o (Unknown x i (inst_ty es T))) → IsUnknown (unwrap_or (cond b (Some f.term) o) (Unknown x i (inst_ty es T)))
      found f o true h r = h
      found f o false h r = r

      go : (ds : List TermEntry) → RenamesTerms ds → IsUnknown (inst_tm es ds (Unknown x i T))
      go [] h = tt
      go (f ∷ ds) h = found f (find_term x i T ds) (name_eq x f.name && (nat_eq i f.number && ty_eq T f.typ)) h.0 (go ds h.1)

  -- ---- normal forms
  loose_renamed : (k : ℕ) (t : Tm) → loose k (inst_tm es fs t) ≡ loose k t
  loose_renamed k (Const x T) = refl
  loose_renamed k (Free x T) = refl
  loose_renamed k (Unknown x i T) = unknown_loose k (inst_tm es fs (Unknown x i T)) (term_renamed x i T)
  loose_renamed k (Bound n) = refl
  loose_renamed k (Abs x T b) = loose_renamed (k + 1) b
  loose_renamed k (App f a) = λ i. loose_renamed k f i || loose_renamed k a i

  redex_renamed : (b : Tm) → redex (inst_tm es fs b) ≡ redex b
  redex_renamed (App f (Bound i)) = ap (λ v. nat_eq i 0 && not v) (loose_renamed 0 f)
  redex_renamed (App f (Const x T)) = refl
  redex_renamed (App f (Free x T)) = refl
  redex_renamed (App f (Unknown x i T)) = unknown_redex_at (inst_tm es fs f) (inst_tm es fs (Unknown x i T)) (term_renamed x i T)
  redex_renamed (App f (Abs x T b)) = refl
  redex_renamed (App f (App g a)) = refl
  redex_renamed (Const x T) = refl
  redex_renamed (Free x T) = refl
  redex_renamed (Unknown x i T) = unknown_redex (inst_tm es fs (Unknown x i T)) (term_renamed x i T)
  redex_renamed (Bound n) = refl
  redex_renamed (Abs x T b) = refl

  head_renamed : (t : Tm) → IsHead t → IsHead (inst_tm es fs t)
  head_renamed (Const x T) h = tt
  head_renamed (Free x T) h = tt
  head_renamed (Unknown x i T) h = (unknown_normal (inst_tm es fs (Unknown x i T)) (term_renamed x i T)).0
  head_renamed (Bound n) h = tt
  head_renamed (Abs x T b) h = absurd h
  head_renamed (App f a) h = tt

  pub normal_renamed : (t : Tm) → IsNormal t → IsNormal (inst_tm es fs t)
  normal_renamed (Const x T) n = tt
  normal_renamed (Free x T) n = tt
  normal_renamed (Unknown x i T) n = (unknown_normal (inst_tm es fs (Unknown x i T)) (term_renamed x i T)).1
  normal_renamed (Bound k) n = tt
  normal_renamed (Abs x T b) n = (normal_renamed b n.0, redex_renamed b ∙ n.1)
  normal_renamed (App f a) n = (head_renamed f n.0, (normal_renamed f n.1.0, normal_renamed a n.1.1))

  -- the instance of a normal term is what stands in it
  pub instance_renamed : (t : Tm) → IsNormal t → norm (inst_tm es fs t) ≡ inst_tm es fs t
  instance_renamed t n = norm_same (inst_tm es fs t) (normal_renamed t n)

  -- ---- the parts of a proposition
  -- whether there is a predicate behind a predicate, with the term that it is applied to
  abbrev has_domain : Tm → Option Ty → Bool
  has_domain a o = is_some (option_and_then {T = Ty} {U = Ty × Tm} (λ T. Some (T, a)) o)

  abbrev has_range : Tm → Option Ty → Bool
  has_range a o = is_some (option_and_then {T = Ty} {U = Ty × Tm} (λ P. option_and_then {T = Ty} {U = Ty × Tm} (λ T. Some (T, a)) (predicate_of P)) o)

  abbrev has_type : Tm → Option Ty → Bool
  has_type a o = is_some (option_and_then {T = Ty} {U = Ty × Tm} (λ F. option_and_then {T = Ty} {U = Ty × Tm} (λ P. option_and_then {T = Ty} {U = Ty × Tm} (λ T. Some (T, a)) (predicate_of P)) (predicate_of F)) o)

  domain_renamed : (a c : Tm) (o : Option Ty) → has_domain c (option_map (inst_ty es) o) ≡ has_domain a o
  domain_renamed a c None = refl
  domain_renamed a c (Some T) = refl

  over_renamed : (a c : Tm) (o : Option Ty) → has_range c (option_map (inst_ty es) o) ≡ has_range a o
  over_renamed a c None = refl
  over_renamed a c (Some P) = ap (has_domain c) (predicate_renamed es hs P) ∙ domain_renamed a c (predicate_of P)

  all_renamed : (F : Ty) (a c : Tm) (b : Bool) → has_type c (cond b (Some (inst_ty es F)) None) ≡ has_type a (cond b (Some F) None)
  all_renamed F a c false = refl
  all_renamed F a c true = ap (has_range c) (predicate_renamed es hs F) ∙ over_renamed a c (predicate_of F)

  quantified_renamed : (t : Tm) → is_quantified (inst_tm es fs t) ≡ is_quantified t
  quantified_renamed (App (Const x F) a) = all_renamed F a (inst_tm es fs a) (name_eq x (codes "Pure.all"))
  quantified_renamed (App (Free x F) a) = refl
  quantified_renamed (App (Unknown x i F) a) = unknown_applied (inst_tm es fs (Unknown x i F)) (inst_tm es fs a) (term_renamed x i F)
  quantified_renamed (App (Bound n) a) = refl
  quantified_renamed (App (Abs x T b) a) = refl
  quantified_renamed (App (App g b) a) = refl
  quantified_renamed (Const x T) = refl
  quantified_renamed (Free x T) = refl
  quantified_renamed (Unknown x i T) = unknown_quantified (inst_tm es fs (Unknown x i T)) (term_renamed x i T)
  quantified_renamed (Bound n) = refl
  quantified_renamed (Abs x T b) = refl

  -- a constant of the type of `==>` comes of one
  imp_back : (x : List ℕ) (F : Ty) → Const x (inst_ty es F) ≡ implication → Const x F ≡ implication
  imp_back x F e =
      let n : x ≡ codes "Pure.imp" = cc in
      let t : inst_ty es F ≡ function_of prop (function_of prop prop) = cc in
      let b : F ≡ function_of prop (function_of prop prop) = ground_back es hs F (function_of prop (function_of prop prop)) refl t in
      λ i. Const (n i) (b i)

  abbrev front : Tm → Tm
  front (App (App f a) b) = f
  front t = t

  imp_const : (x : List ℕ) (F : Ty) (a b : Tm) (o : Option (Tm × Tm)) → imp_parts (App (App (Const x (inst_ty es F)) (inst_tm es fs a)) (inst_tm es fs b)) ≡ o → is_some o ≡ true → imp_parts (App (App (Const x F) a) b) ≡ Some (a, b)
  imp_const x F a b None e s = cc
  imp_const x F a b (Some p) e s =
      let m : App (App (Const x (inst_ty es F)) (inst_tm es fs a)) (inst_tm es fs b) ≡ imp p.0 p.1 = imp_made (App (App (Const x (inst_ty es F)) (inst_tm es fs a)) (inst_tm es fs b)) p e in
      ap (λ f. imp_parts (App (App f a) b)) (imp_back x F (ap front m))

  imp_kept : (t : Tm) (p : Tm × Tm) → imp_parts t ≡ Some p → is_some (imp_parts (inst_tm es fs t)) ≡ true
  imp_kept t p e = ap (λ u. is_some (imp_parts (inst_tm es fs u))) (imp_made t p e)

  imp_either : (x : List ℕ) (F : Ty) (a b : Tm) (o : Option (Tm × Tm)) (v : Bool) → imp_parts (App (App (Const x F) a) b) ≡ o → is_some (imp_parts (App (App (Const x (inst_ty es F)) (inst_tm es fs a)) (inst_tm es fs b))) ≡ v → v ≡ is_some o
  imp_either x F a b (Some p) v e s = sym s ∙ imp_kept (App (App (Const x F) a) b) p e
  imp_either x F a b None false e s = refl
  imp_either x F a b None true e s =
      let k : imp_parts (App (App (Const x F) a) b) ≡ Some (a, b) = imp_const x F a b _ refl s in
      absurd (cc)

  implies_renamed : (t : Tm) → is_some (imp_parts (inst_tm es fs t)) ≡ is_some (imp_parts t)
  implies_renamed (App (App (Const x F) a) b) = imp_either x F a b _ _ refl refl
  implies_renamed (App (App (Unknown x i F) a) b) = ap is_some (unknown_imp_front (inst_tm es fs (Unknown x i F)) (inst_tm es fs a) (inst_tm es fs b) (term_renamed x i F))
  implies_renamed (App (App (Free x F) a) b) = refl
  implies_renamed (App (App (Bound n) a) b) = refl
  implies_renamed (App (App (Abs x T c) a) b) = refl
  implies_renamed (App (App (App g c) a) b) = refl
  implies_renamed (App (Unknown x i F) b) = ap is_some (unknown_imp (inst_tm es fs (Unknown x i F)) (inst_tm es fs b) (term_renamed x i F))
  implies_renamed (App (Const x F) b) = refl
  implies_renamed (App (Free x F) b) = refl
  implies_renamed (App (Bound n) b) = refl
  implies_renamed (App (Abs x T c) b) = refl
  implies_renamed (Const x T) = refl
  implies_renamed (Free x T) = refl
  implies_renamed (Unknown x i T) = atom (inst_tm es fs (Unknown x i T)) (term_renamed x i T)
    where
      atom : (u : Tm) → IsUnknown u → is_some (imp_parts u) ≡ false
      atom (Unknown x i T) h = refl
      atom (Const x T) h = absurd h
      atom (Free x T) h = absurd h
      atom (Bound n) h = absurd h
      atom (Abs x T b) h = absurd h
      atom (App g a) h = absurd h
  implies_renamed (Bound n) = refl
  implies_renamed (Abs x T b) = refl

  conclusion_at : (f b : Tm) (o p : Option (Tm × Tm)) → is_some o ≡ is_some p → conclusion (inst_tm es fs b) ≡ inst_tm es fs (conclusion b) →
      elim o as (λ _. Tm) [ None ↦ App (inst_tm es fs f) (inst_tm es fs b) | Some q ↦ conclusion (inst_tm es fs b) ] ≡ inst_tm es fs (elim p as (λ _. Tm) [ None ↦ App f b | Some q ↦ conclusion b ])
  conclusion_at f b None None s e = refl
  conclusion_at f b (Some q) (Some r) s e = e
  conclusion_at f b None (Some r) s e = cc
  conclusion_at f b (Some q) None s e = cc

  conclusion_renamed : (t : Tm) → conclusion (inst_tm es fs t) ≡ inst_tm es fs (conclusion t)
  conclusion_renamed (App f b) = conclusion_at f b (imp_parts (inst_tm es fs (App f b))) (imp_parts (App f b)) (implies_renamed (App f b)) (conclusion_renamed b)
  conclusion_renamed (Const x T) = refl
  conclusion_renamed (Free x T) = refl
  conclusion_renamed (Unknown x i T) = unknown_conclusion (inst_tm es fs (Unknown x i T)) (term_renamed x i T)
  conclusion_renamed (Bound n) = refl
  conclusion_renamed (Abs x T b) = refl

  last_renamed : (t : Tm) → is_quantified (conclusion (inst_tm es fs t)) ≡ is_quantified (conclusion t)
  last_renamed t = ap is_quantified (conclusion_renamed t) ∙ quantified_renamed (conclusion t)

  applied_form : (f a : Tm) → IsHead a → is_in_form (App f a) ≡ (is_quantified (App f a) || not (is_quantified (conclusion (App f a))))
  applied_form f (Const x T) h = refl
  applied_form f (Free x T) h = refl
  applied_form f (Unknown x i T) h = refl
  applied_form f (Bound n) h = refl
  applied_form f (Abs x T b) h = absurd h
  applied_form f (App g a) h = refl

  head_form : (f a : Tm) → IsHead a → is_in_form (inst_tm es fs (App f a)) ≡ is_in_form (App f a)
  head_form f a h =
      applied_form (inst_tm es fs f) (inst_tm es fs a) (head_renamed a h)
      ∙ (λ i. quantified_renamed (App f a) i || not (last_renamed (App f a) i))
      ∙ sym (applied_form f a h)

  -- what is in the form stays in it, and nothing else gets into it
  pub form_renamed : (t : Tm) → is_in_form (inst_tm es fs t) ≡ is_in_form t
  form_renamed (App f (Abs x T b)) = λ i. cond (quantified_renamed (App f (Abs x T b)) i) (form_renamed b i) (not (last_renamed (App f (Abs x T b)) i))
  form_renamed (App f a) = head_form f a tt
  form_renamed (Const x T) = refl
  form_renamed (Free x T) = refl
  form_renamed (Unknown x i T) = unknown_form (inst_tm es fs (Unknown x i T)) (term_renamed x i T)
  form_renamed (Bound n) = refl
  form_renamed (Abs x T b) = refl
