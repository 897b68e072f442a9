-- What brings a subgoal into its form, and that the subgoal follows from that.
use Rattle.std.specs.Prelude.{option_and_then, codes}
use Rattle.std.proofs.Common.{◌≡◌, inl, ℕ, ◌+◌, ◌<◌, arith, List, [], ◌∷◌, ◌++◌, map, Bool, true, false, cond, ◌||◌, Option, Some, None, refl, sym, ap, ◌∙◌, subst}
use Rattle.isa_terms.specs.Types.{Ty}
use Rattle.isa_terms.specs.Terms.{Tm, Const, Free, Unknown, Bound, Abs, App, bare}
use Rattle.isa_terms.specs.Typing.{HasType, type_at, function_of}
use Rattle.isa_terms.specs.Norm.{norm}
use Rattle.isa_terms.specs.Normal.{IsNormal}
use Rattle.isa_terms.specs.Facts.{is_normal}
use Rattle.isa_terms.proofs.KnownNormal.{normal_kept}
use Rattle.isa_terms.specs.Instance.{Instance}
use Rattle.isa_terms.specs.Sets.{without}
use Rattle.isa_terms.proofs.Bare.{type_at_bare}
use Rattle.isa_kernel.specs.Logic.{prop, imp, IsProposition}
use Rattle.isa_kernel.specs.Forms.{imp_parts, quantifier_parts}
use Rattle.isa_kernel.specs.declared.base.BaseEntry.{BaseEntry}
use Rattle.isa_kernel.specs.Derivation.{Derives}
use Rattle.isa_kernel.specs.Theorem.{Theorem, IsDerived}
use Rattle.isa_kernel.specs.Inferences.{assumed, implies_introduced, forall_introduced, forall_eliminated, instantiated}
use Rattle.isa_kernel.proofs.Sound.{assumed_sound, implies_introduced_sound, forall_introduced_sound, forall_eliminated_sound}
use Rattle.isa_kernel.proofs.Instances.{instantiated_sound}
use Rattle.isa_kernel.proofs.Fill.{fill}
use Rattle.isa_kernel.proofs.Closed.{fill_none}
use Rattle.isa_terms.proofs.Functions.{bind_some}
use Rattle.isa_terms.proofs.Typed.{Typed, type_of_typed, typed_of_type}
use Rattle.isa_terms.proofs.Conv.{Conv, CSym, CTrans, right_typed, norm_conv}
use Rattle.isa_terms.proofs.FreeNames.{same_conv}
use Rattle.isa_terms.proofs.Unique.{conv_norm}
use Rattle.isa_terms.proofs.NormalForms.{norm_same, norm_normal}
use Rattle.isa_subgoal.specs.Private.Steps.{eliminated}
use Rattle.isa_subgoal.specs.Shape.{is_in_form, spelled, moved, shaped}
use Rattle.isa_subgoal.specs.Private.Reshaping.{opened, colons, name_lengths, regained, regaining, met_form}
use Rattle.isa_subgoal.proofs.Deriving.{ArePropositions, has_type_of}
use Rattle.isa_subgoal.proofs.Cutting.{fewer_none, eliminated_is, eliminated_sound}
use Rattle.isa_subgoal.proofs.Consequences.{From, itself}
use Rattle.isa_subgoal.proofs.Instancing.{empty_tm}
use Rattle.isa_subgoal.proofs.Spelling.{spelled_conv, gathered_typed}
use Rattle.isa_subgoal.proofs.Regaining.{IsShort, IsFresh, Regains, under, regained_is}

short_of : (n : ℕ) (t : Tm) → name_lengths t < n → IsShort n t
short_of n (Const x T) l = tt
short_of n (Free x T) l = l
short_of n (Unknown x i T) l = tt
short_of n (Bound i) l = tt
short_of n (Abs x T b) l = short_of n b l
short_of n (App f a) l = (short_of n f (omega (arith, l)), short_of n a (omega (arith, l)))

abbrev empty : Instance
empty = record { types = []; terms = [] }

-- ---- the theorem
-- what regains t from its form
pub record IsRegaining (t : Tm) (o : Option Theorem) : Type 0 where
  pub prop : Tm
  pub found : o ≡ Some (record { hyps = []; prop = imp (norm (moved t)) prop; base = [] })
  pub same : bare prop ≡ bare t

moved_typed : (t : Tm) → Typed [] t prop → Typed [] (moved t) prop
moved_typed t d = gathered_typed (spelled t) [] tt (right_typed (spelled_conv t d))

-- normal and equal to t
same_norm : (t q : Tm) → Typed [] t prop → IsNormal t → bare q ≡ bare (spelled t) → bare (norm q) ≡ bare t
same_norm t q d n e =
    let c : Conv [] prop t (spelled t) = spelled_conv t d in
    let s = right_typed c in
    let dq : Typed [] q prop = typed_of_type [] q prop (sym (type_at_bare [] q) ∙ ap (type_at []) e ∙ type_at_bare [] (spelled t) ∙ type_of_typed s) in
    conv_norm (CTrans (same_conv dq s e) (CSym c)) ∙ ap bare (norm_same t n)

pub regaining_is : (t : Tm) → IsProposition t → IsNormal t → IsRegaining t (regaining t)
unfolding regaining
regaining_is t h n =
    let d : Typed [] t prop = typed_of_type [] t prop h in
    let s : Typed [] (spelled t) prop = right_typed (spelled_conv t d) in
    let w : Tm = moved t in
    let m : ℕ = name_lengths (moved t) + name_lengths (spelled t) + 1 in
    let fresh : IsFresh m [] [] (spelled t) w = record { vars = tt; hyps = tt; term = short_of m (spelled t) (omega arith); whole = short_of m w (omega arith) } in
    let r : Regains [] [] (spelled t) w (regained m [] [] (spelled t) (under w (fill [] 0 w))) = regained_is (spelled t) m [] [] w s tt fresh in
    let x : Theorem = r.theorem in
    let p : HasType w prop = type_of_typed (moved_typed t d) in
    let last = λ (y : Theorem). instantiated empty y in
    let late = λ (y : Theorem). option_and_then {T = Theorem} {U = Theorem} last (implies_introduced w y) in
    let none : without w x.hyps ≡ [] = fewer_none (w ∷ []) x.hyps r.within in
    record {
      prop = norm x.prop;
      found = ap (λ c. option_and_then {T = Theorem} {U = Theorem} (λ f. option_and_then {T = Theorem} {U = Theorem} late (regained m [] [] (spelled t) f)) (cond c (Some (under w w)) None)) (has_type_of w p)
          ∙ ap (λ q. option_and_then {T = Theorem} {U = Theorem} late (regained m [] [] (spelled t) (under w q))) (sym (fill_none 0 w))
          ∙ ap (λ o. option_and_then {T = Theorem} {U = Theorem} late o) r.found
          ∙ ap (λ c. option_and_then {T = Theorem} {U = Theorem} last (cond c (Some (record { hyps = without w x.hyps; prop = imp w x.prop; base = x.base })) None)) (has_type_of w p)
          ∙ (λ i. instantiated empty (record { hyps = none i; prop = imp w x.prop; base = r.base i }))
          ∙ (λ i. Some (record { hyps = []; prop = imp (norm (empty_tm w i)) (norm (empty_tm x.prop i)); base = [] }));
      same = same_norm t x.prop d n (r.same ∙ ap bare (fill_none 0 (spelled t)));
    }

-- ---- it is derived
sound_abs : (S : Ty) (n : ℕ) (vs hs : List Tm) (b : Tm) (th x : Theorem) (o : Option (Ty × Tm)) →
    elim o as (λ _. Option Theorem) [ None ↦ eliminated hs th | Some q ↦ option_and_then {T = Theorem} {U = Theorem} (λ y. option_and_then {T = Theorem} {U = Theorem} (λ z. forall_introduced (Free (colons n) S) z) (regained (n + 1) (Free (colons n) S ∷ vs) hs b y)) (forall_eliminated (Free (colons n) S) th) ] ≡ Some x →
    IsDerived th → ((y z : Theorem) → regained (n + 1) (Free (colons n) S ∷ vs) hs b y ≡ Some z → IsDerived y → IsDerived z) → IsDerived x
sound_abs S n vs hs b th x None e d ih = eliminated_sound hs th x e d
sound_abs S n vs hs b th x (Some q) e d ih =
    let y = bind_some (forall_eliminated (Free (colons n) S) th) _ e in
    let z = bind_some (regained (n + 1) (Free (colons n) S ∷ vs) hs b y.0) _ y.2 in
    forall_introduced_sound (Free (colons n) S) z.0 x z.2 (ih y.0 z.0 z.1 (forall_eliminated_sound (Free (colons n) S) th y.0 y.1 d))

sound_app : (n : ℕ) (vs hs : List Tm) (a : Tm) (th x : Theorem) (o : Option (Tm × Tm)) →
    elim o as (λ _. Option Theorem) [ None ↦ eliminated hs th | Some p ↦ option_and_then {T = Theorem} {U = Theorem} (λ y. implies_introduced (opened vs 0 p.0) y) (regained n vs (hs ++ opened vs 0 p.0 ∷ []) a th) ] ≡ Some x →
    IsDerived th → ((gs : List Tm) (z : Theorem) → regained n vs gs a th ≡ Some z → IsDerived z) → IsDerived x
sound_app n vs hs a th x None e d ih = eliminated_sound hs th x e d
sound_app n vs hs a th x (Some p) e d ih =
    let z = bind_some (regained n vs (hs ++ opened vs 0 p.0 ∷ []) a th) _ e in
    implies_introduced_sound (opened vs 0 p.0) z.0 x z.2 (ih (hs ++ opened vs 0 p.0 ∷ []) z.0 z.1)

regained_sound : (t : Tm) (n : ℕ) (vs hs : List Tm) (th x : Theorem) → regained n vs hs t th ≡ Some x → IsDerived th → IsDerived x
unfolding regained
regained_sound (App f (Abs y S b)) n vs hs th x e d = sound_abs S n vs hs b th x (quantifier_parts (App f (Abs y S b))) e d (λ y z k l. regained_sound b (n + 1) (Free (colons n) S ∷ vs) hs y z k l)
regained_sound (App f a) n vs hs th x e d = sound_app n vs hs a th x (imp_parts (App f a)) e d (λ gs z k. regained_sound a n vs gs th z k d)
regained_sound (Const y T) n vs hs th x e d = eliminated_sound hs th x e d
regained_sound (Free y T) n vs hs th x e d = eliminated_sound hs th x e d
regained_sound (Unknown y i T) n vs hs th x e d = eliminated_sound hs th x e d
regained_sound (Bound i) n vs hs th x e d = eliminated_sound hs th x e d
regained_sound (Abs y T b) n vs hs th x e d = eliminated_sound hs th x e d

regaining_sound : (t : Tm) (th : Theorem) → regaining t ≡ Some th → IsDerived th
unfolding regaining
regaining_sound t th e =
    let w : Tm = moved t in
    let m : ℕ = name_lengths (moved t) + name_lengths (spelled t) + 1 in
    let a = bind_some (assumed w) _ e in
    let r = bind_some (regained m [] [] (spelled t) a.0) _ a.2 in
    let i = bind_some (implies_introduced w r.0) _ r.2 in
    instantiated_sound empty i.0 th i.2 (implies_introduced_sound w r.0 i.0 i.1 (regained_sound (spelled t) m [] [] a.0 r.0 r.1 (assumed_sound w a.0 a.1)))

-- ---- what follows
pub shaped_proposition : (t : Tm) → IsProposition t → IsProposition (shaped t)
shaped_proposition t h = go (is_in_form t)
  where
    go : (b : Bool) → IsProposition (cond b t (norm (moved t)))
    go true = h
    go false = type_of_typed (right_typed (norm_conv (moved_typed t (typed_of_type [] t prop h))))

pub shaped_normal : (t : Tm) → IsProposition t → IsNormal t → IsNormal (shaped t)
shaped_normal t h n = go (is_in_form t)
  where
    go : (b : Bool) → IsNormal (cond b t (norm (moved t)))
    go true = n
    go false = norm_normal (moved_typed t (typed_of_type [] t prop h))

pub shaped_from : (t : Tm) → IsProposition t → IsNormal t → From [] (shaped t ∷ []) t
shaped_from t h n = go (is_in_form t)
  where
    go : (b : Bool) → From [] (cond b t (norm (moved t)) ∷ []) t
    go true = itself [] (t ∷ []) t (h, tt) (inl refl)
    go false =
        let r : IsRegaining t (regaining t) = regaining_is t h n in
        subst (λ q. Derives [] [] (App (App (Const (codes "Pure.imp") (function_of prop (function_of prop prop))) (bare (norm (moved t)))) q)) r.same (regaining_sound t _ r.found).derivation

-- ---- all subgoals
abbrev theorem : List Tm → Tm → List BaseEntry → Theorem
theorem H p B = record { hyps = H; prop = p; base = B }

-- s, but for the names of binders, under the hypothesis f
pub record IsMet (s f : Tm) (o : Option Theorem) : Type 0 where
  pub prop : Tm
  pub found : o ≡ Some (theorem (f ∷ []) prop [])
  pub same : bare prop ≡ bare s

pub met_form_is : (s : Tm) → IsProposition s → (is_in_form s || is_normal s) ≡ true → IsMet s (shaped s) (met_form s)
unfolding met_form
met_form_is s h n = go (is_in_form s) n
  where
    go : (b : Bool) → (b || is_normal s) ≡ true → IsMet s (cond b s (norm (moved s))) (cond b (assumed s) (option_and_then {T = Theorem} {U = Theorem} (λ rule. eliminated (cond b s (norm (moved s)) ∷ []) rule) (regaining s)))
    go true k = record { prop = s; found = ap (λ c. cond c (Some (theorem (s ∷ []) s [])) None) (has_type_of s h); same = refl }
    go false k =
        let w : Tm = norm (moved s) in
        let hw : IsProposition w = type_of_typed (right_typed (norm_conv (moved_typed s (typed_of_type [] s prop h)))) in
        let r : IsRegaining s (regaining s) = regaining_is s h (normal_kept s k) in
        record {
          prop = r.prop;
          found = ap (λ o. option_and_then {T = Theorem} {U = Theorem} (λ rule. eliminated (w ∷ []) rule) o) r.found ∙ eliminated_is (w ∷ []) [] [] r.prop (hw, tt);
          same = r.same;
        }

pub shaped_propositions : (ss : List Tm) → ArePropositions ss → ArePropositions (map shaped ss)
shaped_propositions [] w = tt
shaped_propositions (s ∷ ss) w = (shaped_proposition s w.0, shaped_propositions ss w.1)
