-- How the outcome of a state comes from that of the state after a change: types for type unknowns, or terms for unknowns.
use Rattle.std.proofs.Common.{◌≡◌, ℕ, ◌<◌, List, [], ◌∷◌, map, true, ◌||◌, refl, sym, ap, ◌∙◌, subst}
use Rattle.isa_terms.specs.Types.{Ty}
use Rattle.isa_terms.specs.Terms.{Tm, Const, Free, Unknown, Bound, Abs, App}
use Rattle.isa_terms.specs.Instance.{inst_ty, inst_tm}
use Rattle.isa_terms.specs.declared.inst.TypeEntry.{TypeEntry}
use Rattle.isa_terms.specs.declared.inst.TermEntry.{TermEntry}
use Rattle.isa_terms.specs.Typed.{Typed}
use Rattle.isa_terms.specs.Conversion.{Conv, CSym, CTrans}
use Rattle.isa_terms.specs.Instances.{IsKept, types_after}
use Rattle.isa_terms.proofs.Conv.{left_typed, right_typed, norm_conv}
use Rattle.isa_terms.proofs.Composing.{after_ty}
use Rattle.isa_terms.proofs.Instances.{inst_typed}
use Rattle.isa_terms.proofs.Heads.{one_type}
use Rattle.isa_terms.proofs.Valuations.{Values, val, AreFit, AgreeOn, agree_conv, values_of, values_fit, values_after, val_inst, val_val, val_norm, after_fit}
use Rattle.isa_unify.specs.declared.equation.Variable.{Variable}
use Rattle.isa_unify.specs.declared.equation.Equation.{Equation}
use Rattle.isa_unify.specs.declared.progress.State.{State}
use Rattle.isa_unify.specs.Unification.{types_in, filled, filled_equation, retyped, retyped_variable, retyped_equation}
use Rattle.isa_unify.proofs.TypeInstances.{inst_nothing}
use Rattle.isa_unify.proofs.Unknowns.{Key, key, key_eq_self, stands, or_left, or_right}
use Rattle.isa_unify.proofs.Measure.{occurs}
use Rattle.isa_unify.proofs.Assigned.{some_term_has}
use Rattle.isa_unify.proofs.Meaning.{EachHolds, types_under}
use Rattle.isa_unify.proofs.Ready.{AllNormal, AllTyped}

abbrev pub Sig : Type 0
Sig = List ℕ → ℕ → Ty

-- an unknown that stands at its one type, with a number that has been given
abbrev pub KnownKey : Sig → ℕ → Key → Type 0
KnownKey sig next k = (k.typ ≡ sig k.name k.number) × (k.number < next)

abbrev pub value : Values → Key → Tm
value v k = v k.name k.number k.typ

-- ---- values that agree on the known unknowns
abbrev pub AgreeKnown : Sig → ℕ → List TypeEntry → Values → Values → Type 0
AgreeKnown sig next r v w = (k : Key) → KnownKey sig next k → Conv [] (inst_ty r k.typ) (value v k) (value w k)

pub agree_on : (sig : Sig) (next : ℕ) (r : List TypeEntry) (v w : Values) → AgreeKnown sig next r v w → (t : Tm) → ((k : Key) → stands k t ≡ true → KnownKey sig next k) → AgreeOn r v w t
agree_on sig next r v w a (Const x T) h = tt
agree_on sig next r v w a (Free x T) h = tt
agree_on sig next r v w a (Unknown x i T) h = a (key x i T) (h (key x i T) (key_eq_self (key x i T)))
agree_on sig next r v w a (Bound n) h = tt
agree_on sig next r v w a (Abs x T b) h = agree_on sig next r v w a b h
agree_on sig next r v w a (App f t) h =
    (agree_on sig next r v w a f (λ k s. h k (or_left (stands k f) (stands k t) s)), agree_on sig next r v w a t (λ k s. h k (or_right (stands k f) (stands k t) s)))

pub agree_each : (sig : Sig) (next : ℕ) (r : List TypeEntry) (v w : Values) → AreFit r v → AreFit r w → AgreeKnown sig next r v w → (es : List Equation) → AllTyped es → ((k : Key) → occurs k es ≡ true → KnownKey sig next k) → EachHolds r v es → EachHolds r w es
agree_each sig next r v w f g a [] ts h c = tt
agree_each sig next r v w f g a (e ∷ es) ts h c =
    let s = ts.0 in
    let left = agree_conv r v w f g s.left (agree_on sig next r v w a e.left (λ k p. h k (or_left (stands k e.left) (stands k e.right || occurs k es) p))) in
    let right = agree_conv r v w f g s.right (agree_on sig next r v w a e.right (λ k p. h k (or_right (stands k e.left) (stands k e.right || occurs k es) (or_left (stands k e.right) (occurs k es) p)))) in
    let o : c.0.typ ≡ inst_ty r s.typ = one_type (left_typed c.0.equal) (left_typed left) refl in
    let m : Conv (types_under r v e.binders) (inst_ty r s.typ) (val r v e.left) (val r v e.right) = subst (λ U. Conv (types_under r v e.binders) U (val r v e.left) (val r v e.right)) o c.0.equal in (
      record { typ = inst_ty r s.typ; equal = CTrans (CSym left) (CTrans m right) },
      agree_each sig next r v w f g a es ts.1 (λ k p. h k (or_right (stands k e.left) (stands k e.right || occurs k es) (or_right (stands k e.right) (occurs k es) p))) c.1,
    )

-- the sides of an equation are well typed
pub record Sides (bs : List Variable) (t u : Tm) : Type 0 where
  pub left_type : Ty
  pub right_type : Ty
  pub left : Typed (types_in bs) t left_type
  pub right : Typed (types_in bs) u right_type

abbrev pub AllSided : List Equation → Type 0
AllSided [] = Unit {0}
AllSided (e ∷ es) = Sides e.binders e.left e.right × AllSided es

pub typed_sided : (es : List Equation) → AllTyped es → AllSided es
typed_sided [] h = tt
typed_sided (e ∷ es) h = (record { left_type = h.0.typ; right_type = h.0.typ; left = h.0.left; right = h.0.right }, typed_sided es h.1)

pub agree_sided : (sig : Sig) (next : ℕ) (r : List TypeEntry) (v w : Values) → AreFit r v → AreFit r w → AgreeKnown sig next r v w → (es : List Equation) → AllSided es → ((k : Key) → occurs k es ≡ true → KnownKey sig next k) → EachHolds r v es → EachHolds r w es
agree_sided sig next r v w f g a [] ts h c = tt
agree_sided sig next r v w f g a (e ∷ es) ts h c =
    let s = ts.0 in
    let G = types_under r v e.binders in
    let left = agree_conv r v w f g s.left (agree_on sig next r v w a e.left (λ k p. h k (or_left (stands k e.left) (stands k e.right || occurs k es) p))) in
    let right = agree_conv r v w f g s.right (agree_on sig next r v w a e.right (λ k p. h k (or_right (stands k e.left) (stands k e.right || occurs k es) (or_left (stands k e.right) (occurs k es) p)))) in
    let o : inst_ty r s.left_type ≡ c.0.typ = one_type (left_typed left) (left_typed c.0.equal) refl in
    let q : inst_ty r s.right_type ≡ c.0.typ = one_type (left_typed right) (right_typed c.0.equal) refl in
    let left' : Conv G c.0.typ (val r v e.left) (val r w e.left) = subst (λ U. Conv G U (val r v e.left) (val r w e.left)) o left in
    let right' : Conv G c.0.typ (val r v e.right) (val r w e.right) = subst (λ U. Conv G U (val r v e.right) (val r w e.right)) q right in (
      record { typ = c.0.typ; equal = CTrans (CSym left') (CTrans c.0.equal right') },
      agree_sided sig next r v w f g a es ts.1 (λ k p. h k (or_right (stands k e.left) (stands k e.right || occurs k es) (or_right (stands k e.right) (occurs k es) p))) c.1,
    )

-- ---- types that are the same
pub val_types : (r q : List TypeEntry) → ((T : Ty) → inst_ty r T ≡ inst_ty q T) → (v : Values) (t : Tm) → val r v t ≡ val q v t
val_types r q h v (Const x T) = ap (Const x) (h T)
val_types r q h v (Free x T) = ap (Free x) (h T)
val_types r q h v (Unknown x i T) = refl
val_types r q h v (Bound n) = refl
val_types r q h v (Abs x T b) = λ i. Abs x (h T i) (val_types r q h v b i)
val_types r q h v (App f a) = λ i. App (val_types r q h v f i) (val_types r q h v a i)

map_types : (r q : List TypeEntry) → ((T : Ty) → inst_ty r T ≡ inst_ty q T) → (Ts : List Ty) → map (inst_ty r) Ts ≡ map (inst_ty q) Ts
map_types r q h [] = refl
map_types r q h (T ∷ Ts) = λ i. h T i ∷ map_types r q h Ts i

pub each_types : (r q : List TypeEntry) → ((T : Ty) → inst_ty r T ≡ inst_ty q T) → (v : Values) (es : List Equation) → EachHolds r v es → EachHolds q v es
each_types r q h v [] c = tt
each_types r q h v (e ∷ es) c = (
  record {
    typ = c.0.typ;
    equal = subst (λ G. Conv G c.0.typ (val q v e.left) (val q v e.right)) (map_types r q h (types_in e.binders))
        (subst (λ t. Conv (types_under r v e.binders) c.0.typ t (val q v e.right)) (val_types r q h v e.left)
        (subst (λ u. Conv (types_under r v e.binders) c.0.typ (val r v e.left) u) (val_types r q h v e.right) c.0.equal));
  },
  each_types r q h v es c.1,
)

-- ---- an instance, and values after it
pub val_under : (q : List TypeEntry) (s : List TermEntry) (r : List TypeEntry) (w : Values) (t : Tm) → val r w (inst_tm q s t) ≡ val (types_after q r) (values_after r w (values_of q s)) t
val_under q s r w t = ap (val r w) (sym (val_inst q s t)) ∙ val_val r w q (values_of q s) t

pub map_nothing : (Ts : List Ty) → map (inst_ty []) Ts ≡ Ts
map_nothing [] = refl
map_nothing (T ∷ Ts) = λ i. inst_nothing T i ∷ map_nothing Ts i

pub assigned_typed : (s : List TermEntry) → IsKept [] s → {G : List Ty} {t : Tm} {T : Ty} → Typed G t T → Typed G (inst_tm [] s t) T
assigned_typed s k {G} {t} {T} d = subst (λ K. Typed K (inst_tm [] s t) T) (map_nothing G) (subst (λ U. Typed (map (inst_ty []) G) (inst_tm [] s t) U) (inst_nothing T) (inst_typed [] s k d))

pub filled_typed : (s : List TermEntry) → IsKept [] s → {G : List Ty} {t : Tm} {T : Ty} → Typed G t T → Typed G (filled s t) T
filled_typed s k d = right_typed (norm_conv (assigned_typed s k d))

-- what the values are before the terms are put in
abbrev pub before : List TermEntry → List TypeEntry → Values → Values
before s r w = values_after r w (values_of [] s)

module _ (s : List TermEntry) (kept : IsKept [] s) (r : List TypeEntry) (w : Values) (fit : AreFit r w) where
  pub before_fit : AreFit r (before s r w)
  before_fit = after_fit r w [] (values_of [] s) fit (values_fit [] s kept)

  pub filled_conv : {G : List Ty} {t : Tm} {T : Ty} → Typed G t T → Conv (map (inst_ty r) G) (inst_ty r T) (val r w (filled s t)) (val r (before s r w) t)
  filled_conv {G} {t} {T} d = subst (λ u. Conv (map (inst_ty r) G) (inst_ty r T) (val r w (filled s t)) u) (val_under [] s r w t) (val_norm r w fit (assigned_typed s kept d))

  pub filled_back : (es : List Equation) → AllTyped es → EachHolds r w (map (filled_equation s) es) → EachHolds r (before s r w) es
  filled_back [] ts c = tt
  filled_back (e ∷ es) ts c =
      let left = filled_conv ts.0.left in
      let right = filled_conv ts.0.right in
      let o : c.0.typ ≡ inst_ty r ts.0.typ = one_type (left_typed c.0.equal) (left_typed left) refl in
      let m = subst (λ U. Conv (types_under r w e.binders) U (val r w (filled s e.left)) (val r w (filled s e.right))) o c.0.equal in
      (record { typ = inst_ty r ts.0.typ; equal = CTrans (CSym left) (CTrans m right) }, filled_back es ts.1 c.1)

  pub filled_there : (es : List Equation) → AllTyped es → EachHolds r (before s r w) es → EachHolds r w (map (filled_equation s) es)
  filled_there [] ts c = tt
  filled_there (e ∷ es) ts c =
      let left = filled_conv ts.0.left in
      let right = filled_conv ts.0.right in
      let o : c.0.typ ≡ inst_ty r ts.0.typ = one_type (left_typed c.0.equal) (right_typed left) refl in
      let m = subst (λ U. Conv (types_under r w e.binders) U (val r (before s r w) e.left) (val r (before s r w) e.right)) o c.0.equal in
      (record { typ = inst_ty r ts.0.typ; equal = CTrans left (CTrans m (CSym right)) }, filled_there es ts.1 c.1)

-- ---- types for type unknowns
types_both : (q r : List TypeEntry) (v : Values) (bs : List Variable) → types_under r v (map (retyped_variable q) bs) ≡ types_under (types_after q r) v bs
types_both q r v [] = refl
types_both q r v (b ∷ bs) = λ i. sym (after_ty q r b.typ) i ∷ types_both q r v bs i

module _ (q r : List TypeEntry) (w : Values) where
  abbrev pub Untyped : Values
  Untyped = values_after r w (values_of q [])

  pub retyped_back : (es : List Equation) → EachHolds r w (map (retyped_equation q) es) → EachHolds (types_after q r) Untyped es
  retyped_back [] c = tt
  retyped_back (e ∷ es) c = (
    record {
      typ = c.0.typ;
      equal = subst (λ G. Conv G c.0.typ (val (types_after q r) Untyped e.left) (val (types_after q r) Untyped e.right)) (types_both q r w e.binders)
          (subst (λ t. Conv (types_under r w (map (retyped_variable q) e.binders)) c.0.typ t (val (types_after q r) Untyped e.right)) (val_under q [] r w e.left)
          (subst (λ u. Conv (types_under r w (map (retyped_variable q) e.binders)) c.0.typ (val r w (retyped q e.left)) u) (val_under q [] r w e.right) c.0.equal));
    },
    retyped_back es c.1,
  )

  pub retyped_there : (es : List Equation) → EachHolds (types_after q r) Untyped es → EachHolds r w (map (retyped_equation q) es)
  retyped_there [] c = tt
  retyped_there (e ∷ es) c = (
    record {
      typ = c.0.typ;
      equal = subst (λ G. Conv G c.0.typ (val r w (retyped q e.left)) (val r w (retyped q e.right))) (sym (types_both q r w e.binders))
          (subst (λ t. Conv (types_under (types_after q r) Untyped e.binders) c.0.typ t (val r w (retyped q e.right))) (sym (val_under q [] r w e.left))
          (subst (λ u. Conv (types_under (types_after q r) Untyped e.binders) c.0.typ (val (types_after q r) Untyped e.left) u) (sym (val_under q [] r w e.right)) c.0.equal));
    },
    retyped_there es c.1,
  )

-- ---- states that are ready
pub record IsTyped (t : Tm) : Type 0 where
  pub typ : Ty
  pub typed : Typed [] t typ

abbrev pub TermsTyped : List TermEntry → Type 0
TermsTyped [] = Unit {0}
TermsTyped (e ∷ es) = IsTyped e.term × TermsTyped es

pub record Ready (sig : Sig) (st : State) : Type 0 where
  pub typed : AllTyped st.equations
  pub normal : AllNormal st.equations
  pub known : (k : Key) → occurs k st.equations ≡ true → KnownKey sig st.next k
  pub terms_typed : TermsTyped st.terms
  pub terms_known : (k : Key) → some_term_has k st.terms ≡ true → KnownKey sig st.next k
