-- The outcome of a state: an instance that solves it, through which each such instance goes.
use Rattle.std.proofs.Common.{◌≡◌, ◌⊎◌, inl, inr, ℕ, List, [], ◌∷◌, map, Bool, true, false, cond, refl, sym, ap, ◌∙◌, subst}
use Rattle.isa_terms.specs.Types.{Ty}
use Rattle.isa_terms.specs.Terms.{Tm, Const, Free, Unknown, Bound, Abs, App, bare}
use Rattle.isa_terms.specs.Equal.{ty_eq}
use Rattle.isa_terms.specs.Norm.{norm}
use Rattle.isa_terms.specs.Instance.{inst_ty, inst_tm}
use Rattle.isa_terms.specs.declared.inst.TypeEntry.{TypeEntry}
use Rattle.isa_terms.specs.declared.inst.TermEntry.{TermEntry}
use Rattle.isa_terms.proofs.Equal.{ty_decides}
use Rattle.isa_terms.specs.Typed.{Typed, TUnknown}
use Rattle.isa_terms.specs.Conversion.{Conv, CTrans, CRefl}
use Rattle.isa_terms.specs.Instances.{IsKept, types_after}
use Rattle.isa_terms.proofs.Unique.{conv_norm}
use Rattle.isa_terms.proofs.Composing.{after_ty}
use Rattle.isa_terms.proofs.Instances.{unknown_typed}
use Rattle.isa_terms.proofs.Valuations.{Values, val, AreFit, agree_conv, values_of, values_fit, values_after, val_val, after_fit}
use Rattle.isa_unify.specs.declared.equation.Equation.{Equation}
use Rattle.isa_unify.specs.declared.progress.State.{State}
use Rattle.isa_unify.specs.TypeUnification.{entries_under}
use Rattle.isa_unify.specs.Unification.{filled_equation, filled_entry, retyped_entry, retyped_equation, retyped_state}
use Rattle.isa_unify.proofs.TypeInstances.{inst_nothing}
use Rattle.isa_unify.proofs.Unknowns.{Key, key, key_eq-true, stands}
use Rattle.isa_unify.proofs.Assigned.{some_term_has, assigns, stands-inst_tm}
use Rattle.isa_unify.proofs.Measure.{occurs}
use Rattle.isa_unify.proofs.Ready.{AllTyped}
use Rattle.isa_unify.proofs.Meaning.{EachHolds}
use Rattle.isa_unify.proofs.Changing.{Sig, KnownKey, value, AgreeKnown, agree_on, agree_each, agree_sided, AllSided, val_types, each_types, val_under, filled_conv, before, before_fit, filled_there, Untyped, retyped_back, retyped_there, TermsTyped, Ready}

-- an instance is by, and then rest, on the known unknowns
pub record Factor (sig : Sig) (next : ℕ) (r : List TypeEntry) (v : Values) (by_types : List TypeEntry) (by : Values) : Type 0 where
  pub rest_types : List TypeEntry
  pub rest : Values
  pub fit : AreFit rest_types rest
  pub types : (T : Ty) → inst_ty rest_types (inst_ty by_types T) ≡ inst_ty r T
  pub terms : (k : Key) → KnownKey sig next k → Conv [] (inst_ty r k.typ) (value v k) (val rest_types rest (value by k))

-- the last entries are the first ones under the instance
abbrev pub TermsUnder : List TypeEntry → Values → List TermEntry → List TermEntry → Type 0
TermsUnder r v [] [] = Unit {0}
TermsUnder r v (e ∷ es) (f ∷ fs) = ((f.name ≡ e.name) × (f.number ≡ e.number) × (f.typ ≡ e.typ) × (bare (norm f.term) ≡ bare (norm (val r v e.term)))) × TermsUnder r v es fs
TermsUnder r v [] (f ∷ fs) = ⊥
TermsUnder r v (e ∷ es) [] = ⊥

pub record Outcome (sig : Sig) (st : State) (ts : List TypeEntry) (fs : List TermEntry) : Type 0 where
  pub by_types : List TypeEntry
  pub by : Values
  pub fit : AreFit by_types by
  pub solves : EachHolds by_types by st.equations
  pub types : ts ≡ entries_under by_types st.types
  pub terms : TermsUnder by_types by st.terms fs
  pub terms_typed : TermsTyped fs
  pub general : (r : List TypeEntry) (v : Values) → AreFit r v → EachHolds r v st.equations → Factor sig st.next r v by_types by

-- ---- nothing is left to do
abbrev pub themselves : Values
themselves x i T = Unknown x i T

val_themselves : (t : Tm) → val [] themselves t ≡ t
val_themselves (Const x T) = ap (Const x) (inst_nothing T)
val_themselves (Free x T) = ap (Free x) (inst_nothing T)
val_themselves (Unknown x i T) = refl
val_themselves (Bound n) = refl
val_themselves (Abs x T b) = λ i. Abs x (inst_nothing T i) (val_themselves b i)
val_themselves (App f a) = λ i. App (val_themselves f i) (val_themselves a i)

pub entries_nothing : (es : List TypeEntry) → es ≡ entries_under [] es
entries_nothing [] = refl
entries_nothing (e ∷ es) = λ i. record e { typ = sym (inst_nothing e.typ) i } ∷ entries_nothing es i

terms_nothing : (es : List TermEntry) → TermsUnder [] themselves es es
terms_nothing [] = tt
terms_nothing (e ∷ es) = ((refl, refl, refl, ap (λ t. bare (norm t)) (sym (val_themselves e.term))), terms_nothing es)

pub finished : (sig : Sig) (st : State) → Ready sig st → st.equations ≡ [] → Outcome sig st st.types st.terms
finished sig st ready e = record {
  terms_typed = ready.terms_typed;
  by_types = [];
  by = themselves;
  fit = λ x i T. subst (λ U. Typed [] (Unknown x i T) U) (sym (inst_nothing T)) TUnknown;
  solves = subst (λ es. EachHolds [] themselves es) (sym e) tt;
  types = entries_nothing st.types;
  terms = terms_nothing st.terms;
  general = λ r v f h. record { rest_types = r; rest = v; fit = f; types = λ T. ap (inst_ty r) (inst_nothing T); terms = λ k g. CRefl (f k.name k.number k.typ) };
}

-- ---- terms for unknowns
terms_before : (s : List TermEntry) (kept : IsKept [] s) (r : List TypeEntry) (w : Values) → AreFit r w → (es fs : List TermEntry) → TermsTyped es → TermsUnder r w (map (filled_entry s) es) fs → TermsUnder r (before s r w) es fs
terms_before s kept r w fit [] [] ts h = tt
terms_before s kept r w fit (e ∷ es) (f ∷ fs) ts h = ((h.0.0, h.0.1, h.0.2, h.0.3 ∙ conv_norm (filled_conv s kept r w fit ts.0.typed)), terms_before s kept r w fit es fs ts.1 h.1)
terms_before s kept r w fit [] (f ∷ fs) ts h = absurd h
terms_before s kept r w fit (e ∷ es) [] ts h = absurd h

-- values on new unknowns besides, so that the assigned ones are what they become
pub record Extension (sig : Sig) (next : ℕ) (s : List TermEntry) (r : List TypeEntry) (v : Values) : Type 0 where
  pub plus : Values
  pub fit : AreFit r plus
  pub agree : (k : Key) → KnownKey sig next k → Conv [] (inst_ty r k.typ) (value v k) (val r plus (inst_tm [] s (Unknown k.name k.number k.typ)))

-- what is to be known of terms that are put in for unknowns
pub record Assignment (sig : Sig) (st : State) (new_sig : Sig) (new : State) (s : List TermEntry) : Type 0 where
  pub kept : IsKept [] s
  pub more : (k : Key) → KnownKey sig st.next k → KnownKey new_sig new.next k
  pub known : (k : Key) → some_term_has k s ≡ true → KnownKey new_sig new.next k
  pub extend : (r : List TypeEntry) (v : Values) → AreFit r v → EachHolds r v st.equations → Extension sig st.next s r v

module _ (sig : Sig) (st : State) (ready : Ready sig st) (new_sig : Sig) (new : State) (s : List TermEntry) (a : Assignment sig st new_sig new s) where
  became_known : (k : Key) → KnownKey sig st.next k → (l : Key) → stands l (inst_tm [] s (Unknown k.name k.number k.typ)) ≡ true → KnownKey new_sig new.next l
  became_known k h l e = go (stands-inst_tm s l (Unknown k.name k.number k.typ) e)
    where
      go : (some_term_has l s ≡ true) ⊎ ((stands l (Unknown k.name k.number k.typ) ≡ true) × (assigns s l ≡ false)) → KnownKey new_sig new.next l
      go (inl d) = a.known l d
      go (inr d) = subst (λ m. KnownKey new_sig new.next m) (sym (key_eq-true l (key k.name k.number k.typ) d.0)) (a.more k h)

  module _ (r : List TypeEntry) (v : Values) (f : AreFit r v) (e : Extension sig st.next s r v) where
    pub extended_holds : (es : List Equation) → ((k : Key) → occurs k es ≡ true → KnownKey sig st.next k) → AllTyped es → EachHolds r v es → EachHolds r e.plus (map (filled_equation s) es)
    extended_holds es h ts c = filled_there s a.kept r e.plus e.fit es ts (agree_each sig st.next r v (before s r e.plus) f (before_fit s a.kept r e.plus e.fit) e.agree es ts h c)

    pub factor_before : (q : List TypeEntry) (w : Values) → AreFit q w → Factor new_sig new.next r e.plus q w → Factor sig st.next r v q (before s q w)
    factor_before q w wfit p = record {
      rest_types = p.rest_types;
      rest = p.rest;
      fit = p.fit;
      types = p.types;
      terms = λ k h.
          let A = inst_tm [] s (Unknown k.name k.number k.typ) in
          let d : Typed [] A (inst_ty [] k.typ) = unknown_typed [] s [] k.name k.number k.typ a.kept in
          let all = types_after q p.rest_types in
          let both = values_after p.rest_types p.rest w in
          let same : (T : Ty) → inst_ty all T ≡ inst_ty r T = λ T. after_ty q p.rest_types T ∙ p.types T in
          let both_fit : AreFit r both = λ x i T. subst (λ U. Typed [] (both x i T) U) (same T) (after_fit p.rest_types p.rest q w p.fit wfit x i T) in
          let m : Conv [] (inst_ty r (inst_ty [] k.typ)) (val r e.plus A) (val r both A) =
          agree_conv r e.plus both e.fit both_fit d (agree_on new_sig new.next r e.plus both p.terms A (became_known k h)) in
          let m' : Conv [] (inst_ty r k.typ) (val r e.plus A) (val r both A) = subst (λ T. Conv [] (inst_ty r T) (val r e.plus A) (val r both A)) (inst_nothing k.typ) m in
          let is : val r both A ≡ val p.rest_types p.rest (val q w A) = sym (val_types all r same both A) ∙ sym (val_val p.rest_types p.rest q w A) in
          CTrans (e.agree k h) (subst (λ u. Conv [] (inst_ty r k.typ) (val r e.plus A) u) is m');
    }

-- the outcome after terms were put in is that before
pub assigned_outcome : (sig : Sig) (st : State) → Ready sig st → (new_sig : Sig) (new : State) (s : List TermEntry) → Assignment sig st new_sig new s
    → (ts : List TypeEntry) (fs : List TermEntry) → new.types ≡ st.types → new.terms ≡ map (filled_entry s) st.terms
    → (o : Outcome new_sig new ts fs)
    → ((r : List TypeEntry) (v : Values) (f : AreFit r v) (h : EachHolds r v st.equations) → (e : Extension sig st.next s r v) → EachHolds r e.plus new.equations)
    → EachHolds o.by_types (before s o.by_types o.by) st.equations
    → Outcome sig st ts fs
assigned_outcome sig st ready new_sig new s a ts fs is_types is_terms o there back = record {
  terms_typed = o.terms_typed;
  by_types = o.by_types;
  by = before s o.by_types o.by;
  fit = before_fit s a.kept o.by_types o.by o.fit;
  solves = back;
  types = o.types ∙ ap (entries_under o.by_types) is_types;
  terms = terms_before s a.kept o.by_types o.by o.fit st.terms fs ready.terms_typed (subst (λ es. TermsUnder o.by_types o.by es fs) is_terms o.terms);
  general = λ r v f h.
      let e = a.extend r v f h in
      factor_before sig st ready new_sig new s a r v f e o.by_types o.by o.fit (o.general r e.plus e.fit (there r v f h e));
}

-- ---- types for type unknowns
pub entries_twice : (q r : List TypeEntry) (es : List TypeEntry) → entries_under r (entries_under q es) ≡ entries_under (types_after q r) es
entries_twice q r [] = refl
entries_twice q r (e ∷ es) = λ i. record e { typ = sym (after_ty q r e.typ) i } ∷ entries_twice q r es i

terms_untyped : (q r : List TypeEntry) (w : Values) (es fs : List TermEntry) → TermsUnder r w (map (retyped_entry q) es) fs → TermsUnder (types_after q r) (Untyped q r w) es fs
terms_untyped q r w [] [] h = tt
terms_untyped q r w (e ∷ es) (f ∷ fs) h = ((h.0.0, h.0.1, h.0.2, h.0.3 ∙ ap (λ t. bare (norm t)) (val_under q [] r w e.term)), terms_untyped q r w es fs h.1)
terms_untyped q r w [] (f ∷ fs) h = absurd h
terms_untyped q r w (e ∷ es) [] h = absurd h

-- at the new type of an unknown the value at its old one
abbrev pub retyped_values : Sig → List TypeEntry → Values → Values
retyped_values sig q v x i T = cond (ty_eq T (inst_ty q (sig x i))) (v x i (sig x i)) (v x i T)

module _ (sig : Sig) (q : List TypeEntry) (r : List TypeEntry) (v : Values) (f : AreFit r v) (same : (T : Ty) → inst_ty r (inst_ty q T) ≡ inst_ty r T) where
  pub retyped_fit : AreFit r (retyped_values sig q v)
  retyped_fit x i T = go (ty_eq T (inst_ty q (sig x i))) refl
    where
      go : (b : Bool) → ty_eq T (inst_ty q (sig x i)) ≡ b → Typed [] (cond b (v x i (sig x i)) (v x i T)) (inst_ty r T)
      go true e = subst (λ U. Typed [] (v x i (sig x i)) U) (sym (same (sig x i)) ∙ ap (inst_ty r) (sym ((ty_decides T (inst_ty q (sig x i))).0 e))) (f x i (sig x i))
      go false e = f x i T

  pub untyped_same : (T : Ty) → inst_ty r T ≡ inst_ty (types_after q r) T
  untyped_same T = sym (after_ty q r T ∙ same T)

  retyped_at : (k : Key) (next : ℕ) → KnownKey sig next k → value v k ≡ value (Untyped q r (retyped_values sig q v)) k
  retyped_at k next h =
      let t : ty_eq (inst_ty q k.typ) (inst_ty q (sig k.name k.number)) ≡ true = (ty_decides (inst_ty q k.typ) (inst_ty q (sig k.name k.number))).1 (ap (inst_ty q) h.0) in
      ap (v k.name k.number) h.0 ∙ sym (ap (λ b. cond b (v k.name k.number (sig k.name k.number)) (v k.name k.number (inst_ty q k.typ))) t)

  pub retyped_agree : (next : ℕ) → AgreeKnown sig next r v (Untyped q r (retyped_values sig q v))
  retyped_agree next k h = subst (λ u. Conv [] (inst_ty r k.typ) (value v k) u) (retyped_at k next h) (CRefl (f k.name k.number k.typ))

  pub untyped_fit : AreFit r (Untyped q r (retyped_values sig q v))
  untyped_fit x i T = subst (λ U. Typed [] (Untyped q r (retyped_values sig q v) x i T) U) (same T) (retyped_fit x i (inst_ty q T))

abbrev pub retyped_sig : List TypeEntry → Sig → Sig
retyped_sig q sig x i = inst_ty q (sig x i)

-- What comes of the outcome after types were put in. It makes equal what q does, and an instance that goes through q goes through it.
pub record Retyped (sig : Sig) (st : State) (q : List TypeEntry) (ts : List TypeEntry) (fs : List TermEntry) : Type 0 where
  pub by_types : List TypeEntry
  pub by : Values
  pub fit : AreFit by_types by
  pub solves : EachHolds by_types by st.equations
  pub types : ts ≡ entries_under by_types st.types
  pub terms : TermsUnder by_types by st.terms fs
  pub terms_typed : TermsTyped fs
  pub unifies : (S T : Ty) → inst_ty q S ≡ inst_ty q T → inst_ty by_types S ≡ inst_ty by_types T
  pub factor : (r : List TypeEntry) (v : Values) → AreFit r v → ((T : Ty) → inst_ty r (inst_ty q T) ≡ inst_ty r T) → EachHolds r v st.equations → Factor sig st.next r v by_types by

module _ (sig : Sig) (st : State) (sided : AllSided st.equations) (known : (k : Key) → occurs k st.equations ≡ true → KnownKey sig st.next k) (q : List TypeEntry) where
  -- an instance that solves the state solves it after the types are put in
  pub retyped_holds : (r : List TypeEntry) (v : Values) (f : AreFit r v) (same : (T : Ty) → inst_ty r (inst_ty q T) ≡ inst_ty r T) → EachHolds r v st.equations → EachHolds r (retyped_values sig q v) (map (retyped_equation q) st.equations)
  retyped_holds r v f same h =
      let w = retyped_values sig q v in
      let c0 = agree_sided sig st.next r v (Untyped q r w) f (untyped_fit sig q r v f same) (retyped_agree sig q r v f same st.next) st.equations sided known h in
      retyped_there q r w st.equations (each_types r (types_after q r) (untyped_same sig q r v f same) (Untyped q r w) st.equations c0)

  pub retyped_outcome : (ts : List TypeEntry) (fs : List TermEntry) → Outcome (retyped_sig q sig) (retyped_state q st) ts fs → Retyped sig st q ts fs
  retyped_outcome ts fs o = record {
    terms_typed = o.terms_typed;
    by_types = types_after q o.by_types;
    by = Untyped q o.by_types o.by;
    fit = after_fit o.by_types o.by q (values_of q []) o.fit (values_fit q [] tt);
    solves = retyped_back q o.by_types o.by st.equations o.solves;
    types = o.types ∙ entries_twice q o.by_types st.types;
    terms = terms_untyped q o.by_types o.by st.terms fs o.terms;
    unifies = λ S T e. after_ty q o.by_types S ∙ ap (inst_ty o.by_types) e ∙ sym (after_ty q o.by_types T);
    factor = λ r v f same h.
        let w = retyped_values sig q v in
        let p = o.general r w (retyped_fit sig q r v f same) (retyped_holds r v f same h) in
        record {
          rest_types = p.rest_types;
          rest = p.rest;
          fit = p.fit;
          types = λ T. ap (inst_ty p.rest_types) (after_ty q o.by_types T) ∙ p.types (inst_ty q T) ∙ same T;
          terms = λ k g.
              let l = key k.name k.number (inst_ty q k.typ) in
              let m : Conv [] (inst_ty r (inst_ty q k.typ)) (value w l) (val p.rest_types p.rest (value o.by l)) = p.terms l (ap (inst_ty q) g.0, g.1) in
              let m' : Conv [] (inst_ty r k.typ) (value w l) (val p.rest_types p.rest (value o.by l)) = subst (λ T. Conv [] T (value w l) (val p.rest_types p.rest (value o.by l))) (same k.typ) m in
              CTrans (retyped_agree sig q r v f same st.next k g) m';
        };
  }
