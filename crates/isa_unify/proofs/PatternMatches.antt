-- Matching of patterns finds a match.
use Rattle.std.proofs.Common.{◌≡◌, ℕ, List, [], ◌∷◌, Bool, true, false, ◌&&◌, ◌||◌, nat_eq, refl, sym, ap, subst, ◌∙◌, cond, ◌⊎◌, inl, inr, Option, Some, None, is_some, unwrap_or, arith}
use Rattle.std.specs.List.{slice_get}
use Rattle.isa_terms.specs.Types.{Ty}
use Rattle.isa_terms.specs.Terms.{Tm, Const, Free, Unknown, Bound, Abs, App, bare}
use Rattle.isa_terms.specs.Equal.{name_eq, ty_eq, tm_eq}
use Rattle.isa_terms.specs.Typing.{function_of, HasType, type_at}
use Rattle.isa_terms.specs.Replace.{raise}
use Rattle.isa_terms.specs.Normal.{IsHead, IsNormal}
use Rattle.isa_terms.specs.Entries.{set_first}
use Rattle.isa_terms.specs.Instance.{Instance, find_type, find_term, inst_ty, inst_tm, set_term, same_unknown}
use Rattle.isa_terms.specs.declared.inst.TypeEntry.{TypeEntry}
use Rattle.isa_terms.specs.declared.inst.TermEntry.{TermEntry}
use Rattle.isa_terms.proofs.Equal.{ty_decides}
use Rattle.isa_terms.proofs.Bare.{tm_decides, type_at_bare}
use Rattle.isa_terms.specs.Typed.{Typed, TConst, TFree, TUnknown, TBound, TApp}
use Rattle.isa_terms.specs.Conversion.{Conv, CRefl, CTrans, CApp, CAbs}
use Rattle.isa_terms.specs.Instances.{IsKept}
use Rattle.isa_terms.proofs.Typed.{type_of_typed, typed_of_type}
use Rattle.isa_terms.proofs.FreeNames.{renamed_conv, same_conv}
use Rattle.isa_terms.proofs.NormalForms.{raise_head, raise_normal}
use Rattle.isa_terms.proofs.Opening.{next_typed, close_conv}
use Rattle.isa_terms.proofs.Loose.{closed_has_type}
use Rattle.isa_terms.proofs.Heads.{one_type}
use Rattle.isa_terms.proofs.Unique.{app_typed, abs_typed}
use Rattle.isa_unify.specs.TypeUnification.{ty_has}
use Rattle.isa_unify.specs.Matching.{Binder, Flexible, flexible, is_that, is_fixed, to_solve, is_closed, solved, bound_to, typed, matched, has_unknown, has_type_unknown, app_parts, ◌>>=◌}
use Rattle.isa_unify.proofs.Tests.{both_true, and_true, or_left, or_right, some_same, value_of, name_self, name_true, number_self, number_true}
use Rattle.isa_unify.proofs.TypeMatches.{TypesWithin, types_within_self, types_within_more, covers_more, Fit, fit_more, TyFinds, ty_finds, skipped, swapped}
use Rattle.isa_unify.proofs.Flexible.{apps, flexible_inst, flexible_unknown, flexible_type_unknown, flexible_typed, IsStiff, IsPattern, solve_flexible, fixed_flexible, flexible_not_stiff, spread_parts}
use Rattle.isa_unify.proofs.Solutions.{types_of, Fits, fits_more, FitsAt, fits_get, types_get, fit_domain, fit_range, apps_conv, IsSolution, solution_exists, solution_is, closed_misses}

-- ---- terms for unknowns
pub unknown_self : (x : List ℕ) (i : ℕ) (T : Ty) → (name_eq x x && (nat_eq i i && ty_eq T T)) ≡ true
unknown_self x i T = and_true (name_eq x x) (nat_eq i i && ty_eq T T) (name_self x) (and_true (nat_eq i i) (ty_eq T T) (number_self i) ((ty_decides T T).1 refl))

pub unknown_true : (x : List ℕ) (i : ℕ) (S : Ty) (y : List ℕ) (j : ℕ) (T : Ty) → (name_eq x y && (nat_eq i j && ty_eq S T)) ≡ true → (x ≡ y) × (i ≡ j) × (S ≡ T)
unknown_true x i S y j T h =
    let a = both_true (name_eq x y) (nat_eq i j && ty_eq S T) h in
    let b = both_true (nat_eq i j) (ty_eq S T) a.1 in
    (name_true x y a.0, number_true i j b.0, (ty_decides S T).0 b.1)

pub unknown_same : (x : List ℕ) (i : ℕ) (S : Ty) (y : List ℕ) (j : ℕ) (T : Ty) → x ≡ y → i ≡ j → S ≡ T → (name_eq x y && (nat_eq i j && ty_eq S T)) ≡ true
unknown_same x i S y j T a b c = sym (λ l. name_eq x (a l) && (nat_eq i (b l) && ty_eq S (c l))) ∙ unknown_self x i S

pub find_set_term : (f : TermEntry) (fs : List TermEntry) (x : List ℕ) (i : ℕ) (T : Ty) → find_term x i T (set_term f fs) ≡ cond (name_eq x f.name && (nat_eq i f.number && ty_eq T f.typ)) (Some f.term) (find_term x i T fs)
find_set_term f [] x i T = refl
find_set_term f (d ∷ fs) x i T = go (find_set_term f fs x i T) (same_unknown f d) refl
  where
    through : (name_eq f.name d.name && (nat_eq f.number d.number && ty_eq f.typ d.typ)) ≡ true → (name_eq x d.name && (nat_eq i d.number && ty_eq T d.typ)) ≡ true → (name_eq x f.name && (nat_eq i f.number && ty_eq T f.typ)) ≡ true
    through h k =
        let a = unknown_true f.name f.number f.typ d.name d.number d.typ h in
        let b = unknown_true x i T d.name d.number d.typ k in
        unknown_same x i T f.name f.number f.typ (b.0 ∙ sym a.0) (b.1 ∙ sym a.1) (b.2 ∙ sym a.2)

    clashing : (name_eq f.name d.name && (nat_eq f.number d.number && ty_eq f.typ d.typ)) ≡ false → (name_eq x d.name && (nat_eq i d.number && ty_eq T d.typ)) ≡ true → (name_eq x f.name && (nat_eq i f.number && ty_eq T f.typ)) ≡ true → ⊥
    clashing h k l =
        let a = unknown_true x i T d.name d.number d.typ k in
        let b = unknown_true x i T f.name f.number f.typ l in
        let c = unknown_same f.name f.number f.typ d.name d.number d.typ (sym b.0 ∙ a.0) (sym b.1 ∙ a.1) (sym b.2 ∙ a.2) in
        cc

    go : find_term x i T (set_term f fs) ≡ cond (name_eq x f.name && (nat_eq i f.number && ty_eq T f.typ)) (Some f.term) (find_term x i T fs) → (c : Bool) → same_unknown f d ≡ c → find_term x i T (cond c (f ∷ fs) (d ∷ set_first (same_unknown f) f fs)) ≡ cond (name_eq x f.name && (nat_eq i f.number && ty_eq T f.typ)) (Some f.term) (find_term x i T (d ∷ fs))
    go ih true h = skipped (name_eq x f.name && (nat_eq i f.number && ty_eq T f.typ)) (name_eq x d.name && (nat_eq i d.number && ty_eq T d.typ)) (Some f.term) (Some d.term) (find_term x i T fs) (through h)
    go ih false h =
        ap (λ o. cond (name_eq x d.name && (nat_eq i d.number && ty_eq T d.typ)) (Some d.term) o) ih
        ∙ swapped (name_eq x f.name && (nat_eq i f.number && ty_eq T f.typ)) (name_eq x d.name && (nat_eq i d.number && ty_eq T d.typ)) (Some f.term) (Some d.term) (find_term x i T fs) (clashing h)

-- what fs says, gs says
pub record TermsWithin (fs gs : List TermEntry) : Type 0 where
  pub keeps : (x : List ℕ) (i : ℕ) (T : Ty) (u : Tm) → find_term x i T fs ≡ Some u → find_term x i T gs ≡ Some u

pub terms_within_self : (fs : List TermEntry) → TermsWithin fs fs
terms_within_self fs = record { keeps = λ x i T u h. h }

pub terms_within_more : {fs gs hs : List TermEntry} → TermsWithin fs gs → TermsWithin gs hs → TermsWithin fs hs
terms_within_more f g = record { keeps = λ x i T u h. g.keeps x i T u (f.keeps x i T u h) }

pub terms_cover_more : {fs gs : List TermEntry} → TermsWithin fs gs → (x : List ℕ) (i : ℕ) (T : Ty) → is_some (find_term x i T fs) ≡ true → is_some (find_term x i T gs) ≡ true
terms_cover_more {fs} w x i T h = let v = value_of (find_term x i T fs) h in ap is_some (w.keeps x i T v.0 v.1)

abbrev pub entry_of : Flexible → Tm → TermEntry
entry_of h u = record { name = h.name; number = h.number; typ = h.typ; term = u }

-- an unknown that gets its term
abbrev pub with_term : Instance → Flexible → Tm → Instance
with_term s h u = record s { terms = set_term (entry_of h u) s.terms }

terms_added : (fs : List TermEntry) (h : Flexible) (u : Tm) → find_term h.name h.number h.typ fs ≡ None → TermsWithin fs (set_term (entry_of h u) fs)
terms_added fs h u e = record { keeps = λ x i T v k. find_set_term (entry_of h u) fs x i T ∙ go x i T v k (name_eq x h.name && (nat_eq i h.number && ty_eq T h.typ)) refl }
  where
    go : (x : List ℕ) (i : ℕ) (T : Ty) (v : Tm) → find_term x i T fs ≡ Some v → (c : Bool) → (name_eq x h.name && (nat_eq i h.number && ty_eq T h.typ)) ≡ c → cond c (Some u) (find_term x i T fs) ≡ Some v
    go x i T v k true l =
        let a = unknown_true x i T h.name h.number h.typ l in
        let n : find_term x i T fs ≡ None = (λ m. find_term (a.0 m) (a.1 m) (a.2 m) fs) ∙ e in
        let c : None ≡ Some v = sym n ∙ k in
        absurd (cc)
    go x i T v k false l = k

pub found_term : (fs : List TermEntry) (h : Flexible) (u : Tm) → find_term h.name h.number h.typ (set_term (entry_of h u) fs) ≡ Some u
found_term fs h u = find_set_term (entry_of h u) fs h.name h.number h.typ ∙ ap (λ c. cond c (Some u) (find_term h.name h.number h.typ fs)) (unknown_self h.name h.number h.typ)

only_term : (fs : List TermEntry) (h : Flexible) (u : Tm) (x : List ℕ) (i : ℕ) (T : Ty) → is_some (find_term x i T (set_term (entry_of h u) fs)) ≡ true → (is_some (find_term x i T fs) ≡ true) ⊎ ((name_eq x h.name && (nat_eq i h.number && ty_eq T h.typ)) ≡ true)
only_term fs h u x i T e = go (name_eq x h.name && (nat_eq i h.number && ty_eq T h.typ)) refl (sym (ap is_some (find_set_term (entry_of h u) fs x i T)) ∙ e)
  where
    go : (c : Bool) → (name_eq x h.name && (nat_eq i h.number && ty_eq T h.typ)) ≡ c → is_some (cond c (Some u) (find_term x i T fs)) ≡ true → (is_some (find_term x i T fs) ≡ true) ⊎ ((name_eq x h.name && (nat_eq i h.number && ty_eq T h.typ)) ≡ true)
    go true k l = inr k
    go false k l = inl l

-- ---- terms that are normal and have, whatever comes to the types, the instance of their unknown's type
pub record Good (es : List TypeEntry) (f : TermEntry) : Type 0 where
  pub typ : Ty
  pub fit : Fit es f.typ typ
  pub typed : HasType f.term typ
  pub normal : IsNormal f.term

abbrev pub AllGood : List TypeEntry → List TermEntry → Type 0
AllGood es [] = Unit {0}
AllGood es (f ∷ fs) = Good es f × AllGood es fs

pub good_more : {es gs : List TypeEntry} (fs : List TermEntry) → TypesWithin es gs → AllGood es fs → AllGood gs fs
good_more [] w g = tt
good_more (f ∷ fs) w g = (record { typ = g.0.typ; fit = fit_more w g.0.fit; typed = g.0.typed; normal = g.0.normal }, good_more fs w g.1)

good_set : (es : List TypeEntry) (f : TermEntry) (fs : List TermEntry) → Good es f → AllGood es fs → AllGood es (set_term f fs)
good_set es f [] g a = (g, tt)
good_set es f (d ∷ fs) g a = go (good_set es f fs g a.1) (same_unknown f d)
  where
    go : AllGood es (set_term f fs) → (c : Bool) → AllGood es (cond c (f ∷ fs) (d ∷ set_first (same_unknown f) f fs))
    go ih true = (g, a.1)
    go ih false = (a.0, ih)

pub good_kept : (es : List TypeEntry) (fs : List TermEntry) → AllGood es fs → IsKept es fs
good_kept es [] g = tt
good_kept es (f ∷ fs) g = (subst (HasType f.term) (sym (g.0.fit.gives es (types_within_self es))) g.0.typed, good_kept es fs g.1)

pub good_normal : (es : List TypeEntry) (fs : List TermEntry) (x : List ℕ) (i : ℕ) (T : Ty) (u : Tm) → AllGood es fs → find_term x i T fs ≡ Some u → IsNormal u
good_normal es [] x i T u g e = absurd (cc)
good_normal es (f ∷ fs) x i T u g e = go (name_eq x f.name && (nat_eq i f.number && ty_eq T f.typ)) e (good_normal es fs x i T u g.1)
  where
    go : (c : Bool) → cond c (Some f.term) (find_term x i T fs) ≡ Some u → (find_term x i T fs ≡ Some u → IsNormal u) → IsNormal u
    go true k ih = subst IsNormal (some_same k) g.0.normal
    go false k ih = ih k

-- ---- what the matcher finds
pub record Finds (D : List Binder) (s : Instance) (p t : Tm) (A B : Ty) (r : Instance) : Type 0 where
  pub types_within : TypesWithin s.types r.types
  pub terms_within : TermsWithin s.terms r.terms
  pub fit : Fit r.types A B
  pub gives : (q : Instance) → TypesWithin r.types q.types → TermsWithin r.terms q.terms → Conv (types_of D) B (inst_tm q.types q.terms p) t
  pub types : (x : List ℕ) (i : ℕ) → has_type_unknown x i p ≡ true → is_some (find_type x i r.types) ≡ true
  pub terms : (x : List ℕ) (i : ℕ) (T : Ty) → has_unknown x i T p ≡ true → is_some (find_term x i T r.terms) ≡ true
  pub only_types : (x : List ℕ) (i : ℕ) → is_some (find_type x i r.types) ≡ true → (is_some (find_type x i s.types) ≡ true) ⊎ (has_type_unknown x i p ≡ true)
  pub only_terms : (x : List ℕ) (i : ℕ) (T : Ty) → is_some (find_term x i T r.terms) ≡ true → (is_some (find_term x i T s.terms) ≡ true) ⊎ (has_unknown x i T p ≡ true)
  pub good : AllGood s.types s.terms → AllGood r.types r.terms

-- an abstraction and an unknown ask that the types of their places are matched, a stiff term doesn't
abbrev pub Place : Tm → Instance → Ty → Ty → Type 0
Place p s A B = IsStiff s p ⊎ Fit s.types A B

-- what is asked of a pattern where matching goes on from s
abbrev pub Asked : Instance → Tm → Type 0
Asked s p = AllGood s.types s.terms × IsPattern s p

-- what counts as a constant goes on to do so
fixed_more : (s r : Instance) → TermsWithin s.terms r.terms → (x : List ℕ) (i : ℕ) (T : Ty) → is_fixed s x i T ≡ true → is_fixed r x i T ≡ true
fixed_more s r w x i T h = go (find_term x i T s.terms) refl h
  where
    go : (o : Option Tm) → find_term x i T s.terms ≡ o → is_that o (Unknown x i T) ≡ true → is_fixed r x i T ≡ true
    go None e k = absurd (cc)
    go (Some u) e k = ap (λ o. is_that o (Unknown x i T)) (w.keeps x i T u e) ∙ k

stiff_more : (s r : Instance) → TermsWithin s.terms r.terms → (p : Tm) → IsStiff s p → IsStiff r p
stiff_more s r w (App f a) h = stiff_more s r w f h
stiff_more s r w (Abs x T b) h = absurd h
stiff_more s r w (Unknown x i T) h = fixed_more s r w x i T h
stiff_more s r w (Const c T) h = tt
stiff_more s r w (Free x T) h = tt
stiff_more s r w (Bound n) h = tt

pub pattern_more : (s r : Instance) → TermsWithin s.terms r.terms → (p : Tm) → IsPattern s p → IsPattern r p
pattern_more s r w (Const c T) h = tt
pattern_more s r w (Free x T) h = tt
pattern_more s r w (Unknown x i T) h = tt
pattern_more s r w (Bound n) h = tt
pattern_more s r w (Abs x T b) h = pattern_more s r w b h
pattern_more s r w (App f a) (inl h) = inl h
pattern_more s r w (App f a) (inr h) = inr (stiff_more s r w f h.0, (pattern_more s r w f h.1.0, pattern_more s r w a h.1.1))

pub asked_more : (D : List Binder) (s r : Instance) (f g a : Tm) (A B : Ty) → Finds D s f g A B r → Asked s a → Asked r a
asked_more D s r f g a A B h k = (h.good k.0, pattern_more s r h.terms_within a k.1)

-- the entry of an unknown that counts as a constant
good_found : (es : List TypeEntry) (fs : List TermEntry) (x : List ℕ) (i : ℕ) (T : Ty) (u : Tm) → AllGood es fs → find_term x i T fs ≡ Some u → (U : Ty) × Fit es T U × HasType u U
good_found es [] x i T u g e = absurd (cc)
good_found es (f ∷ fs) x i T u g e = go (name_eq x f.name && (nat_eq i f.number && ty_eq T f.typ)) refl e (good_found es fs x i T u g.1)
  where
    go : (c : Bool) → (name_eq x f.name && (nat_eq i f.number && ty_eq T f.typ)) ≡ c → cond c (Some f.term) (find_term x i T fs) ≡ Some u → (find_term x i T fs ≡ Some u → (U : Ty) × Fit es T U × HasType u U) → (U : Ty) × Fit es T U × HasType u U
    go true h k ih =
        let a = unknown_true x i T f.name f.number f.typ h in
        (g.0.typ, subst (λ V. Fit es V g.0.typ) (sym a.2) g.0.fit, subst (λ v. HasType v g.0.typ) (some_same k) g.0.typed)
    go false h k ih = ih k

unknown_is : {G : List Ty} {x : List ℕ} {i : ℕ} {T A : Ty} → Typed G (Unknown x i T) A → T ≡ A
unknown_is TUnknown = refl

-- the type of the place of an unknown that counts as a constant
pub fixed_place : (s : Instance) (K G : List Ty) (x : List ℕ) (i : ℕ) (T A B : Ty) (t : Tm) → AllGood s.types s.terms → is_fixed s x i T ≡ true → Typed G (Unknown x i T) A → Typed K t B → bare t ≡ Unknown x i T → Fit s.types A B
fixed_place s K G x i T A B t g f d e same = go (find_term x i T s.terms) refl f
  where
    of_term : T ≡ B
    of_term = one_type TUnknown e (sym same)

    go : (o : Option Tm) → find_term x i T s.terms ≡ o → is_that o (Unknown x i T) ≡ true → Fit s.types A B
    go None p q = absurd (cc)
    go (Some u) p q =
        let h = good_found s.types s.terms x i T u g p in
        let b : bare u ≡ Unknown x i T = (tm_decides u (Unknown x i T)).0 q in
        let own : h.0 ≡ T = one_type (typed_of_type [] u h.0 h.2) TUnknown b in
        subst (λ V. Fit s.types V B) (unknown_is d) (subst (Fit s.types T) (own ∙ of_term) h.1)

-- what stands for an unknown that counts as a constant is this one
pub fixed_is : (s : Instance) (x : List ℕ) (i : ℕ) (T : Ty) → is_fixed s x i T ≡ true → (u : Tm) × (find_term x i T s.terms ≡ Some u) × (bare u ≡ Unknown x i T)
fixed_is s x i T h = go (find_term x i T s.terms) refl h
  where
    go : (o : Option Tm) → find_term x i T s.terms ≡ o → is_that o (Unknown x i T) ≡ true → (u : Tm) × (find_term x i T s.terms ≡ Some u) × (bare u ≡ Unknown x i T)
    go None e k = absurd (cc)
    go (Some u) e k = (u, e, (tm_decides u (Unknown x i T)).0 k)

abbrev pub Sound : Tm → Type 0
Sound p = (t : Tm) (G : List Ty) (D : List Binder) (A B : Ty) (s r : Instance) → Asked s p → IsNormal t → Typed G p A → Typed (types_of D) t B → Fits s.types G D → Place p s A B → matched D s p t ≡ Some r → Finds D s p t A B r

-- constants and free variables
atom_finds : (D : List Binder) (s : Instance) (p t : Tm) (T U : Ty) (r : Instance) → TyFinds s T U r → ((x : List ℕ) (i : ℕ) → has_type_unknown x i p ≡ ty_has x i T) → ((x : List ℕ) (i : ℕ) (V : Ty) → has_unknown x i V p ≡ false) → ((q : Instance) → inst_ty q.types T ≡ U → Conv (types_of D) U (inst_tm q.types q.terms p) t) → Finds D s p t T U r
atom_finds D s p t T U r f h k c = record {
  types_within = f.within;
  terms_within = subst (TermsWithin s.terms) (sym f.terms) (terms_within_self s.terms);
  fit = f.fit;
  gives = λ q w v. c q (f.fit.gives q.types w);
  types = λ x i e. f.fit.covers x i (sym (h x i) ∙ e);
  terms = λ x i V e. absurd (let n : false ≡ true = sym (k x i V) ∙ e in cc);
  only_types = λ x i e. elim (f.only x i e) [ inl l ↦ inl l | inr l ↦ inr (h x i ∙ l) ];
  only_terms = λ x i V e. inl (ap (λ fs. is_some (find_term x i V fs)) (sym f.terms) ∙ e);
  good = λ g. subst (AllGood r.types) (sym f.terms) (good_more s.terms f.within g);
}

retyped : (D : List Binder) (s : Instance) (p t : Tm) (T U A B : Ty) (r : Instance) → T ≡ A → U ≡ B → Finds D s p t T U r → Finds D s p t A B r
retyped D s p t T U A B r a b f = subst (λ V. Finds D s p t V B r) a (subst (λ V. Finds D s p t T V r) b f)

const_type : {G : List Ty} {x : List ℕ} {T A : Ty} → Typed G (Const x T) A → T ≡ A
const_type TConst = refl

free_type : {G : List Ty} {x : List ℕ} {T A : Ty} → Typed G (Free x T) A → T ≡ A
free_type TFree = refl

bound_type : {G : List Ty} {n : ℕ} {A : Ty} → Typed G (Bound n) A → slice_get G n ≡ Some A
bound_type (TBound h) = h

const_finds : (D : List Binder) (s : Instance) (c d : List ℕ) (T U : Ty) (r : Instance) (b : Bool) → name_eq c d ≡ b → typed b s T U ≡ Some r → Finds D s (Const c T) (Const d U) T U r
const_finds D s c d T U r true e h =
    atom_finds D s (Const c T) (Const d U) T U r (ty_finds T U s r h) (λ x i. refl) (λ x i V. refl)
    (λ q k. subst (λ v. Conv (types_of D) U v (Const d U)) (sym (λ l. Const (name_true c d e l) (k l))) (CRefl TConst))
const_finds D s c d T U r false e h = absurd (cc)

free_finds : (D : List Binder) (s : Instance) (c d : List ℕ) (T U : Ty) (r : Instance) (b : Bool) → name_eq c d ≡ b → typed b s T U ≡ Some r → Finds D s (Free c T) (Free d U) T U r
free_finds D s c d T U r true e h =
    atom_finds D s (Free c T) (Free d U) T U r (ty_finds T U s r h) (λ x i. refl) (λ x i V. refl)
    (λ q k. subst (λ v. Conv (types_of D) U v (Free d U)) (sym (λ l. Free (name_true c d e l) (k l))) (CRefl TFree))
free_finds D s c d T U r false e h = absurd (cc)

const_sound : (c : List ℕ) (T : Ty) → Sound (Const c T)
const_sound c T (Const d U) G D A B s r pat n e f fits pl h = retyped D s (Const c T) (Const d U) T U A B r (const_type e) (const_type f) (const_finds D s c d T U r (name_eq c d) refl h)
const_sound c T (Free d U) G D A B s r pat n e f fits pl h = absurd (cc)
const_sound c T (Unknown d i U) G D A B s r pat n e f fits pl h = absurd (cc)
const_sound c T (Bound k) G D A B s r pat n e f fits pl h = absurd (cc)
const_sound c T (Abs d U b) G D A B s r pat n e f fits pl h = absurd (cc)
const_sound c T (App g b) G D A B s r pat n e f fits pl h = absurd (cc)

free_sound : (c : List ℕ) (T : Ty) → Sound (Free c T)
free_sound c T (Free d U) G D A B s r pat n e f fits pl h = retyped D s (Free c T) (Free d U) T U A B r (free_type e) (free_type f) (free_finds D s c d T U r (name_eq c d) refl h)
free_sound c T (Const d U) G D A B s r pat n e f fits pl h = absurd (cc)
free_sound c T (Unknown d i U) G D A B s r pat n e f fits pl h = absurd (cc)
free_sound c T (Bound k) G D A B s r pat n e f fits pl h = absurd (cc)
free_sound c T (Abs d U b) G D A B s r pat n e f fits pl h = absurd (cc)
free_sound c T (App g b) G D A B s r pat n e f fits pl h = absurd (cc)

-- bound variables
bound_finds : (D : List Binder) (s : Instance) (m k : ℕ) (A B : Ty) → m ≡ k → Fit s.types A B → Typed (types_of D) (Bound k) B → Finds D s (Bound m) (Bound k) A B s
bound_finds D s m k A B e f d = record {
  types_within = types_within_self s.types;
  terms_within = terms_within_self s.terms;
  fit = f;
  gives = λ q w v. subst (λ j. Conv (types_of D) B (Bound j) (Bound k)) (sym e) (CRefl d);
  types = λ x i h. absurd (cc);
  terms = λ x i V h. absurd (cc);
  only_types = λ x i h. inl h;
  only_terms = λ x i V h. inl h;
  good = λ g. g;
}

bound_case : (D : List Binder) (s : Instance) (m k : ℕ) (A B : Ty) (r : Instance) (b : Bool) → nat_eq m k ≡ b → FitsAt s.types D m A → Typed (types_of D) (Bound k) B → cond b (Some s) None ≡ Some r → Finds D s (Bound m) (Bound k) A B r
bound_case D s m k A B r true e at d h =
    let same : m ≡ k = number_true m k e in
    let one : Some at.binder.typ ≡ Some B = sym (types_get D m at.binder at.at) ∙ ap (slice_get (types_of D)) same ∙ bound_type d in
    subst (Finds D s (Bound m) (Bound k) A B) (some_same h) (bound_finds D s m k A B same (subst (Fit s.types A) (some_same one) at.fit) d)
bound_case D s m k A B r false e at d h = absurd (cc)

bound_sound : (m : ℕ) → Sound (Bound m)
bound_sound m (Bound k) G D A B s r pat n e f fits pl h = bound_case D s m k A B r (nat_eq m k) refl (fits_get G D m A fits (bound_type e)) f h
bound_sound m (Const d U) G D A B s r pat n e f fits pl h = absurd (cc)
bound_sound m (Free d U) G D A B s r pat n e f fits pl h = absurd (cc)
bound_sound m (Unknown d i U) G D A B s r pat n e f fits pl h = absurd (cc)
bound_sound m (Abs d U b) G D A B s r pat n e f fits pl h = absurd (cc)
bound_sound m (App g b) G D A B s r pat n e f fits pl h = absurd (cc)

-- ---- unknowns applied to variables
typed_bare : (G : List Ty) (u v : Tm) (T : Ty) → bare v ≡ bare u → Typed G u T → Typed G v T
typed_bare G u v T e d = typed_of_type G v T (sym (type_at_bare G v) ∙ ap (type_at G) e ∙ type_at_bare G u ∙ type_of_typed d)

-- what the instance q makes of `?F xs`, F being v in it
pub flexible_becomes : (q : Instance) (p : Tm) (h : Flexible) (v : Tm) → flexible p ≡ Some h → find_term h.name h.number h.typ q.terms ≡ Some v → inst_tm q.types q.terms p ≡ apps v h.args
flexible_becomes q p h v e f =
    flexible_inst q.types q.terms p h e ∙ ap (λ o. apps (unwrap_or o (Unknown h.name h.number (inst_ty q.types h.typ))) h.args) f

flexible_finds : (D : List Binder) (s : Instance) (p t : Tm) (A B : Ty) (h : Flexible) (u v : Tm) (r : Instance) → flexible p ≡ Some h → Fit s.types A B → IsSolution s.types D h.args h.typ B t u → bare v ≡ bare u → r.types ≡ s.types → TermsWithin s.terms r.terms → find_term h.name h.number h.typ r.terms ≡ Some v
    → ((x : List ℕ) (i : ℕ) (T : Ty) → is_some (find_term x i T r.terms) ≡ true → (is_some (find_term x i T s.terms) ≡ true) ⊎ ((name_eq x h.name && (nat_eq i h.number && ty_eq T h.typ)) ≡ true)) → (AllGood s.types s.terms → AllGood s.types r.terms) → Finds D s p t A B r
flexible_finds D s p t A B h u v r e a i same types terms found only good = record {
  types_within = subst (TypesWithin s.types) (sym types) (types_within_self s.types);
  terms_within = terms;
  fit = subst (λ es. Fit es A B) (sym types) a;
  gives = λ q w x.
      let K = types_of D in
      let c : Conv K B (apps v h.args) t = CTrans (apps_conv K h.args i.typ B i.spined (same_conv (typed_bare K u v i.typ same i.typed) i.typed same)) i.gives in
      subst (λ y. Conv K B y t) (sym (flexible_becomes q p h v e (x.keeps h.name h.number h.typ v found))) c;
  types = λ x j k. ap (λ es. is_some (find_type x j es)) types ∙ i.fit.covers x j (sym (flexible_type_unknown x j p h e) ∙ k);
  terms = λ x j T k.
      let m = unknown_true x j T h.name h.number h.typ (sym (flexible_unknown x j T p h e) ∙ k) in
      ap is_some ((λ l. find_term (m.0 l) (m.1 l) (m.2 l) r.terms) ∙ found);
  only_types = λ x j k. inl (ap (λ es. is_some (find_type x j es)) (sym types) ∙ k);
  only_terms = λ x j T k. elim (only x j T k) [ inl l ↦ inl l | inr l ↦ inr (flexible_unknown x j T p h e ∙ l) ];
  good = λ g. subst (λ es. AllGood es r.terms) (sym types) (good g);
}

solution_good : (D : List Binder) (s : Instance) (h : Flexible) (B : Ty) (t u : Tm) → IsSolution s.types D h.args h.typ B t u → is_closed 0 u ≡ true → Good s.types (entry_of h u)
solution_good D s h B t u i c = record {
  typ = i.typ;
  fit = i.fit;
  typed = type_of_typed (closed_has_type i.typed (λ k. closed_misses 0 u c k (omega arith)));
  normal = i.normal;
}

bound_finds_term : (D : List Binder) (s : Instance) (p t : Tm) (A B : Ty) (h : Flexible) (u : Tm) (r : Instance) (o : Option Tm) → flexible p ≡ Some h → Fit s.types A B → IsSolution s.types D h.args h.typ B t u → is_closed 0 u ≡ true → find_term h.name h.number h.typ s.terms ≡ o → bound_to o s h u ≡ Some r → Finds D s p t A B r
bound_finds_term D s p t A B h u r None e a i c f k =
    subst (Finds D s p t A B) (some_same k)
    (flexible_finds D s p t A B h u u (with_term s h u) e a i refl refl (terms_added s.terms h u f) (found_term s.terms h u) (only_term s.terms h u) (λ g. good_set s.types (entry_of h u) s.terms (solution_good D s h B t u i c) g))
bound_finds_term D s p t A B h u r (Some v) e a i c f k = go (tm_eq v u) refl k
  where
    go : (b : Bool) → tm_eq v u ≡ b → cond b (Some s) None ≡ Some r → Finds D s p t A B r
    go true m l = subst (Finds D s p t A B) (some_same l) (flexible_finds D s p t A B h u v s e a i ((tm_decides v u).0 m) refl (terms_within_self s.terms) f (λ x j T y. inl y) (λ g. g))
    go false m l = absurd (cc)

flexible_sound : (p t : Tm) (h : Flexible) (G : List Ty) (D : List Binder) (A B : Ty) (s r : Instance) → flexible p ≡ Some h → IsNormal t → Typed G p A → Typed (types_of D) t B → Fits s.types G D → Fit s.types A B → solved D s h t ≡ Some r → Finds D s p t A B r
flexible_sound p t h G D A B s r e n d f fits a k =
    let sp = flexible_typed G p h A e d in
    let u = solution_exists s.types G D h.args h.typ A t fits sp in
    let i = solution_is s.types G D h.args h.typ A B t u.0 fits sp a f n u.1 in
    go u.0 i (is_closed 0 u.0) refl (sym (ap (λ o. o >>= λ w. cond (is_closed 0 w) (bound_to (find_term h.name h.number h.typ s.terms) s h w) None) u.1) ∙ k)
  where
    go : (u : Tm) → IsSolution s.types D h.args h.typ B t u → (c : Bool) → is_closed 0 u ≡ c → cond c (bound_to (find_term h.name h.number h.typ s.terms) s h u) None ≡ Some r → Finds D s p t A B r
    go u i true c l = bound_finds_term D s p t A B h u r (find_term h.name h.number h.typ s.terms) e a i c refl l
    go u i false c l = absurd (cc)

pub placed : (p : Tm) (s : Instance) (A B : Ty) → (IsStiff s p → ⊥) → Place p s A B → Fit s.types A B
placed p s A B n (inl h) = absurd (n h)
placed p s A B n (inr f) = f

-- what matches an unknown that counts as a constant is this unknown
fixed_matched : (D : List Binder) (s r : Instance) (x : List ℕ) (i : ℕ) (T : Ty) (t : Tm) → is_fixed s x i T ≡ true → matched D s (Unknown x i T) t ≡ Some r → bare t ≡ Unknown x i T
fixed_matched D s r x i T t f h =
    let u = fixed_is s x i T f in
    go u.0 u.2 (is_closed 0 t) (ap (λ o. cond (is_closed 0 t) (bound_to o s (record { name = x; number = i; typ = T; args = [] }) t) None) (sym u.1) ∙ h)
  where
    same : (u : Tm) → bare u ≡ Unknown x i T → (b : Bool) → tm_eq u t ≡ b → cond b (Some s) None ≡ Some r → bare t ≡ Unknown x i T
    same u e true k l = sym ((tm_decides u t).0 k) ∙ e
    same u e false k l = absurd (cc)

    go : (u : Tm) → bare u ≡ Unknown x i T → (c : Bool) → cond c (cond (tm_eq u t) (Some s) None) None ≡ Some r → bare t ≡ Unknown x i T
    go u e true k = same u e (tm_eq u t) refl k
    go u e false k = absurd (cc)

unknown_placed : (D : List Binder) (s r : Instance) (G : List Ty) (x : List ℕ) (i : ℕ) (T A B : Ty) (t : Tm) → AllGood s.types s.terms → Typed G (Unknown x i T) A → Typed (types_of D) t B → Place (Unknown x i T) s A B → matched D s (Unknown x i T) t ≡ Some r → Fit s.types A B
unknown_placed D s r G x i T A B t g d e (inl f) h = fixed_place s (types_of D) G x i T A B t g f d e (fixed_matched D s r x i T t f h)
unknown_placed D s r G x i T A B t g d e (inr f) h = f

unknown_sound : (x : List ℕ) (i : ℕ) (T : Ty) → Sound (Unknown x i T)
unknown_sound x i T t G D A B s r pat n e f fits pl h =
    flexible_sound (Unknown x i T) t (record { name = x; number = i; typ = T; args = [] }) G D A B s r refl n e f fits (unknown_placed D s r G x i T A B t pat.0 e f pl h) h

-- ---- abstractions
both_or : (a b : Bool) {c : Bool} → (a ≡ true → c ≡ true) → (b ≡ true → c ≡ true) → (a || b) ≡ true → c ≡ true
both_or true b f g h = f refl
both_or false b f g h = g h

abs_finds : (D : List Binder) (s : Instance) (x : List ℕ) (T S R A2 : Ty) (b t c : Tm) (r : Instance) → Fit s.types (function_of T A2) (function_of S R)
    → Finds (record { name = x; typ = S } ∷ D) s b c A2 R r
    → ((v : Tm) (U : Ty) → U ≡ S → Conv (S ∷ types_of D) R v c → Conv (types_of D) (function_of S R) (Abs x U v) t) → Finds D s (Abs x T b) t (function_of T A2) (function_of S R) r
abs_finds D s x T S R A2 b t c r a f close = record {
  types_within = f.types_within;
  terms_within = f.terms_within;
  fit = fit_more f.types_within a;
  gives = λ q w v. close (inst_tm q.types q.terms b) (inst_ty q.types T) ((fit_domain a).gives q.types (types_within_more f.types_within w)) (f.gives q w v);
  types = λ y i h. both_or (ty_has y i T) (has_type_unknown y i b) (λ k. covers_more f.types_within y i ((fit_domain a).covers y i k)) (f.types y i) h;
  terms = f.terms;
  only_types = λ y i h. elim (f.only_types y i h) [ inl k ↦ inl k | inr k ↦ inr (or_right (ty_has y i T) (has_type_unknown y i b) k) ];
  only_terms = f.only_terms;
  good = f.good;
}

both_close : (K : List Ty) (x y : List ℕ) (S R : Ty) (c : Tm) → Typed (S ∷ K) c R → (v : Tm) (U : Ty) → U ≡ S → Conv (S ∷ K) R v c → Conv K (function_of S R) (Abs x U v) (Abs y S c)
both_close K x y S R c d v U e k = subst (λ V. Conv K (function_of S R) (Abs x V v) (Abs y S c)) (sym e) (CTrans (CAbs k) (renamed_conv K x y S R c d))

open_close : (K : List Ty) (x : List ℕ) (S R : Ty) (t : Tm) → Typed K t (function_of S R) → (v : Tm) (U : Ty) → U ≡ S → Conv (S ∷ K) R v (App (raise 1 0 t) (Bound 0)) → Conv K (function_of S R) (Abs x U v) t
open_close K x S R t d v U e k = subst (λ V. Conv K (function_of S R) (Abs x V v) t) (sym e) (close_conv x d k)

pub opened_normal : (t : Tm) → IsHead t → IsNormal t → IsNormal (App (raise 1 0 t) (Bound 0))
opened_normal t h n = (raise_head 1 0 t h, (raise_normal 1 0 t n, tt))

abs_both : (x : List ℕ) (T : Ty) (b : Tm) → Sound b → (y : List ℕ) (U : Ty) (c : Tm) (G : List Ty) (D : List Binder) (s r : Instance) (A2 B2 : Ty) → Asked s b → IsNormal c → Typed (T ∷ G) b A2 → Typed (U ∷ types_of D) c B2 → Fits s.types G D → Fit s.types (function_of T A2) (function_of U B2) → matched (record { name = x; typ = U } ∷ D) s b c ≡ Some r → Finds D s (Abs x T b) (Abs y U c) (function_of T A2) (function_of U B2) r
abs_both x T b ih y U c G D s r A2 B2 pat n e f fits a h =
    abs_finds D s x T U B2 A2 b (Abs y U c) c r a (ih c (T ∷ G) (record { name = x; typ = U } ∷ D) A2 B2 s r pat n e f (fit_domain a, fits) (inr (fit_range a)) h) (both_close (types_of D) x y U B2 c f)

abs_open : (x : List ℕ) (T : Ty) (b : Tm) → Sound b → (t : Tm) (G : List Ty) (D : List Binder) (s r : Instance) (A2 S R : Ty) → Asked s b → IsHead t → IsNormal t → Typed (T ∷ G) b A2 → Typed (types_of D) t (function_of S R) → Fits s.types G D → Fit s.types (function_of T A2) (function_of S R) → matched (record { name = x; typ = S } ∷ D) s b (App (raise 1 0 t) (Bound 0)) ≡ Some r → Finds D s (Abs x T b) t (function_of T A2) (function_of S R) r
abs_open x T b ih t G D s r A2 S R pat hd n e f fits a h =
    abs_finds D s x T S R A2 b t (App (raise 1 0 t) (Bound 0)) r a
    (ih (App (raise 1 0 t) (Bound 0)) (T ∷ G) (record { name = x; typ = S } ∷ D) A2 R s r pat (opened_normal t hd n) e (TApp (next_typed S f) (TBound refl)) (fit_domain a, fits) (inr (fit_range a)) h) (open_close (types_of D) x S R t f)

abs_opened : (x : List ℕ) (T : Ty) (b : Tm) → Sound b → (t : Tm) (G : List Ty) (D : List Binder) (A B : Ty) (s r : Instance) → Asked s b → IsHead t → IsNormal t → Typed G (Abs x T b) A → Typed (types_of D) t B → Fits s.types G D → Fit s.types A B → matched (record { name = x; typ = inst_ty s.types T } ∷ D) s b (App (raise 1 0 t) (Bound 0)) ≡ Some r → Finds D s (Abs x T b) t A B r
abs_opened x T b ih t G D A B s r pat hd n e f fits a h =
    let p = abs_typed e in
    let A2 = p.0 in
    let a' : Fit s.types (function_of T A2) B = subst (λ V. Fit s.types V B) p.1 a in
    let is : function_of (inst_ty s.types T) (inst_ty s.types A2) ≡ B = a'.gives s.types (types_within_self s.types) in
    let S = inst_ty s.types T in
    let R = inst_ty s.types A2 in
    retyped D s (Abs x T b) t (function_of T A2) (function_of S R) A B r (sym p.1) is
    (abs_open x T b ih t G D s r A2 S R pat hd n p.2 (subst (Typed (types_of D) t) (sym is) f) fits (subst (Fit s.types (function_of T A2)) (sym is) a') h)

abs_sound : (x : List ℕ) (T : Ty) (b : Tm) → Sound b → Sound (Abs x T b)
abs_sound x T b ih (Abs y U c) G D A B s r pat n e f fits pl h =
    let p = abs_typed e in
    let q = abs_typed f in
    let a : Fit s.types A B = placed (Abs x T b) s A B (λ k. k) pl in
    retyped D s (Abs x T b) (Abs y U c) (function_of T p.0) (function_of U q.0) A B r (sym p.1) (sym q.1)
    (abs_both x T b ih y U c G D s r p.0 q.0 pat n.0 p.2 q.2 fits (subst (λ V. Fit s.types V (function_of U q.0)) p.1 (subst (Fit s.types A) q.1 a)) h)
abs_sound x T b ih (Const d U) G D A B s r pat n e f fits pl h = abs_opened x T b ih (Const d U) G D A B s r pat tt n e f fits (placed (Abs x T b) s A B (λ k. k) pl) h
abs_sound x T b ih (Free d U) G D A B s r pat n e f fits pl h = abs_opened x T b ih (Free d U) G D A B s r pat tt n e f fits (placed (Abs x T b) s A B (λ k. k) pl) h
abs_sound x T b ih (Unknown d i U) G D A B s r pat n e f fits pl h = abs_opened x T b ih (Unknown d i U) G D A B s r pat tt n e f fits (placed (Abs x T b) s A B (λ k. k) pl) h
abs_sound x T b ih (Bound k) G D A B s r pat n e f fits pl h = abs_opened x T b ih (Bound k) G D A B s r pat tt n e f fits (placed (Abs x T b) s A B (λ k. k) pl) h
abs_sound x T b ih (App g c) G D A B s r pat n e f fits pl h = abs_opened x T b ih (App g c) G D A B s r pat tt n e f fits (placed (Abs x T b) s A B (λ k. k) pl) h

-- ---- applications
app_finds : (D : List Binder) (s q r : Instance) (f a g c : Tm) (S A S2 B : Ty) → Finds D s f g (function_of S A) (function_of S2 B) q → Finds D q a c S S2 r → Finds D s (App f a) (App g c) A B r
app_finds D s q r f a g c S A S2 B h k = record {
  types_within = types_within_more h.types_within k.types_within;
  terms_within = terms_within_more h.terms_within k.terms_within;
  fit = fit_more k.types_within (fit_range h.fit);
  gives = λ i w v. CApp (h.gives i (types_within_more k.types_within w) (terms_within_more k.terms_within v)) (k.gives i w v);
  types = λ x i e. both_or (has_type_unknown x i f) (has_type_unknown x i a) (λ d. covers_more k.types_within x i (h.types x i d)) (k.types x i) e;
  terms = λ x i T e. both_or (has_unknown x i T f) (has_unknown x i T a) (λ d. terms_cover_more k.terms_within x i T (h.terms x i T d)) (k.terms x i T) e;
  only_types = λ x i e. only (has_type_unknown x i f) (has_type_unknown x i a) (h.only_types x i) (k.only_types x i e);
  only_terms = λ x i T e. only (has_unknown x i T f) (has_unknown x i T a) (h.only_terms x i T) (k.only_terms x i T e);
  good = λ e. k.good (h.good e);
}
  where
    only : (b d : Bool) {P Q : Type 0} → (P → Q ⊎ (b ≡ true)) → P ⊎ (d ≡ true) → Q ⊎ ((b || d) ≡ true)
    only b d u (inl p) = elim (u p) [ inl l ↦ inl l | inr l ↦ inr (or_left b d l) ]
    only b d u (inr l) = inr (or_right b d l)

app_rigid : (f a : Tm) → Sound f → Sound a → (g c : Tm) (G : List Ty) (D : List Binder) (A B : Ty) (s r : Instance) → IsStiff s f → Asked s f → Asked s a → IsNormal (App g c) → Typed G (App f a) A → Typed (types_of D) (App g c) B → Fits s.types G D → (o : Option Instance) → matched D s f g ≡ o → (o >>= λ q. matched D q a c) ≡ Some r → Finds D s (App f a) (App g c) A B r
app_rigid f a ihf iha g c G D A B s r rig pf pa n d e fits None h k = absurd (cc)
app_rigid f a ihf iha g c G D A B s r rig pf pa n d e fits (Some q) h k =
    let p = app_typed d in
    let p2 = app_typed e in
    let one = ihf g G D (function_of p.0 A) (function_of p2.0 B) s q pf n.1.0 p.1 p2.1 fits (inl rig) h in
    let two = iha c G D p.0 p2.0 q r (asked_more D s q f g a (function_of p.0 A) (function_of p2.0 B) one pa) n.1.1 p.2 p2.2 (fits_more G D one.types_within fits) (inr (fit_domain one.fit)) k in
    app_finds D s q r f a g c p.0 A p2.0 B one two

app_case : (f a : Tm) → Sound f → Sound a → (t : Tm) (G : List Ty) (D : List Binder) (A B : Ty) (s r : Instance) → IsStiff s f → Asked s f → Asked s a → IsNormal t → Typed G (App f a) A → Typed (types_of D) t B → Fits s.types G D → (app_parts t >>= λ q. (matched D s f q.0 >>= λ i. matched D i a q.1)) ≡ Some r → Finds D s (App f a) t A B r
app_case f a ihf iha (App g c) G D A B s r rig pf pa n d e fits k = app_rigid f a ihf iha g c G D A B s r rig pf pa n d e fits (matched D s f g) refl k
app_case f a ihf iha (Const y U) G D A B s r rig pf pa n d e fits k = absurd (cc)
app_case f a ihf iha (Free y U) G D A B s r rig pf pa n d e fits k = absurd (cc)
app_case f a ihf iha (Unknown y i U) G D A B s r rig pf pa n d e fits k = absurd (cc)
app_case f a ihf iha (Bound y) G D A B s r rig pf pa n d e fits k = absurd (cc)
app_case f a ihf iha (Abs y U b) G D A B s r rig pf pa n d e fits k = absurd (cc)

-- the parts of an application that isn't to be solved
pub app_asked : (s : Instance) (f a : Tm) → to_solve s (App f a) ≡ None → Asked s (App f a) → IsStiff s f × (Asked s f × Asked s a)
app_asked s f a e (g, inl h) = let p = spread_parts s f a h (fixed_flexible s (flexible (App f a)) h.head h.is e) in (p.0, ((g, p.1.0), (g, p.1.1)))
app_asked s f a e (g, inr p) = (p.0, ((g, p.1.0), (g, p.1.1)))

app_either : (f a : Tm) → Sound f → Sound a → (t : Tm) (G : List Ty) (D : List Binder) (A B : Ty) (s r : Instance) → (o : Option Flexible) → to_solve s (App f a) ≡ o → Asked s (App f a) → IsNormal t → Typed G (App f a) A → Typed (types_of D) t B → Fits s.types G D → Place (App f a) s A B
    → elim o as (λ _. Option Instance) [ Some h ↦ solved D s h t | None ↦ (app_parts t >>= λ q. (matched D s f q.0 >>= λ i. matched D i a q.1)) ] ≡ Some r → Finds D s (App f a) t A B r
app_either f a ihf iha t G D A B s r (Some h) e pat n d g fits pl k =
    let is = solve_flexible s (flexible (App f a)) h e in
    flexible_sound (App f a) t h G D A B s r is.0 n d g fits (placed (App f a) s A B (λ st. flexible_not_stiff s (App f a) h is.0 is.1 st) pl) k
app_either f a ihf iha t G D A B s r None e pat n d g fits pl k =
    let p = app_asked s f a e pat in
    app_case f a ihf iha t G D A B s r p.0 p.1.0 p.1.1 n d g fits k

app_sound : (f a : Tm) → Sound f → Sound a → Sound (App f a)
app_sound f a ihf iha t G D A B s r pat n d g fits pl k = app_either f a ihf iha t G D A B s r (to_solve s (App f a)) refl pat n d g fits pl k

-- The matcher finds only matches.
pub sound : (p : Tm) → Sound p
sound (Const c T) = const_sound c T
sound (Free x T) = free_sound x T
sound (Unknown x i T) = unknown_sound x i T
sound (Bound n) = bound_sound n
sound (Abs x T b) = abs_sound x T b (sound b)
sound (App f a) = app_sound f a (sound f) (sound a)
