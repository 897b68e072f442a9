-- Unknowns that count as constants: matching may start from them.
use Rattle.std.proofs.Common.{◌≡◌, ℕ, List, [], ◌∷◌, Bool, true, false, ◌&&◌, ◌||◌, cond, nat_eq, ◌⊎◌, inl, inr, refl, sym, ap, subst, ◌∙◌, Option, Some, None, is_some, Result, IfOk}
use Rattle.std.proofs.lemmas.Result.{IfOk-weaker}
use Rattle.isa_terms.specs.Types.{Ty, Tys, TyCon, TyFixed, TyUnknown, NoTys, MoreTys}
use Rattle.isa_terms.specs.Terms.{Tm, Const, Free, Unknown, Bound, Abs, App, bare}
use Rattle.isa_terms.specs.Equal.{name_eq, ty_eq, tm_eq}
use Rattle.isa_terms.specs.Typing.{HasType}
use Rattle.isa_terms.specs.Normal.{IsNormal}
use Rattle.isa_terms.specs.Entries.{Once}
use Rattle.isa_terms.specs.Instance.{Instance, find_type, find_term, inst_ty, same_type_unknown, same_unknown}
use Rattle.isa_terms.specs.declared.inst.TypeEntry.{TypeEntry}
use Rattle.isa_terms.specs.declared.inst.TermEntry.{TermEntry}
use Rattle.isa_terms.specs.Typed.{Typed, TUnknown}
use Rattle.isa_terms.proofs.Typed.{type_of_typed}
use Rattle.isa_terms.proofs.Bare.{tm_decides}
use Rattle.isa_terms.proofs.Composing.{Covers}
use Rattle.isa_unify.specs.TypeUnification.{ty_has, tys_have, entries_under}
use Rattle.isa_unify.specs.Unification.{with_types, with_unknowns}
use Rattle.isa_unify.specs.Matching.{has_unknown, have_unknown, is_that, is_fixed, AreSettled, IsSettled}
use Rattle.isa_unify.specs.Calls.{AreOnce}
use Rattle.isa_unify.specs.Constants.{with_all_types, with_all_unknowns, constants_of}
use Rattle.isa_unify.proofs.Tests.{either_true, key_true}
use Rattle.isa_unify.proofs.TypeInstances.{inst_nothing}
use Rattle.isa_unify.proofs.Outcomes.{entries_nothing}
use Rattle.isa_unify.proofs.Once.{types_once, unknowns_once}
use Rattle.isa_unify.proofs.PatternMatches.{unknown_true}
use Rattle.isa_unify.proofs.Asked.{HasTypes, HaveTypes, AreThemselves, Grows, TypesIn, TermsThemselves, Asks, AsksTerms, under_ty, types_grown, asks_tm, unknowns_themselves, covers_more, asks_unknowns}

both : {P Q R : Type 0} → P ⊎ Q → (P → R) → (Q → R) → R
both (inl p) f g = f p
both (inr q) f g = g q

abbrev CoversAll : List TermEntry → List Tm → Type 0
CoversAll us [] = Unit {0}
CoversAll us (t ∷ ts) = Covers us t × CoversAll us ts

abbrev TypesInAll : List TypeEntry → List Tm → Type 0
TypesInAll us [] = Unit {0}
TypesInAll us (t ∷ ts) = TypesIn us t × TypesInAll us ts

asks_all : (es : List TypeEntry) (ts : List Tm) → Asks es (with_all_types es ts) (λ us. TypesInAll us ts)
asks_all es [] = record { selves = λ h. h; grows = λ y j h. h; has = tt }
asks_all es (t ∷ ts) =
    let us = with_types es t in
    let a = asks_tm es t in
    let b = asks_all us ts in
    record {
      selves = λ h. b.selves (a.selves h);
      grows = λ y j h. b.grows y j (a.grows y j h);
      has = (types_grown us (with_all_types us ts) b.grows t a.has, b.has);
    }

all_themselves : (us : List TypeEntry) (fs : List TermEntry) (ts : List Tm) → TypesInAll us ts → TermsThemselves us fs → TermsThemselves us (with_all_unknowns fs ts)
all_themselves us fs [] h k = k
all_themselves us fs (t ∷ ts) h k = all_themselves us (with_unknowns fs t) ts h.1 (unknowns_themselves us fs t h.0 k)

-- ---- the start
mutual
  types_there : (es : List TypeEntry) (T : Ty) → HasTypes es T → (x : List ℕ) (i : ℕ) → ty_has x i T ≡ true → is_some (find_type x i es) ≡ true
  types_there es (TyCon c Ts) h x i k = all_types_there es Ts h x i k
  types_there es (TyFixed a) h x i k = absurd (cc)
  types_there es (TyUnknown y j) h x i k = let p = key_true y j x i k in (λ l. is_some (find_type (sym p.0 l) (sym p.1 l) es)) ∙ h

  all_types_there : (es : List TypeEntry) (Ts : Tys) → HaveTypes es Ts → (x : List ℕ) (i : ℕ) → tys_have x i Ts ≡ true → is_some (find_type x i es) ≡ true
  all_types_there es NoTys h x i k = absurd (cc)
  all_types_there es (MoreTys T Ts) h x i k = both (either_true (ty_has x i T) (tys_have x i Ts) k) (λ d. types_there es T h.0 x i d) (λ d. all_types_there es Ts h.1 x i d)

type_stays : (es : List TypeEntry) → AreThemselves es → (T : Ty) → HasTypes es T → T ≡ inst_ty es T
type_stays es s T h = sym (inst_nothing T) ∙ sym (under_ty [] es s T h) ∙ ap (λ us. inst_ty us T) (sym (entries_nothing es))

own_type : (x : List ℕ) (i : ℕ) (T : Ty) → HasType (Unknown x i T) T
own_type x i T = let d : Typed [] (Unknown x i T) T = TUnknown in type_of_typed d

themselves_settled : (es : List TypeEntry) (fs : List TermEntry) → AreThemselves es → TermsThemselves es fs → AreSettled es fs
themselves_settled es [] s h = tt
themselves_settled es (f ∷ fs) s h =
    ((subst IsNormal (sym h.0.0) tt, subst (λ t. HasType t (inst_ty es f.typ)) (sym h.0.0) (subst (HasType (Unknown f.name f.number f.typ)) (type_stays es s f.typ h.0.1) (own_type f.name f.number f.typ)), types_there es f.typ h.0.1), themselves_settled es fs s h.1)

pub constants_settled : (ts : List Tm) → IsSettled (constants_of ts)
constants_settled ts =
    let a = asks_all [] ts in
    themselves_settled (with_all_types [] ts) (with_all_unknowns [] ts) (a.selves tt) (all_themselves (with_all_types [] ts) [] ts a.has tt)

-- ---- each counts as a constant
found_itself : (es : List TypeEntry) (fs : List TermEntry) → TermsThemselves es fs → (x : List ℕ) (i : ℕ) (T : Ty) → is_some (find_term x i T fs) ≡ true → is_that (find_term x i T fs) (Unknown x i T) ≡ true
found_itself es [] s x i T h = absurd (cc)
found_itself es (f ∷ fs) s x i T h = go (name_eq x f.name && (nat_eq i f.number && ty_eq T f.typ)) refl h (λ k. found_itself es fs s.1 x i T k)
  where
    go : (b : Bool) → (name_eq x f.name && (nat_eq i f.number && ty_eq T f.typ)) ≡ b → is_some (cond b (Some f.term) (find_term x i T fs)) ≡ true → (is_some (find_term x i T fs) ≡ true → is_that (find_term x i T fs) (Unknown x i T) ≡ true) → is_that (cond b (Some f.term) (find_term x i T fs)) (Unknown x i T) ≡ true
    go true e k ih =
        let p = unknown_true x i T f.name f.number f.typ e in
        let same : f.term ≡ Unknown x i T = s.0.0 ∙ λ l. Unknown (sym p.0 l) (sym p.1 l) (sym p.2 l) in
        (tm_decides f.term (Unknown x i T)).1 (ap bare same)
    go false e k ih = ih k

all_covered : (fs : List TermEntry) (ts : List Tm) → AsksTerms fs (with_all_unknowns fs ts) (λ us. CoversAll us ts)
all_covered fs [] = record { grows = λ y j U h. h; has = tt }
all_covered fs (t ∷ ts) =
    let gs = with_unknowns fs t in
    let a = asks_unknowns fs t in
    let b = all_covered gs ts in
    record {
      grows = λ y j U h. b.grows y j U (a.grows y j U h);
      has = (covers_more gs (with_all_unknowns gs ts) b.grows t a.has, b.has);
    }

covers_there : (fs : List TermEntry) (x : List ℕ) (i : ℕ) (T : Ty) (t : Tm) → Covers fs t → has_unknown x i T t ≡ true → is_some (find_term x i T fs) ≡ true
covers_there fs x i T (Const c U) h k = absurd (cc)
covers_there fs x i T (Free c U) h k = absurd (cc)
covers_there fs x i T (Bound n) h k = absurd (cc)
covers_there fs x i T (Abs c U b) h k = covers_there fs x i T b h k
covers_there fs x i T (App f a) h k = both (either_true (has_unknown x i T f) (has_unknown x i T a) k) (λ d. covers_there fs x i T f h.0 d) (λ d. covers_there fs x i T a h.1 d)
covers_there fs x i T (Unknown y j U) h k = let p = unknown_true x i T y j U k in (λ l. is_some (find_term (p.0 l) (p.1 l) (p.2 l) fs)) ∙ h

all_there : (fs : List TermEntry) (x : List ℕ) (i : ℕ) (T : Ty) (ts : List Tm) → CoversAll fs ts → have_unknown x i T ts ≡ true → is_some (find_term x i T fs) ≡ true
all_there fs x i T [] h k = absurd (cc)
all_there fs x i T (t ∷ ts) h k = both (either_true (has_unknown x i T t) (have_unknown x i T ts) k) (λ d. covers_there fs x i T t h.0 d) (λ d. all_there fs x i T ts h.1 d)

pub constants_fixed : (ts : List Tm) (x : List ℕ) (i : ℕ) (T : Ty) → have_unknown x i T ts ≡ true → is_fixed (constants_of ts) x i T ≡ true
constants_fixed ts x i T h =
    let a = asks_all [] ts in
    found_itself (with_all_types [] ts) (with_all_unknowns [] ts) (all_themselves (with_all_types [] ts) [] ts a.has tt) x i T (all_there (with_all_unknowns [] ts) x i T ts (all_covered [] ts).has h)

-- ---- one entry for each
all_types_once : (es : List TypeEntry) (ts : List Tm) → Once same_type_unknown es → Once same_type_unknown (with_all_types es ts)
all_types_once es [] o = o
all_types_once es (t ∷ ts) o = all_types_once (with_types es t) ts (types_once es t o)

all_unknowns_once : (fs : List TermEntry) (ts : List Tm) → Once same_unknown fs → Once same_unknown (with_all_unknowns fs ts)
all_unknowns_once fs [] o = o
all_unknowns_once fs (t ∷ ts) o = all_unknowns_once (with_unknowns fs t) ts (unknowns_once fs t o)

pub constants_once : (ts : List Tm) (us : List TypeEntry) (fs : List TermEntry) → us ≡ with_all_types [] ts → fs ≡ with_all_unknowns [] ts → AreOnce us fs
constants_once ts us fs e f = record {
  types = subst (Once same_type_unknown) (sym e) (all_types_once [] ts tt);
  terms = subst (Once same_unknown) (sym f) (all_unknowns_once [] ts tt);
}

-- ---- what the call answers
pub settled_answer : {E : Type 0} (ts : List Tm) (r : Result Instance E) → IfOk r (λ s. s ≡ constants_of ts) → IfOk r (λ s. IsSettled s)
settled_answer ts r h = IfOk-weaker r (λ s. s ≡ constants_of ts) (λ s. IsSettled s) (λ s e. subst (λ (q : Instance). IsSettled q) (sym e) (constants_settled ts)) h

pub fixed_answer : {E : Type 0} (ts : List Tm) (r : Result Instance E) → IfOk r (λ s. s ≡ constants_of ts) → IfOk r (λ s. (x : List ℕ) (i : ℕ) (T : Ty) → have_unknown x i T ts ≡ true → is_fixed s x i T ≡ true)
fixed_answer ts r h =
    IfOk-weaker r (λ s. s ≡ constants_of ts) (λ s. (x : List ℕ) (i : ℕ) (T : Ty) → have_unknown x i T ts ≡ true → is_fixed s x i T ≡ true)
    (λ s e x i T k. ap (λ (q : Instance). is_fixed q x i T) e ∙ constants_fixed ts x i T k) h
