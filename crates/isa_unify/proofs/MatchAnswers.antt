-- What matching answers is the one match, and where it answers none there is none.
use Rattle.std.proofs.Common.{◌≡◌, ℕ, zero, suc, List, [], ◌∷◌, ◌++◌, Bool, true, false, ◌&&◌, ◌||◌, not, nat_eq, refl, sym, ap, subst, ◌∙◌, cond, ◌⊎◌, inl, inr, Option, Some, None, is_some, option_map, Ok, Err, arith}
use Rattle.std.specs.List.{slice_get}
use Rattle.std.proofs.lemmas.Bool.Decides.{nat_tests}
use Rattle.isa_terms.specs.Types.{Ty}
use Rattle.isa_terms.specs.Terms.{Tm, Const, Free, Unknown, Bound, Abs, App, bare}
use Rattle.isa_terms.specs.Typing.{HasType}
use Rattle.isa_terms.specs.Norm.{norm}
use Rattle.isa_terms.specs.Normal.{IsHead, IsNormal}
use Rattle.isa_terms.specs.Order.{head_of}
use Rattle.isa_terms.specs.Pattern.{is_unknown, is_argument, is_new_bound, distinct_args, is_pattern}
use Rattle.isa_terms.specs.Instance.{Instance, find_type, find_term, inst_ty, inst_tm}
use Rattle.isa_terms.specs.Typed.{Typed, TConst, TFree, TUnknown, TBound, TAbs, TApp}
use Rattle.isa_terms.proofs.Typed.{typed_of_type}
use Rattle.isa_terms.proofs.Conv.{right_typed, norm_conv}
use Rattle.isa_terms.proofs.NormalForms.{norm_same}
use Rattle.isa_terms.proofs.Instances.{inst_typed}
use Rattle.isa_terms.proofs.Heads.{one_type}
use Rattle.isa_terms.proofs.Unique.{conv_norm}
use Rattle.isa_unify.specs.TypeUnification.{ty_has}
use Rattle.isa_unify.specs.Matching.{Flexible, flexible, applied, is_fixed, is_open, is_pattern_from, matched, ty_matched, has_unknown, has_type_unknown, closed_type, match_from, match_of, IsAsked, IsMatch, DoesAs, IsTheMatch, ◌>>=◌}
use Rattle.isa_unify.proofs.Tests.{both_true, and_true, or_left, or_right, either_true, neither_true, same_test, some_same}
use Rattle.isa_unify.proofs.TypeMatches.{types_within_self, ty_finds, ty_completes}
use Rattle.isa_unify.proofs.Flexible.{has_number, are_distinct, IsSpread, IsStiff, IsPattern}
use Rattle.isa_unify.proofs.PatternMatches.{terms_within_self, AllGood, good_kept, good_normal, sound}
use Rattle.isa_unify.proofs.PatternComplete.{Agrees, Covers, completes}

-- ---- patterns by their parts
number_other : (m n : ℕ) → nat_eq m n ≡ false → nat_eq n m ≡ false
number_other m n h = grind (arith, nat_tests)

not_false : (b : Bool) → b ≡ false → not b ≡ true
not_false true h = absurd (cc)
not_false false h = refl

not_true : (b : Bool) → not b ≡ true → b ≡ false
not_true true h = absurd (cc)
not_true false h = refl

none_either : (a b : Bool) → a ≡ false → b ≡ false → (a || b) ≡ false
none_either true b h k = absurd (cc)
none_either false b h k = k

has_last : (ns : List ℕ) (n m : ℕ) → has_number ns m ≡ false → nat_eq n m ≡ false → has_number (ns ++ n ∷ []) m ≡ false
has_last [] n m h k = none_either (nat_eq n m) false k refl
has_last (j ∷ ns) n m h k = let p = neither_true (nat_eq j m) (has_number ns m) h in none_either (nat_eq j m) (has_number (ns ++ n ∷ []) m) p.0 (has_last ns n m p.1 k)

distinct_last : (ns : List ℕ) (n : ℕ) → are_distinct ns ≡ true → has_number ns n ≡ false → are_distinct (ns ++ n ∷ []) ≡ true
distinct_last [] n d h = refl
distinct_last (m ∷ ns) n d h =
    let p = both_true (not (has_number ns m)) (are_distinct ns) d in
    let q = neither_true (nat_eq m n) (has_number ns n) h in
    and_true (not (has_number (ns ++ n ∷ []) m)) (are_distinct (ns ++ n ∷ [])) (not_false (has_number (ns ++ n ∷ []) m) (has_last ns n m (not_true (has_number ns m) p.0) (number_other m n q.0))) (distinct_last ns n p.1 q.1)

record IsSpreadOut (f : Tm) : Type 0 where
  head : Flexible
  is : flexible f ≡ Some head
  distinct : are_distinct head.args ≡ true
  only : (i : ℕ) → is_argument i f ≡ false → has_number head.args i ≡ false

spread_app : (f a : Tm) → IsSpreadOut f → is_new_bound f a ≡ true → IsSpreadOut (App f a)
spread_app f (Bound n) s h =
    let g = s.head in
    record {
      head = record g { args = g.args ++ n ∷ [] };
      is = ap (λ o. applied o (Bound n)) s.is;
      distinct = distinct_last g.args n s.distinct (s.only n (not_true (is_argument n f) h));
      only = λ i k. let p = neither_true (nat_eq i n) (is_argument i f) k in has_last g.args n i (s.only i p.1) (number_other i n p.0);
    }
spread_app f (Const c T) s h = absurd (cc)
spread_app f (Free c T) s h = absurd (cc)
spread_app f (Unknown c i T) s h = absurd (cc)
spread_app f (Abs c T b) s h = absurd (cc)
spread_app f (App c b) s h = absurd (cc)

spread : (f : Tm) → is_unknown (head_of f) ≡ true → distinct_args f ≡ true → IsSpreadOut f
spread (Unknown x i T) u d = record { head = record { name = x; number = i; typ = T; args = [] }; is = refl; distinct = refl; only = λ i h. refl }
spread (App f a) u d = let p = both_true (is_new_bound f a) (distinct_args f) d in spread_app f a (spread f u p.1) p.0
spread (Const c T) u d = absurd (cc)
spread (Free c T) u d = absurd (cc)
spread (Bound n) u d = absurd (cc)
spread (Abs x T b) u d = absurd (cc)

stiff_of : (s : Instance) (f : Tm) → IsHead f → IsNormal f → is_open s (head_of f) ≡ false → IsStiff s f
stiff_of s (Const c T) h n u = tt
stiff_of s (Free c T) h n u = tt
stiff_of s (Bound k) h n u = tt
stiff_of s (Unknown x i T) h n u = not_so (is_fixed s x i T) u
  where
    not_so : (b : Bool) → not b ≡ false → b ≡ true
    not_so true e = refl
    not_so false e = absurd (cc)
stiff_of s (Abs x T b) h n u = absurd h
stiff_of s (App f a) h n u = stiff_of s f n.0 n.1.0 u

spread_out : (p : Tm) → IsSpreadOut p → IsSpread p
spread_out p h = record { head = h.head; is = h.is; distinct = h.distinct }

open_unknown : (s : Instance) (t : Tm) → is_open s t ≡ true → is_unknown t ≡ true
open_unknown s (Unknown x i T) h = refl
open_unknown s (Const c T) h = absurd (cc)
open_unknown s (Free c T) h = absurd (cc)
open_unknown s (Bound n) h = absurd (cc)
open_unknown s (Abs x T b) h = absurd (cc)
open_unknown s (App f a) h = absurd (cc)

not_open : (s : Instance) (t : Tm) → is_unknown t ≡ false → is_open s t ≡ false
not_open s (Unknown x i T) h = absurd (cc)
not_open s (Const c T) h = refl
not_open s (Free c T) h = refl
not_open s (Bound n) h = refl
not_open s (Abs x T b) h = refl
not_open s (App f a) h = refl

app_pattern_from : (s : Instance) (f a : Tm) (c : Bool) → is_open s (head_of f) ≡ c → cond c (distinct_args (App f a)) (is_pattern_from s f && is_pattern_from s a) ≡ true → IsHead f → IsNormal f → (is_pattern_from s f ≡ true → IsPattern s f) → (is_pattern_from s a ≡ true → IsPattern s a) → IsPattern s (App f a)
app_pattern_from s f a true u h hd n pf pa = inl (spread_out (App f a) (spread (App f a) (open_unknown s (head_of f) u) h))
app_pattern_from s f a false u h hd n pf pa = let p = both_true (is_pattern_from s f) (is_pattern_from s a) h in inr (stiff_of s f hd n u, (pf p.0, pa p.1))

-- a pattern, but for what counts as a constant
pub pattern_parts_from : (s : Instance) (p : Tm) → IsNormal p → is_pattern_from s p ≡ true → IsPattern s p
pattern_parts_from s (Const c T) n h = tt
pattern_parts_from s (Free c T) n h = tt
pattern_parts_from s (Unknown x i T) n h = tt
pattern_parts_from s (Bound k) n h = tt
pattern_parts_from s (Abs x T b) n h = pattern_parts_from s b n.0 h
pattern_parts_from s (App f a) n h = app_pattern_from s f a (is_open s (head_of f)) refl h n.0 n.1.0 (pattern_parts_from s f n.1.0) (pattern_parts_from s a n.1.1)

app_pattern : (s : Instance) (f a : Tm) (c : Bool) → is_unknown (head_of f) ≡ c → cond c (distinct_args (App f a)) (is_pattern f && is_pattern a) ≡ true → IsHead f → IsNormal f → (is_pattern f ≡ true → IsPattern s f) → (is_pattern a ≡ true → IsPattern s a) → IsPattern s (App f a)
app_pattern s f a true u h hd n pf pa = inl (spread_out (App f a) (spread (App f a) u h))
app_pattern s f a false u h hd n pf pa = let p = both_true (is_pattern f) (is_pattern a) h in inr (stiff_of s f hd n (not_open s (head_of f) u), (pf p.0, pa p.1))

pub pattern_parts : (s : Instance) (p : Tm) → IsNormal p → is_pattern p ≡ true → IsPattern s p
pattern_parts s (Const c T) n h = tt
pattern_parts s (Free c T) n h = tt
pattern_parts s (Unknown x i T) n h = tt
pattern_parts s (Bound k) n h = tt
pattern_parts s (Abs x T b) n h = pattern_parts s b n.0 h
pattern_parts s (App f a) n h = app_pattern s f a (is_unknown (head_of f)) refl h n.0 n.1.0 (pattern_parts s f n.1.0) (pattern_parts s a n.1.1)

-- ---- the type unknowns of a term's type stand in the term
abbrev in_context : List ℕ → ℕ → List Ty → Bool
in_context x i [] = false
in_context x i (S ∷ G) = ty_has x i S || in_context x i G

context_has : (x : List ℕ) (i : ℕ) (G : List Ty) (n : ℕ) (T : Ty) → slice_get G n ≡ Some T → ty_has x i T ≡ true → in_context x i G ≡ true
context_has x i [] n T e h = absurd (cc)
context_has x i (S ∷ G) zero T e h = or_left (ty_has x i S) (in_context x i G) (ap (ty_has x i) (some_same e) ∙ h)
context_has x i (S ∷ G) (suc n) T e h = or_right (ty_has x i S) (in_context x i G) (context_has x i G n T e h)

type_has : {G : List Ty} {t : Tm} {T : Ty} → Typed G t T → (x : List ℕ) (i : ℕ) → ty_has x i T ≡ true → (has_type_unknown x i t ≡ true) ⊎ (in_context x i G ≡ true)
type_has TConst x i h = inl h
type_has TFree x i h = inl h
type_has TUnknown x i h = inl h
type_has (TBound {G} {n} {T} e) x i h = inr (context_has x i G n T e h)
type_has (TAbs {G} {x = y} {S} {T} {b} d) x i h = go (either_true (ty_has x i S) (ty_has x i T || false) h) (λ k. type_has d x i k)
  where
    none_or : (b : Bool) → (b || false) ≡ true → b ≡ true
    none_or true h = refl
    none_or false h = h

    bound : (c : Bool) → (ty_has x i S || c) ≡ true → ((ty_has x i S || has_type_unknown x i b) ≡ true) ⊎ (c ≡ true)
    bound c h = elim (either_true (ty_has x i S) c h) [ inl k ↦ inl (or_left (ty_has x i S) (has_type_unknown x i b) k) | inr k ↦ inr k ]

    inner : (has_type_unknown x i b ≡ true) ⊎ ((ty_has x i S || in_context x i G) ≡ true) → ((ty_has x i S || has_type_unknown x i b) ≡ true) ⊎ (in_context x i G ≡ true)
    inner (inl k) = inl (or_right (ty_has x i S) (has_type_unknown x i b) k)
    inner (inr k) = bound (in_context x i G) k

    go : (ty_has x i S ≡ true) ⊎ ((ty_has x i T || false) ≡ true) → (ty_has x i T ≡ true → (has_type_unknown x i b ≡ true) ⊎ ((ty_has x i S || in_context x i G) ≡ true)) → ((ty_has x i S || has_type_unknown x i b) ≡ true) ⊎ (in_context x i G ≡ true)
    go (inl k) ih = inl (or_left (ty_has x i S) (has_type_unknown x i b) k)
    go (inr k) ih = inner (ih (none_or (ty_has x i T) k))
type_has (TApp {G} {S} {T} {f} {a} d e) x i h =
    go (type_has d x i (or_right (ty_has x i S) (ty_has x i T || false) (or_left (ty_has x i T) false h)))
  where
    go : (has_type_unknown x i f ≡ true) ⊎ (in_context x i G ≡ true) → ((has_type_unknown x i f || has_type_unknown x i a) ≡ true) ⊎ (in_context x i G ≡ true)
    go (inl k) = inl (or_left (has_type_unknown x i f) (has_type_unknown x i a) k)
    go (inr k) = inr k

pub closed_type_has : {t : Tm} {T : Ty} → Typed [] t T → (x : List ℕ) (i : ℕ) → ty_has x i T ≡ true → has_type_unknown x i t ≡ true
closed_type_has {t} d x i h = go (type_has d x i h)
  where
    go : (has_type_unknown x i t ≡ true) ⊎ (false ≡ true) → has_type_unknown x i t ≡ true
    go (inl k) = k
    go (inr k) = absurd (cc)

-- ---- the steps of the definition
abbrev nothing : Instance
nothing = record { types = []; terms = [] }

closed_is : (t : Tm) (T : Ty) → HasType t T → closed_type t ≡ Some T
closed_is t T h = ap (λ r. elim r [ Ok T ↦ Some T | Err fault ↦ None ]) h

pub steps_from : (s : Instance) (p t : Tm) (A B : Ty) → HasType p A → HasType t B → match_from s p t ≡ (ty_matched s A B >>= λ q. matched [] q p t)
steps_from s p t A B d e =
    ap (λ o. o >>= λ T. (closed_type t >>= λ U. (ty_matched s T U >>= λ q. matched [] q p t))) (closed_is p A d)
    ∙ ap (λ o. o >>= λ U. (ty_matched s A U >>= λ q. matched [] q p t)) (closed_is t B e)

pub from_steps : (s : Instance) (p t : Tm) → (k : IsAsked p t) → match_from s p t ≡ (ty_matched s k.pattern_type k.term_type >>= λ q. matched [] q p t)
from_steps s p t k = steps_from s p t k.pattern_type k.term_type k.pattern_typed k.term_typed

-- ---- where there is a match, it agrees with what is found
agrees : (p t : Tm) (r : Instance) → IsAsked p t → IsMatch p t r → (q : Instance) × (match_of p t ≡ Some q) × Agrees q r
agrees p t r k m =
    let dp = typed_of_type [] p k.pattern_type k.pattern_typed in
    let dt = typed_of_type [] t k.term_type k.term_typed in
    let whole : Typed [] (inst_tm r.types r.terms p) (inst_ty r.types k.pattern_type) = inst_typed r.types r.terms m.kept dp in
    let e : inst_ty r.types k.pattern_type ≡ k.term_type = one_type (right_typed (norm_conv whole)) dt m.gives in
    let cov : Covers r p = record { types = λ x i h. m.types x i ∙ h; terms = λ x i T h. m.terms x i T ∙ h } in
    let first = ty_completes k.pattern_type k.term_type nothing r.types (record { keeps = λ x i A h. absurd (cc) }) (λ x i h. cov.types x i (closed_type_has dp x i h)) e in
    let found = ty_finds k.pattern_type k.term_type nothing first.0 first.1 in
    let a : Agrees first.0 r = record { types = first.2; terms = λ x i T u h. let n : None ≡ Some u = ap (find_term x i T) (sym found.terms) ∙ h in absurd (cc) } in
    let rest = completes p t [] [] k.pattern_type k.term_type first.0 r (subst (AllGood first.0.types) (sym found.terms) tt, pattern_parts first.0 p k.pattern_normal k.pattern) k.normal dp dt tt (inr found.fit) cov m.kept a m.gives in
    (rest.0, from_steps nothing p t k ∙ ap (λ o. o >>= λ s. matched [] s p t) first.1 ∙ rest.1, rest.2)

pub no_match : (p t : Tm) → match_of p t ≡ None → IsAsked p t → (s : Instance) → IsMatch p t s → ⊥
no_match p t e k s m =
    let a = agrees p t s k m in
    let c : None ≡ Some a.0 = sym e ∙ a.1 in
    absurd (cc)

-- ---- what is found is the match
is_match : (p t : Tm) (q s : Instance) → (k : IsAsked p t) → ty_matched nothing k.pattern_type k.term_type ≡ Some q → matched [] q p t ≡ Some s → IsMatch p t s × AllGood s.types s.terms
is_match p t q s k f h =
    let dp = typed_of_type [] p k.pattern_type k.pattern_typed in
    let dt = typed_of_type [] t k.term_type k.term_typed in
    let types = ty_finds k.pattern_type k.term_type nothing q f in
    let found = sound p t [] [] k.pattern_type k.term_type q s (subst (AllGood q.types) (sym types.terms) tt, pattern_parts q p k.pattern_normal k.pattern) k.normal dp dt tt (inr types.fit) h in
    let good = found.good (subst (AllGood q.types) (sym types.terms) tt) in (
      record {
        types = λ x i. same_test (is_some (find_type x i s.types)) (has_type_unknown x i p) (λ e. at_types x i dp (found.only_types x i e) (types.only x i)) (found.types x i);
        terms = λ x i T. same_test (is_some (find_term x i T s.terms)) (has_unknown x i T p) (λ e. at_terms x i T types.terms (found.only_terms x i T e)) (found.terms x i T);
        kept = good_kept s.types s.terms good;
        gives = conv_norm (found.gives s (types_within_self s.types) (terms_within_self s.terms)) ∙ ap bare (norm_same t k.normal);
      },
      good,
    )
  where
    at_first : (x : List ℕ) (i : ℕ) → Typed [] p k.pattern_type → (false ≡ true) ⊎ (ty_has x i k.pattern_type ≡ true) → has_type_unknown x i p ≡ true
    at_first x i d (inl e) = absurd (cc)
    at_first x i d (inr e) = closed_type_has d x i e

    at_types : (x : List ℕ) (i : ℕ) → Typed [] p k.pattern_type → (is_some (find_type x i q.types) ≡ true) ⊎ (has_type_unknown x i p ≡ true) → (is_some (find_type x i q.types) ≡ true → (false ≡ true) ⊎ (ty_has x i k.pattern_type ≡ true)) → has_type_unknown x i p ≡ true
    at_types x i d (inl e) u = at_first x i d (u e)
    at_types x i d (inr e) u = e

    at_terms : (x : List ℕ) (i : ℕ) (T : Ty) → q.terms ≡ [] → (is_some (find_term x i T q.terms) ≡ true) ⊎ (has_unknown x i T p ≡ true) → has_unknown x i T p ≡ true
    at_terms x i T n (inl e) = let c : false ≡ true = ap (λ fs. is_some (find_term x i T fs)) (sym n) ∙ e in absurd (cc)
    at_terms x i T n (inr e) = e

pub none_of : {A : Type 0} (o : Option A) → is_some o ≡ false → o ≡ None
none_of None h = refl
none_of (Some u) h = absurd (cc)

does_as : (p t : Tm) (s r : Instance) → IsMatch p t s → IsMatch p t r → Agrees s r → DoesAs s r
does_as p t s r m n a = record {
  types = λ x i. at_type x i (find_type x i s.types) refl;
  terms = λ x i T. at_term x i T (find_term x i T s.terms) refl;
}
  where
    at_type : (x : List ℕ) (i : ℕ) (o : Option Ty) → find_type x i s.types ≡ o → find_type x i r.types ≡ o
    at_type x i (Some A) e = a.types.keeps x i A e
    at_type x i None e = none_of (find_type x i r.types) (n.types x i ∙ sym (m.types x i) ∙ ap is_some e)

    at_term : (x : List ℕ) (i : ℕ) (T : Ty) (o : Option Tm) → find_term x i T s.terms ≡ o → option_map (λ u. bare (norm u)) (find_term x i T r.terms) ≡ option_map bare o
    at_term x i T (Some u) e = let v = a.terms x i T u e in ap (option_map (λ u. bare (norm u))) v.1 ∙ ap Some v.2
    at_term x i T None e = ap (option_map (λ u. bare (norm u))) (none_of (find_term x i T r.terms) (n.terms x i T ∙ sym (m.terms x i T) ∙ ap is_some e))

the_match : (p t : Tm) (s : Instance) → match_of p t ≡ Some s → (k : IsAsked p t) → (o : Option Instance) → ty_matched nothing k.pattern_type k.term_type ≡ o → (o >>= λ q. matched [] q p t) ≡ Some s → IsTheMatch p t s
the_match p t s w k None f h = absurd (cc)
the_match p t s w k (Some q) f h =
    let m = is_match p t q s k f h in
    record {
      is = m.0;
      normal = λ x i T u e. good_normal s.types s.terms x i T u m.1 e;
      only = λ r n. let a = agrees p t r k n in does_as p t s r m.0 n (subst (λ z. Agrees z r) (some_same (sym a.1 ∙ w)) a.2);
    }

pub found_match : (p t : Tm) (s : Instance) → match_of p t ≡ Some s → IsAsked p t → IsTheMatch p t s
found_match p t s w k = the_match p t s w k (ty_matched nothing k.pattern_type k.term_type) refl (sym (from_steps nothing p t k) ∙ w)
