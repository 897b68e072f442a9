-- Terms that differ have no match.
use Rattle.std.proofs.Common.{◌≡◌, List, [], ◌∷◌, Bool, true, false, not, Option, Some, None, refl, ap, ◌∙◌, inl, inr, ◌⊎◌}
use Rattle.isa_terms.specs.Terms.{Tm, Const, Free, Unknown, Bound, Abs, App}
use Rattle.isa_terms.specs.Equal.{name_eq}
use Rattle.isa_terms.specs.Instance.{Instance}
use Rattle.isa_unify.specs.Matching.{Binder, flexible, applied, typed, solved, matched, ty_matched, closed_type, match_from, all_from, unless_fixed, ◌>>=◌}
use Rattle.isa_unify.proofs.Tests.{either_true}
use Rattle.isa_clash.specs.Differing.{is_named, is_firm, differ, differ_at}
use Rattle.isa_clash.proofs.Lifted.{split_test}
use Rattle.isa_clash.specs.Laws.{Differ, here, under, argument, MatchDifferent}

-- no unknown stands at the head
named_flexible : (t : Tm) → is_named t ≡ true → flexible t ≡ None
named_flexible (Const x T) e = refl
named_flexible (Free x T) e = refl
named_flexible (Unknown x i T) e = absurd (cc)
named_flexible (Bound n) e = absurd (cc)
named_flexible (Abs x T b) e = absurd (cc)
named_flexible (App f a) e = ap (λ o. applied o a) (named_flexible f e)

pub not_true : (b : Bool) → not b ≡ true → b ≡ false
not_true true e = absurd (cc)
not_true false e = refl

of_none : {A B : Type 0} (o : Option A) (f : A → Option B) → o ≡ None → (o >>= f) ≡ None
of_none {A} {B} o f e = ap (λ x. x >>= f) e

to_none : {A B : Type 0} (o : Option A) (f : A → Option B) → ((a : A) → f a ≡ None) → (o >>= f) ≡ None
to_none None f h = refl
to_none (Some a) f h = h a

differ_at_none : (G : List Binder) (s : Instance) (p t : Tm) → is_named p ≡ true → is_firm true t ≡ true → differ_at true p t ≡ true → matched G s p t ≡ None
differ_at_none G s (Const x T) (Const y U) n f e = ap (λ b. typed b s T U) (not_true (name_eq x y) e)
differ_at_none G s (Const x T) (Free y U) n f e = refl
differ_at_none G s (Const x T) (Unknown y j U) n f e = refl
differ_at_none G s (Const x T) (Bound m) n f e = refl
differ_at_none G s (Const x T) (Abs y U c) n f e = refl
differ_at_none G s (Const x T) (App g b) n f e = refl
differ_at_none G s (Free x T) (Const y U) n f e = refl
differ_at_none G s (Free x T) (Free y U) n f e = ap (λ b. typed b s T U) (not_true (name_eq x y) e)
differ_at_none G s (Free x T) (Unknown y j U) n f e = refl
differ_at_none G s (Free x T) (Bound m) n f e = refl
differ_at_none G s (Free x T) (Abs y U c) n f e = refl
differ_at_none G s (Free x T) (App g b) n f e = refl
differ_at_none G s (Unknown x i T) t n f e = absurd (cc)
differ_at_none G s (Bound m) t n f e = absurd (cc)
differ_at_none G s (Abs x T b) t n f e = absurd (cc)
differ_at_none G s (App h a) (App g b) n f e =
    ap (λ o. elim (unless_fixed s o) [ Some k ↦ solved G s k (App g b) | None ↦ matched G s h g >>= (λ r. matched G r a b) ]) (named_flexible (App h a) n) ∙ go (either_true (differ_at true h g) (differ true a b) e) (λ d. differ_at_none G s h g n f d) (λ r m k d. differ_at_none G r a b m k d)
  where
    go : (differ_at true h g ≡ true) ⊎ (differ true a b ≡ true) → (differ_at true h g ≡ true → matched G s h g ≡ None) → ((r : Instance) → is_named a ≡ true → is_firm true b ≡ true → differ_at true a b ≡ true → matched G r a b ≡ None) → (matched G s h g >>= (λ r. matched G r a b)) ≡ None
    go (inl c) i j = of_none (matched G s h g) (λ r. matched G r a b) (i c)
    go (inr c) i j = let p = split_test true a b c in to_none (matched G s h g) (λ r. matched G r a b) (λ r. j r p.0 p.1 p.2)
differ_at_none G s (App h a) (Const y U) n f e = ap (λ o. elim (unless_fixed s o) [ Some k ↦ solved G s k (Const y U) | None ↦ None ]) (named_flexible (App h a) n)
differ_at_none G s (App h a) (Free y U) n f e = ap (λ o. elim (unless_fixed s o) [ Some k ↦ solved G s k (Free y U) | None ↦ None ]) (named_flexible (App h a) n)
differ_at_none G s (App h a) (Unknown y j U) n f e = ap (λ o. elim (unless_fixed s o) [ Some k ↦ solved G s k (Unknown y j U) | None ↦ None ]) (named_flexible (App h a) n)
differ_at_none G s (App h a) (Bound m) n f e = ap (λ o. elim (unless_fixed s o) [ Some k ↦ solved G s k (Bound m) | None ↦ None ]) (named_flexible (App h a) n)
differ_at_none G s (App h a) (Abs y U c) n f e = ap (λ o. elim (unless_fixed s o) [ Some k ↦ solved G s k (Abs y U c) | None ↦ None ]) (named_flexible (App h a) n)

-- behind as many abstractions
different_none : (G : List Binder) (s : Instance) (p t : Tm) → Differ true p t → matched G s p t ≡ None
different_none G s p t (here {t = q} {u = v} e) = let a = split_test true p t e in differ_at_none G s p t a.0 a.1 a.2
different_none G s p t (under {x} {y} {S} {T} {t = q} {u = v} d) = different_none (record { name = x; typ = T } ∷ G) s q v d
different_none G s p t (argument {c} {S} {T} {t = q} {u = v} d) = to_none (matched G s (Const c S) (Const c T)) (λ r. matched G r q v) (λ r. different_none G r q v d)

from_none : (s : Instance) (p t : Tm) → Differ true p t → match_from s p t ≡ None
from_none s p t d = to_none (closed_type p) _ (λ T. to_none (closed_type t) _ (λ U. to_none (ty_matched s T U) _ (λ r. different_none [] r p t d)))

pub differing_have_no_match : (s : Instance) (ps ts : List Tm) → MatchDifferent ps ts → all_from s ps ts ≡ None
differing_have_no_match s [] ts h = absurd h
differing_have_no_match s (p ∷ ps) [] h = absurd h
differing_have_no_match s (p ∷ ps) (t ∷ ts) (inl d) = of_none (match_from s p t) (λ r. all_from r ps ts) (from_none s p t d)
differing_have_no_match s (p ∷ ps) (t ∷ ts) (inr h) = to_none (match_from s p t) (λ r. all_from r ps ts) (λ r. differing_have_no_match r ps ts h)
