-- Lists of entries as maps, and the places of their items.
use Rattle.std.proofs.Common.{◌≡◌, ℕ, suc, ◌+◌, ◌-◌, ◌<◌, ◌≤◌, List, [], ◌∷◌, ◌++◌, Bool, true, false, ◌||◌, cond, Some, None, Result, Ok, Err, OnOk, OnErr, length, refl, sym, ap, ◌∙◌, subst, arith, Decides}
use Rattle.std.proofs.Math.ListN.{set}
use Rattle.std.proofs.lemmas.Bool.Decides.{Decides-and, Decides-like, Decides-eqb, same_from_decides}
use Rattle.std.specs.Cmp.Lexicographic.{bytes_decides}
use Rattle.isa_terms.specs.Types.{Ty}
use Rattle.isa_terms.specs.declared.inst.TypeEntry.{TypeEntry}
use Rattle.isa_terms.specs.declared.inst.TermEntry.{TermEntry}
use Rattle.isa_terms.specs.Instance.{same_type_unknown, same_unknown, set_type, set_term}
use Rattle.isa_terms.specs.Entries.{set_first, first_place, passes, Once}
use Rattle.isa_terms.proofs.Equal.{ty_decides}

last_here : {A : Type 0} (test : A → Bool) (a e : A) (k : ℕ) (es : List A) → (b : Bool) → cond b (Some k) (first_place test (k + 1) es) ≡ None → (first_place test (k + 1) es ≡ None → set_first test a es ≡ es ++ a ∷ []) → cond b (a ∷ es) (e ∷ set_first test a es) ≡ e ∷ (es ++ a ∷ [])
last_here test a e k es true h rest = cc
last_here test a e k es false h rest = ap (λ r. e ∷ r) (rest h)

-- where no item passes the test the new one stands last
pub set_last : {A : Type 0} (test : A → Bool) (a : A) (k : ℕ) (es : List A) → first_place test k es ≡ None → set_first test a es ≡ es ++ a ∷ []
set_last test a k [] h = refl
set_last test a k (e ∷ es) h = last_here test a e k es (test e) h (set_last test a (k + 1) es)

-- the place counted from k
record At {A : Type 0} (test : A → Bool) (a : A) (k n : ℕ) (es : List A) : Type 0 where
  from : k ≤ n
  below : n - k < length es
  sets : set es (n - k) a ≡ set_first test a es

at_here : {A : Type 0} (test : A → Bool) (a e : A) (k n : ℕ) (es : List A) → (b : Bool) → test e ≡ b → cond b (Some k) (first_place test (k + 1) es) ≡ Some n → (first_place test (k + 1) es ≡ Some n → At test a (k + 1) n es) → At test a k n (e ∷ es)
at_here test a e k n es true t h rest =
    let same : k ≡ n = cc in
    let none : n - k ≡ 0 = omega arith in
    record { from = omega arith; below = omega arith; sets = rw (none, t) refl }
at_here test a e k n es false t h rest =
    let there = rest h in
    let less : n - k ≡ suc (n - (k + 1)) = omega (arith, there.from) in
    record { from = omega (arith, there.from); below = rw less (omega (arith, there.below)); sets = rw (less, t) (ap (λ r. e ∷ r) there.sets) }

place_at : {A : Type 0} (test : A → Bool) (a : A) (k n : ℕ) (es : List A) → first_place test k es ≡ Some n → At test a k n es
place_at test a k n [] h = absurd (cc)
place_at test a k n (e ∷ es) h = at_here test a e k n es (test e) refl h (place_at test a (k + 1) n es)

pub place_within : {A : Type 0} (test : A → Bool) (n : ℕ) (es : List A) → first_place test 0 es ≡ Some n → n < length es
place_within test n [] h = absurd (cc)
place_within test n (e ∷ es) h = omega (arith, (place_at test e 0 n (e ∷ es) h).below)

pub set_at_place : {A : Type 0} (test : A → Bool) (a : A) (n : ℕ) (es : List A) → first_place test 0 es ≡ Some n → set es n a ≡ set_first test a es
set_at_place test a n es h = let e : n - 0 ≡ n = omega arith in rw e at (place_at test a 0 n es h).sets

-- two tests are the same where each says that the keys are equal
record Keyed {A B : Type 0} (same : A → A → Bool) (key : A → B) : Type 0 where
  decides : (a b : A) → Decides (same a b) (key a ≡ key b)

same_turned : {A B : Type 0} {same : A → A → Bool} {key : A → B} → Keyed same key → (a b : A) → same a b ≡ same b a
same_turned {same} k a b = same_from_decides (same a b) (same b a) (k.decides a b) (Decides-like _ (λ e. sym e) (λ e. sym e) (k.decides b a))

same_like : {A B : Type 0} {same : A → A → Bool} {key : A → B} → Keyed same key → (a b c : A) → same a b ≡ true → same a c ≡ same b c
same_like {same} k a b c t =
    let e = (k.decides a b).0 t in
    same_from_decides (same a c) (same b c) (k.decides a c) (Decides-like _ (λ f. e ∙ f) (λ f. sym e ∙ f) (k.decides b c))

passes_like : {A : Type 0} (p q : A → Bool) → ((x : A) → p x ≡ q x) → (es : List A) → passes p es ≡ passes q es
passes_like p q h [] = refl
passes_like p q h (e ∷ es) = λ i. h e i || passes_like p q h es i

set_passes_here : {A : Type 0} (p test : A → Bool) (a e : A) (es : List A) → (b c : Bool) → p e ≡ c → p a ≡ false → (c || passes p es) ≡ false → (passes p es ≡ false → passes p (set_first test a es) ≡ false) → passes p (cond b (a ∷ es) (e ∷ set_first test a es)) ≡ false
set_passes_here p test a e es b true t n h rest = absurd (cc)
set_passes_here p test a e es true false t n h rest = rw n h
set_passes_here p test a e es false false t n h rest = rw t (rest h)

set_passes : {A : Type 0} (p test : A → Bool) (a : A) (es : List A) → p a ≡ false → passes p es ≡ false → passes p (set_first test a es) ≡ false
set_passes p test a [] n h = rw n refl
set_passes p test a (e ∷ es) n h = set_passes_here p test a e es (test e) (p e) refl n h (set_passes p test a es n)

once_here : {A B : Type 0} {same : A → A → Bool} {key : A → B} → Keyed same key → (a e : A) (es : List A) → (b : Bool) → same a e ≡ b → Once same (e ∷ es) → Once same (set_first (same a) a es) → Once same (cond b (a ∷ es) (e ∷ set_first (same a) a es))
once_here {same} k a e es true t h rest = (passes_like (same a) (same e) (λ x. same_like k a e x t) es ∙ h.0, h.1)
once_here {same} k a e es false t h rest = (set_passes (same e) (same a) a es (same_turned k e a ∙ t) h.0, rest)

once_set : {A B : Type 0} {same : A → A → Bool} {key : A → B} → Keyed same key → (a : A) (es : List A) → Once same es → Once same (set_first (same a) a es)
once_set k a [] h = (refl, tt)
once_set {same} k a (e ∷ es) h = once_here k a e es (same a e) refl h (once_set k a es h.1)

type_keyed : Keyed {B = List ℕ × ℕ} same_type_unknown (λ e. (e.name, e.number))
type_keyed = record { decides = λ a b. Decides-like _ (λ p i. (p.0 i, p.1 i)) (λ e. (ap (λ k. k.0) e, ap (λ k. k.1) e)) (Decides-and _ _ (bytes_decides a.name b.name) (Decides-eqb a.number b.number)) }

term_keyed : Keyed {B = List ℕ × ℕ × Ty} same_unknown (λ e. (e.name, e.number, e.typ))
term_keyed =
    record { decides = λ a b. Decides-like _ (λ p i. (p.0 i, p.1.0 i, p.1.1 i)) (λ e. (ap (λ k. k.0) e, (ap (λ k. k.1) e, ap (λ k. k.2) e))) (Decides-and _ _ (bytes_decides a.name b.name) (Decides-and _ _ (Decides-eqb a.number b.number) (ty_decides a.typ b.typ))) }

-- an entry is set in a map, or the map is as it was
pub types_once : {V E : Type 0} (e : TypeEntry) (old new : List TypeEntry) (r : Result V E) → OnOk r (new ≡ set_type e old) → OnErr r (new ≡ old) → Once same_type_unknown old → Once same_type_unknown new
types_once e old new (Ok v) ok err h = subst (Once same_type_unknown) (sym ok) (once_set type_keyed e old h)
types_once e old new (Err f) ok err h = subst (Once same_type_unknown) (sym err) h

pub terms_once : {V E : Type 0} (e : TermEntry) (old new : List TermEntry) (r : Result V E) → OnOk r (new ≡ set_term e old) → OnErr r (new ≡ old) → Once same_unknown old → Once same_unknown new
terms_once e old new (Ok v) ok err h = subst (Once same_unknown) (sym ok) (once_set term_keyed e old h)
terms_once e old new (Err f) ok err h = subst (Once same_unknown) (sym err) h
