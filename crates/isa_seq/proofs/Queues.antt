-- States by measure and age: what is added comes last, and what is taken is the least.
use Rattle.std.proofs.Common.{◌≡◌, ℕ, ◌≤◌, ◌<◌, ◌==◌, ◌||◌, ◌&&◌, not, ◌⊎◌, inl, inr, nat_lt, Bool, true, false, if◌then◌else◌, Option, Some, None, IfSome, IfNone, Result, Ok, Err, OnOk, OnErr, List, [], ◌∷◌, ◌++◌, map, refl, sym, ◌∙◌, ap, subst, arith}
use Rattle.std.specs.Prelude.{All}
use Rattle.std.specs.declared.cmp.Ordering.{Ordering}
use Rattle.std.specs.declared.cmp.Ordering.TheVariants.{Less, Equal, Greater}
use Rattle.std.specs.Ordering.{nat_cmp, ordering_then, match_ordering}
use Rattle.std.specs.Ordering.{is_le, is_gt}
use Rattle.std.specs.declared.ops.Bound.TheVariants.{Included, Excluded}
use Rattle.std.specs.BTreeMap.{insert_entry}
use Rattle.std.specs.BTreeMap.Range.{range_contains, entries_between}
use Rattle.std.specs.Map.{keys_of, values_of}
use Rattle.std.specs.List.{AllByRecursion}
use Rattle.std.proofs.lemmas.Cmp.{ranked}
use Rattle.std.proofs.lemmas.Bool.Decides.{nat_tests}
use Rattle.std.proofs.lemmas.List.Elements.{recursion_from_All, All-weaker, All-rest}
use Rattle.std.proofs.lemmas.Map.Views.{All-keys-insert_entry}
use Rattle.isa_seq.specs.Searches.{least, has_same}
use Rattle.isa_seq.specs.Meaning.{Primitives}
use Rattle.isa_seq.specs.Queues.{put_by_age, by_age, waiting, of_measure, enqueued, Takes}

abbrev pub Entry : Type 0 → Type 0
Entry S = (ℕ × ℕ) × S

-- the order of the keys
abbrev pub key_cmp : ℕ × ℕ → ℕ × ℕ → Ordering
key_cmp p q = ordering_then (nat_cmp p.0 q.0) (nat_cmp p.1 q.1)

abbrev pub entry_of : {S : Type 0} → Entry S → ℕ × S
entry_of e = (e.0.0, e.1)

-- p comes before q
abbrev pub Before : ℕ × ℕ → ℕ × ℕ → Type 0
Before p q = (p.0 < q.0) ⊎ ((p.0 ≡ q.0) × (p.1 < q.1))

equal_ages : (o o' : Ordering) (a b c d : ℕ) → o ≡ nat_cmp a b → o' ≡ nat_cmp c d → ordering_then o o' ≡ Equal → c ≡ d
equal_ages Less o' a b c d h k e = cc
equal_ages Equal Less a b c d h k e = cc
equal_ages Equal Equal a b c d h k e = ranked c d Equal k
equal_ages Equal Greater a b c d h k e = cc
equal_ages Greater o' a b c d h k e = cc

before : (o o' : Ordering) (a b c d : ℕ) → o ≡ nat_cmp a b → o' ≡ nat_cmp c d → ordering_then o o' ≡ Less → (a < b) ⊎ ((a ≡ b) × (c < d))
before Less o' a b c d h k e = inl (ranked a b Less h)
before Equal Less a b c d h k e = inr (ranked a b Equal h, ranked c d Less k)
before Equal Equal a b c d h k e = cc
before Equal Greater a b c d h k e = cc
before Greater o' a b c d h k e = cc

pub before-from_less : (p q : ℕ × ℕ) → key_cmp p q ≡ Less → Before p q
before-from_less p q h = before (nat_cmp p.0 q.0) (nat_cmp p.1 q.1) p.0 q.0 p.1 q.1 refl refl h

older_test : (a b : ℕ) → b < a → nat_lt a b ≡ false
older_test a b h = grind (arith, nat_tests)

younger_test : (a b : ℕ) → a < b → nat_lt a b ≡ true
younger_test a b h = grind (arith, nat_tests)

put-holds : {S : Type 0} (P : Entry S → Type 0) (e : Entry S) (es : List (Entry S)) → P e → AllByRecursion P es → AllByRecursion P (put_by_age e es)
put-holds P e [] h k = (h, tt)
put-holds {S} P e (d ∷ es) h k = choose (nat_lt e.0.1 d.0.1) (put-holds P e es h k.1)
  where
    choose : (b : Bool) → AllByRecursion P (put_by_age e es) → AllByRecursion P (if b then e ∷ d ∷ es else d ∷ put_by_age e es)
    choose true j = (h, k)
    choose false j = (k.0, j)

by_age-holds : {S : Type 0} (P : Entry S → Type 0) (es : List (Entry S)) → AllByRecursion P es → AllByRecursion P (by_age es)
by_age-holds P [] h = tt
by_age-holds P (e ∷ es) h = put-holds P e (by_age es) h.0 (by_age-holds P es h.1)

put-last : {S : Type 0} (e : Entry S) (es : List (Entry S)) → AllByRecursion (λ d. d.0.1 < e.0.1) es → put_by_age e es ≡ es ++ e ∷ []
put-last e [] h = refl
put-last e (d ∷ es) h = ap (λ z. if z then e ∷ d ∷ es else d ∷ put_by_age e es) (older_test e.0.1 d.0.1 h.0) ∙ ap (λ z. d ∷ z) (put-last e es h.1)

put-before-last : {S : Type 0} (e : Entry S) (es : List (Entry S)) (z : Entry S) → e.0.1 < z.0.1 → put_by_age e (es ++ z ∷ []) ≡ put_by_age e es ++ z ∷ []
put-before-last e [] z h = ap (λ b. if b then e ∷ z ∷ [] else z ∷ e ∷ []) (younger_test e.0.1 z.0.1 h)
put-before-last {S} e (d ∷ es) z h = choose (nat_lt e.0.1 d.0.1) (put-before-last e es z h)
  where
    choose : (b : Bool) → put_by_age e (es ++ z ∷ []) ≡ put_by_age e es ++ z ∷ [] → (if b then e ∷ d ∷ (es ++ z ∷ []) else d ∷ put_by_age e (es ++ z ∷ [])) ≡ (if b then e ∷ d ∷ es else d ∷ put_by_age e es) ++ z ∷ []
    choose true j = refl
    choose false j = ap (λ y. d ∷ y) j

-- an entry that is younger than all others comes last by age
inserted : {S : Type 0} (es : List (Entry S)) (k : ℕ × ℕ) (s : S) → AllByRecursion (λ d. d.0.1 < k.1) es → by_age (insert_entry key_cmp es k s) ≡ by_age es ++ (k, s) ∷ []
inserted [] k s h = refl
inserted {S} (e ∷ es) k s h = choose (key_cmp k e.0) (inserted es k s h.1) refl
  where
    choose : (o : Ordering) → by_age (insert_entry key_cmp es k s) ≡ by_age es ++ (k, s) ∷ [] → key_cmp k e.0 ≡ o → by_age (match_ordering o ((k, s) ∷ e ∷ es) ((e.0, s) ∷ es) (e ∷ insert_entry key_cmp es k s)) ≡ by_age (e ∷ es) ++ (k, s) ∷ []
    choose Less j i = put-last (k, s) (by_age (e ∷ es)) (by_age-holds (λ (d : Entry S). d.0.1 < k.1) (e ∷ es) h)
    choose Equal j i = let same : k.1 ≡ e.0.1 = equal_ages (nat_cmp k.0 e.0.0) (nat_cmp k.1 e.0.1) k.0 e.0.0 k.1 e.0.1 refl refl i in absurd (let l : e.0.1 < k.1 = h.0 in omega (arith, same, l))
    choose Greater j i = ap (put_by_age e) j ∙ put-before-last e (by_age es) (k, s) h.0

map-append : {A B : Type 0} (f : A → B) (xs ys : List A) → map f (xs ++ ys) ≡ map f xs ++ map f ys
map-append f [] ys = refl
map-append f (x ∷ xs) ys = ap (λ z. f x ∷ z) (map-append f xs ys)

older-entries : {S : Type 0} (n : ℕ) (es : List (Entry S)) → AllByRecursion (λ k. k.1 < n) (keys_of es) → AllByRecursion (λ (d : Entry S). d.0.1 < n) es
older-entries n [] h = tt
older-entries n (e ∷ es) h = (h.0, older-entries n es h.1)

pub waiting-insert : {S : Type 0} (es new : List (Entry S)) (k : ℕ × ℕ) (s : S) → All (λ q. q.1 < k.1) (keys_of es) → new ≡ insert_entry key_cmp es k s → waiting new ≡ waiting es ++ (k.0, s) ∷ []
waiting-insert es new k s h e =
    ap waiting e ∙ ap (map entry_of) (inserted es k s (older-entries k.1 es (recursion_from_All (λ (q : ℕ × ℕ). q.1 < k.1) (keys_of es) h))) ∙ map-append entry_of (by_age es) ((k, s) ∷ [])

least-bound : {S : Type 0} (n : ℕ) (x : ℕ × S) (xs : List (ℕ × S)) → n ≤ x.0 → AllByRecursion (λ y. n ≤ y.0) xs → n ≤ (least (λ e. e.0) x xs).0.0
least-bound n x [] h k = h
least-bound {S} n x (y ∷ xs) h k = choose (nat_lt (least (λ e. e.0) y xs).0.0 x.0) (least-bound n y xs k.0 k.1)
  where
    choose : (b : Bool) → n ≤ (least (λ e. e.0) y xs).0.0 → n ≤ (let d : (ℕ × S) × List (ℕ × S) = if b then ((least (λ e. e.0) y xs).0, x ∷ (least (λ e. e.0) y xs).1) else (x, y ∷ xs) in d.0.0)
    choose true j = j
    choose false j = h

measures-from : {S : Type 0} (p : ℕ × ℕ) (es : List (Entry S)) → AllByRecursion (λ (d : Entry S). Before p d.0) es → AllByRecursion (λ (y : ℕ × S). p.0 ≤ y.0) (map entry_of es)
measures-from p [] h = tt
measures-from p (e ∷ es) h = (not_less p e.0 h.0, measures-from p es h.1)
  where
    not_less : (p q : ℕ × ℕ) → Before p q → p.0 ≤ q.0
    not_less p q (inl l) = omega arith
    not_less p q (inr l) = omega (arith, l.0)

-- the entry is put among younger and older ones, and is the least by measure and age
record IsTaken {S : Type 0} (e : Entry S) (es : List (Entry S)) (list : List (Entry S)) : Type 0 where
  first : ℕ × S
  others : List (ℕ × S)
  is : map entry_of list ≡ first ∷ others
  taken : least (λ e. e.0) first others ≡ (entry_of e, map entry_of es)

taken-put : {S : Type 0} (e : Entry S) (es : List (Entry S)) → AllByRecursion (λ (d : Entry S). Before e.0 d.0) es → IsTaken e es (put_by_age e es)
taken-put e [] h = record { first = entry_of e; others = []; is = refl; taken = refl }
taken-put {S} e (d ∷ es) h = choose (nat_lt e.0.1 d.0.1) (taken-put e es h.1) refl
  where
    not_before : (p q : ℕ × ℕ) → Before p q → nat_lt p.1 q.1 ≡ false → p.0 < q.0
    not_before p q (inl l) t = l
    not_before p q (inr l) t = absurd (let b : nat_lt p.1 q.1 ≡ true = younger_test p.1 q.1 l.1 in cc)

    not_less : (a b : ℕ) → a ≤ b → nat_lt b a ≡ false
    not_less a b l = grind (arith, nat_tests)

    choose : (b : Bool) → IsTaken e es (put_by_age e es) → nat_lt e.0.1 d.0.1 ≡ b → IsTaken e (d ∷ es) (if b then e ∷ d ∷ es else d ∷ put_by_age e es)
    choose true k t =
        let rest = map entry_of es in
        let bounds = measures-from e.0 (d ∷ es) h in
        let l : e.0.0 ≤ (least (λ e. e.0) (entry_of d) rest).0.0 = least-bound e.0.0 (entry_of d) rest bounds.0 bounds.1 in
        record {
          first = entry_of e;
          others = entry_of d ∷ rest;
          is = refl;
          taken = ap (λ z. if z then ((least (λ e. e.0) (entry_of d) rest).0, entry_of e ∷ (least (λ e. e.0) (entry_of d) rest).1) else (entry_of e, entry_of d ∷ rest)) (not_less e.0.0 (least (λ e. e.0) (entry_of d) rest).0.0 l);
        }
    choose false k t =
        record {
          first = entry_of d;
          others = k.first ∷ k.others;
          is = ap (λ z. entry_of d ∷ z) k.is;
          taken =
              ap (λ (z : (ℕ × S) × List (ℕ × S)). if nat_lt z.0.0 d.0.0 then (z.0, entry_of d ∷ z.1) else (entry_of d, k.first ∷ k.others)) k.taken
              ∙ ap (λ z. if z then (entry_of e, entry_of d ∷ map entry_of es) else (entry_of d, k.first ∷ k.others)) (younger_test e.0.0 d.0.0 (not_before e.0 d.0 h.0 t));
        }

before-entries : {S : Type 0} (p : ℕ × ℕ) (es : List (Entry S)) → AllByRecursion (λ q. key_cmp p q ≡ Less) (keys_of es) → AllByRecursion (λ (d : Entry S). Before p d.0) es
before-entries p [] h = tt
before-entries p (e ∷ es) h = (before-from_less p e.0 h.0, before-entries p es h.1)

pub takes : {S : Type 0} (old new : List (Entry S)) (e : Entry S) → old ≡ e ∷ new → All (λ q. key_cmp e.0 q ≡ Less) (keys_of new) → Takes old e.1 new
takes {S} old new e is h =
    let older = before-entries e.0 new (recursion_from_All (λ q. key_cmp e.0 q ≡ Less) (keys_of new) h) in
    let k = taken-put e (by_age new) (by_age-holds (λ (d : Entry S). Before e.0 d.0) new older) in
    record { first = k.first; others = k.others; measure = e.0.0; waited = ap waiting is ∙ k.is; taken = k.taken }

swap_or : (a b c : Bool) → (b || (a || c)) ≡ (a || (b || c))
swap_or true true c = refl
swap_or true false c = refl
swap_or false true c = refl
swap_or false false c = refl

-- x before y where b holds, and otherwise y alone
abbrev hit : Bool → Bool → Bool → Bool
hit true x y = x || y
hit false x y = y

hit-swap : (b c x y z : Bool) → hit b x (hit c y z) ≡ hit c y (hit b x z)
hit-swap true true x y z = swap_or y x z
hit-swap true false x y z = refl
hit-swap false true x y z = refl
hit-swap false false x y z = refl

has_same-choice : {S : Type 0} (same : S → S → Bool) (r : S) (b : Bool) (s : S) (list : List S) → has_same same r (if b then s ∷ list else list) ≡ hit b (same r s) (has_same same r list)
has_same-choice same r true s list = refl
has_same-choice same r false s list = refl

has_same-put : {S : Type 0} (same : S → S → Bool) (r : S) (n : ℕ) (e : Entry S) (es : List (Entry S)) →
    has_same same r (of_measure n (map entry_of (put_by_age e es))) ≡ hit (e.0.0 == n) (same r e.1) (has_same same r (of_measure n (map entry_of es)))
has_same-put same r n e [] = has_same-choice same r (e.0.0 == n) e.1 []
has_same-put {S} same r n e (d ∷ es) = choose (nat_lt e.0.1 d.0.1) (has_same-put same r n e es)
  where
    choose : (b : Bool) → has_same same r (of_measure n (map entry_of (put_by_age e es))) ≡ hit (e.0.0 == n) (same r e.1) (has_same same r (of_measure n (map entry_of es))) →
        has_same same r (of_measure n (map entry_of (if b then e ∷ d ∷ es else d ∷ put_by_age e es))) ≡ hit (e.0.0 == n) (same r e.1) (has_same same r (of_measure n (map entry_of (d ∷ es))))
    choose true j = has_same-choice same r (e.0.0 == n) e.1 (of_measure n (map entry_of (d ∷ es)))
    choose false j =
        has_same-choice same r (d.0.0 == n) d.1 (of_measure n (map entry_of (put_by_age e es)))
        ∙ ap (hit (d.0.0 == n) (same r d.1)) j
        ∙ hit-swap (d.0.0 == n) (e.0.0 == n) (same r d.1) (same r e.1) (has_same same r (of_measure n (map entry_of es)))
        ∙ ap (hit (e.0.0 == n) (same r e.1)) (sym (has_same-choice same r (d.0.0 == n) d.1 (of_measure n (map entry_of es))))

is_equal : (a b : ℕ) → a ≡ b → (b == a) ≡ true
is_equal a b h = grind (arith, nat_tests)

is_below : (a b : ℕ) → a < b → (b == a) ≡ false
is_below a b h = grind (arith, nat_tests)

is_above : (a b : ℕ) → b < a → (b == a) ≡ false
is_above a b h = grind (arith, nat_tests)

-- the keys of a measure
abbrev of_keys : ℕ → ℕ → ℕ × ℕ → Bool
of_keys n age k = range_contains key_cmp (Included (n, 0)) (Excluded (n, age)) k

least_age : (o : Ordering) (a : ℕ) → o ≡ nat_cmp 0 a → is_le o ≡ true
least_age Less a h = refl
least_age Equal a h = refl
least_age Greater a h = absurd (let l = ranked 0 a Greater h in omega (arith, l))

past_age : (o : Ordering) (age a : ℕ) → a < age → o ≡ nat_cmp age a → is_le o ≡ false
past_age Less age a l h = absurd (let k = ranked age a Less h in omega (arith, k, l))
past_age Equal age a l h = absurd (let k = ranked age a Equal h in omega (arith, k, l))
past_age Greater age a l h = refl

in-range : (n age : ℕ) (k : ℕ × ℕ) → k.1 < age → of_keys n age k ≡ (k.0 == n)
in-range n age k l = choose (nat_cmp n k.0) refl
  where
    choose : (o : Ordering) → o ≡ nat_cmp n k.0 → (is_le (ordering_then o (nat_cmp 0 k.1)) && not (is_le (ordering_then o (nat_cmp age k.1)))) ≡ (k.0 == n)
    choose Less h = sym (is_below n k.0 (ranked n k.0 Less h))
    choose Equal h =
        ap (λ z. z && not (is_le (nat_cmp age k.1))) (least_age (nat_cmp 0 k.1) k.1 refl) ∙ ap not (past_age (nat_cmp age k.1) age k.1 l refl)
        ∙ sym (is_equal n k.0 (ranked n k.0 Equal h))
    choose Greater h = sym (is_above n k.0 (ranked n k.0 Greater h))

-- Of the states that wait those of a measure are asked, by the keys of that measure.
pub has_same-of_measure : {S : Type 0} (same : S → S → Bool) (r : S) (n age : ℕ) (es : List (Entry S)) → AllByRecursion (λ q. q.1 < age) (keys_of es) →
    has_same same r (of_measure n (waiting es)) ≡ has_same same r (values_of (entries_between key_cmp (Included (n, 0)) (Excluded (n, age)) es))
has_same-of_measure same r n age [] h = refl
has_same-of_measure {S} same r n age (e ∷ es) h =
    has_same-put same r n e (by_age es) ∙ ap (hit (e.0.0 == n) (same r e.1)) (has_same-of_measure same r n age es h.1)
    ∙ choose (e.0.0 == n) ∙ ap (λ b. has_same same r (values_of (if b then e ∷ others else others))) (sym (in-range n age e.0 h.0))
  where
    others : List (Entry S)
    others = entries_between key_cmp (Included (n, 0)) (Excluded (n, age)) es

    choose : (b : Bool) → hit b (same r e.1) (has_same same r (values_of others)) ≡ has_same same r (values_of (if b then e ∷ others else others))
    choose true = refl
    choose false = refl

pub forward : (n age : ℕ) → is_gt (key_cmp (n, 0) (n, age)) ≡ false
forward n age = choose (nat_cmp n n) refl (nat_cmp 0 age) refl
  where
    choose : (o : Ordering) → o ≡ nat_cmp n n → (p : Ordering) → p ≡ nat_cmp 0 age → is_gt (ordering_then o p) ≡ false
    choose Less h p k = refl
    choose Greater h p k = absurd (let l = ranked n n Greater h in omega (arith, l))
    choose Equal h Less k = refl
    choose Equal h Equal k = refl
    choose Equal h Greater k = absurd (let l = ranked 0 age Greater k in omega (arith, l))

pub still-older : {S T E : Type 0} (o : Result T E) (es new : List (Entry S)) (n m k : ℕ) (s : S) → n < m → All (λ q. q.1 < n) (keys_of es) → OnOk o (new ≡ insert_entry key_cmp es (k, n) s) → OnErr o (new ≡ es) → All (λ q. q.1 < m) (keys_of new)
still-older {S} (Ok x) es new n m k s l h ok err =
    subst (λ z. All (λ q. q.1 < m) (keys_of z)) (sym ok)
    (All-keys-insert_entry key_cmp (k, n) s (λ q. q.1 < m) es (All-weaker (λ (q : ℕ × ℕ). q.1 < n) (λ q. q.1 < m) (λ q j. omega arith) (keys_of es) h) l)
still-older {S} (Err e) es new n m k s l h ok err =
    subst (λ z. All (λ q. q.1 < m) (keys_of z)) (sym err) (All-weaker (λ (q : ℕ × ℕ). q.1 < n) (λ q. q.1 < m) (λ q j. omega arith) (keys_of es) h)

pub older-popped : {S : Type 0} (o : Option (Entry S)) (es new : List (Entry S)) (n : ℕ) → All (λ q. q.1 < n) (keys_of es) → IfSome o (λ p. es ≡ p ∷ new) → IfNone o (new ≡ es) → All (λ q. q.1 < n) (keys_of new)
older-popped (Some p) es new n h some none = All-rest (λ (q : ℕ × ℕ). q.1 < n) p.0 (keys_of new) (keys_of es) (ap keys_of some) h
older-popped None es new n h some none = subst (λ z. All (λ q. q.1 < n) (keys_of z)) (sym none) h

pub offered-same : {S P : Type 0} (m : Primitives S P) (r : S) (n : ℕ) (es : List (Entry S)) → n ≡ m.measure r → has_same m.same r (of_measure n (waiting es)) ≡ true → waiting es ≡ enqueued m (waiting es) (r ∷ [])
offered-same m r n es e h =
    sym (ap (λ z. if z then waiting es else waiting es ++ (m.measure r, r) ∷ []) (ap (λ z. has_same m.same r (of_measure z (waiting es))) (sym e) ∙ h))

pub offered-new : {S P : Type 0} (m : Primitives S P) (r : S) (n : ℕ) (es new : List (Entry S)) → has_same m.same r (of_measure n (waiting es)) ≡ false → n ≡ m.measure r → waiting new ≡ waiting es ++ (n, r) ∷ [] → waiting new ≡ enqueued m (waiting es) (r ∷ [])
offered-new m r n es new h e k =
    k ∙ ap (λ z. waiting es ++ (z, r) ∷ []) e
    ∙ sym (ap (λ z. if z then waiting es else waiting es ++ (m.measure r, r) ∷ []) (ap (λ z. has_same m.same r (of_measure z (waiting es))) (sym e) ∙ h))

pub OnOk-map : {T E : Type 0} (o : Result T E) (Q R : Type 0) → OnOk o Q → (Q → R) → OnOk o R
OnOk-map (Ok x) Q R h k = k h
OnOk-map (Err e) Q R h k = tt

pub one-waiting : {S P : Type 0} (m : Primitives S P) (n : ℕ) (s : S) (es new : List (Entry S)) → waiting es ≡ [] → n ≡ m.measure s → waiting new ≡ waiting es ++ (n, s) ∷ [] → waiting new ≡ (m.measure s, s) ∷ []
one-waiting m n s es new h e k = k ∙ ap (λ z. z ++ (n, s) ∷ []) h ∙ ap (λ z. (z, s) ∷ []) e
