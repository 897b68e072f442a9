-- The first place that decides, and what it says of an instance that makes `?F xs` equal to the term.
use Rattle.std.proofs.Common.{◌≡◌, ◌≢◌, inl, inr, ℕ, suc, ◌+◌, ◌<◌, ◌≤◌, List, [], ◌∷◌, ◌++◌, map, filter, length, Bool, true, false, cond, not, ◌&&◌, ◌||◌, nat_eq, nat_lt, Option, Some, None, refl, sym, ap, ◌∙◌, subst, arith}
use Rattle.std.specs.Prelude.{option_map, option_and_then, unwrap_or}
use Rattle.std.specs.List.{slice_get}
use Rattle.std.proofs.lemmas.Bool.Decides.{nat_tests}
use Rattle.isa_terms.specs.Types.{Ty, TyCon, NoTys}
use Rattle.isa_terms.specs.Terms.{Tm, Const, Free, Unknown, Bound, Abs, App}
use Rattle.isa_terms.specs.Typing.{function_of}
use Rattle.isa_terms.specs.Replace.{raise, replace}
use Rattle.isa_terms.specs.Norm.{loose, eta}
use Rattle.isa_terms.specs.Typed.{Typed, TBound}
use Rattle.isa_terms.proofs.Typed.{unloose}
use Rattle.isa_terms.proofs.Unique.{app_typed}
use Rattle.isa_terms.proofs.Heads.{IsSpine, IsRigid}
use Rattle.isa_terms.proofs.Loose.{or_false}
use Rattle.isa_terms.proofs.Abstracting.{on_bounds, Absent, AreDistinct, Among, arrow, AreKnown}
use Rattle.isa_unify.specs.Spines.{head_of, args_of, is_flexible, has_number, are_distinct, bounds_of, if_distinct, distinct_bounds}
use Rattle.isa_unify.proofs.Unknowns.{Key, key, or_right}

-- ---- numbers in lists
pub among_has : (ns : List ℕ) (j : ℕ) → has_number ns j ≡ true → Among j ns
among_has [] j h = absurd (cc)
among_has (n ∷ ns) j h = go (nat_eq n j) refl h (λ g. among_has ns j g)
  where
    go : (b : Bool) → nat_eq n j ≡ b → (b || has_number ns j) ≡ true → (has_number ns j ≡ true → Among j ns) → Among j (n ∷ ns)
    go true e h r = let q : j ≡ n = grind (arith, nat_tests) in inl q
    go false e h r = inr (r h)

pub has_among : (ns : List ℕ) (j : ℕ) → Among j ns → has_number ns j ≡ true
has_among [] j h = absurd h
has_among (n ∷ ns) j (inl e) = let t : nat_eq n j ≡ true = grind (arith, nat_tests) in ap (λ b. b || has_number ns j) t
has_among (n ∷ ns) j (inr h) = or_right (nat_eq n j) (has_number ns j) (has_among ns j h)

absent_not : (ns : List ℕ) (n : ℕ) → has_number ns n ≡ false → Absent n ns
absent_not [] n h = tt
absent_not (m ∷ ms) n h =
    let o = or_false (nat_eq m n) (has_number ms n) h in
    (let e : nat_eq n m ≡ false = grind (arith, nat_tests, o.0) in e, absent_not ms n o.1)

pub distinct_are : (ns : List ℕ) → are_distinct ns ≡ true → AreDistinct ns
distinct_are [] h = tt
distinct_are (n ∷ ns) h = go (has_number ns n) refl h (λ g. distinct_are ns g)
  where
    go : (b : Bool) → has_number ns n ≡ b → (not b && are_distinct ns) ≡ true → (are_distinct ns ≡ true → AreDistinct ns) → AreDistinct (n ∷ ns)
    go true e h r = absurd (cc)
    go false e h r = (absent_not ns n e, r h)

pub filter_front : (p : ℕ → Bool) (ns : List ℕ) (j : ℕ) → Among j (filter p ns) → Among j ns × (p j ≡ true)
filter_front p [] j h = absurd h
filter_front p (n ∷ ns) j h = go (p n) refl h (λ g. filter_front p ns j g)
  where
    go : (b : Bool) → p n ≡ b → Among j (cond b (n ∷ filter p ns) (filter p ns)) → (Among j (filter p ns) → Among j ns × (p j ≡ true)) → Among j (n ∷ ns) × (p j ≡ true)
    go true e (inl q) r = (inl q, ap p q ∙ e)
    go true e (inr g) r = let k = r g in (inr k.0, k.1)
    go false e g r = let k = r g in (inr k.0, k.1)

pub filter_has : (p : ℕ → Bool) (ns : List ℕ) (j : ℕ) → Among j ns → p j ≡ true → Among j (filter p ns)
filter_has p [] j h t = absurd h
filter_has p (n ∷ ns) j h t = go (p n) refl h (λ g. filter_has p ns j g t)
  where
    go : (b : Bool) → p n ≡ b → Among j (n ∷ ns) → (Among j ns → Among j (filter p ns)) → Among j (cond b (n ∷ filter p ns) (filter p ns))
    go true e (inl q) r = inl q
    go true e (inr g) r = inr (r g)
    go false e (inl q) r = let f : p j ≡ false = ap p q ∙ e in absurd (cc)
    go false e (inr g) r = r g

filter_absent : (p : ℕ → Bool) (ns : List ℕ) (n : ℕ) → Absent n ns → Absent n (filter p ns)
filter_absent p [] n h = tt
filter_absent p (m ∷ ms) n h = go (p m) (filter_absent p ms n h.1)
  where
    go : (b : Bool) → Absent n (filter p ms) → Absent n (cond b (m ∷ filter p ms) (filter p ms))
    go true k = (h.0, k)
    go false k = k

pub filter_distinct : (p : ℕ → Bool) (ns : List ℕ) → AreDistinct ns → AreDistinct (filter p ns)
filter_distinct p [] h = tt
filter_distinct p (n ∷ ns) h = go (p n) (filter_distinct p ns h.1)
  where
    go : (b : Bool) → AreDistinct (filter p ns) → AreDistinct (cond b (n ∷ filter p ns) (filter p ns))
    go true k = (filter_absent p ns n h.0, k)
    go false k = k

filter_le : (p : ℕ → Bool) (ns : List ℕ) → length (filter p ns) ≤ length ns
filter_le p [] = omega arith
filter_le p (n ∷ ns) = go (p n) (filter_le p ns)
  where
    go : (b : Bool) → length (filter p ns) ≤ length ns → length (cond b (n ∷ filter p ns) (filter p ns)) ≤ suc (length ns)
    go true k = omega arith
    go false k = omega arith

-- where as many are left, all are
pub filter_all : (p : ℕ → Bool) (ns : List ℕ) → length (filter p ns) ≡ length ns → (j : ℕ) → Among j ns → p j ≡ true
filter_all p [] e j h = absurd h
filter_all p (n ∷ ns) e j h = go (p n) refl e h (filter_le p ns) (λ k g. filter_all p ns k j g)
  where
    go : (b : Bool) → p n ≡ b → length (cond b (n ∷ filter p ns) (filter p ns)) ≡ suc (length ns) → Among j (n ∷ ns) → length (filter p ns) ≤ length ns → (length (filter p ns) ≡ length ns → Among j ns → p j ≡ true) → p j ≡ true
    go true t e (inl q) le r = ap p q ∙ t
    go true t e (inr g) le r = r (omega arith) g
    go false t e g le r = absurd (omega arith)

-- ---- terms that are applied to variables
record IsLast (ts : List Tm) (a : Tm) (ys : List ℕ) : Type 0 where
  front : List ℕ
  last : ℕ
  whole : ys ≡ front ++ last ∷ []
  fronts : ts ≡ map Bound front
  is : a ≡ Bound last

last_of : (ts : List Tm) (a : Tm) (ys : List ℕ) → ts ++ a ∷ [] ≡ map Bound ys → IsLast ts a ys
last_of [] a [] e = absurd (cc)
last_of [] a (y ∷ []) e = let q : a ≡ Bound y = cc in record { front = []; last = y; whole = refl; fronts = refl; is = q }
last_of [] a (y ∷ (z ∷ zs)) e = absurd (cc)
last_of (t ∷ ts) a [] e = absurd (cc)
last_of (t ∷ ts) a (y ∷ ys) e =
    let q : t ≡ Bound y = cc in
    let r = last_of ts a ys (tails e) in
    record { front = y ∷ r.front; last = r.last; whole = ap (λ zs. y ∷ zs) r.whole; fronts = λ i. q i ∷ r.fronts i; is = r.is }
  where
    tails : {t u : Tm} {ts us : List Tm} → t ∷ ts ≡ u ∷ us → ts ≡ us
    tails e = cc

on_bounds_snoc : (h : Tm) (ns : List ℕ) (n : ℕ) → on_bounds h (ns ++ n ∷ []) ≡ App (on_bounds h ns) (Bound n)
on_bounds_snoc h [] n = refl
on_bounds_snoc h (m ∷ ms) n = on_bounds_snoc (App h (Bound m)) ms n

pub applied_is : (t : Tm) (ys : List ℕ) → args_of t ≡ map Bound ys → t ≡ on_bounds (head_of t) ys
applied_is (App f a) ys e =
    let l = last_of (args_of f) a ys e in
    (λ i. App (applied_is f l.front l.fronts i) (l.is i)) ∙ sym (on_bounds_snoc (head_of f) l.front l.last) ∙ ap (on_bounds (head_of f)) (sym l.whole)
applied_is (Const x T) [] e = refl
applied_is (Free x T) [] e = refl
applied_is (Unknown x i T) [] e = refl
applied_is (Bound n) [] e = refl
applied_is (Abs x T b) [] e = refl
applied_is (Const x T) (y ∷ ys) e = absurd (cc)
applied_is (Free x T) (y ∷ ys) e = absurd (cc)
applied_is (Unknown x i T) (y ∷ ys) e = absurd (cc)
applied_is (Bound n) (y ∷ ys) e = absurd (cc)
applied_is (Abs x T b) (y ∷ ys) e = absurd (cc)

bounds_are : (ts : List Tm) (ys : List ℕ) → bounds_of ts ≡ Some ys → ts ≡ map Bound ys
bounds_are [] ys e = let q : [] ≡ ys = cc in ap (map Bound) q
bounds_are (Bound n ∷ ts) ys e = go (bounds_of ts) refl e (λ zs k. bounds_are ts zs k)
  where
    go : (o : Option (List ℕ)) → bounds_of ts ≡ o → option_map (λ ns. n ∷ ns) o ≡ Some ys → ((zs : List ℕ) → bounds_of ts ≡ Some zs → ts ≡ map Bound zs) → Bound n ∷ ts ≡ map Bound ys
    go None p k ih = absurd (cc)
    go (Some zs) p k ih = let q : n ∷ zs ≡ ys = cc in ap (λ us. Bound n ∷ us) (ih zs p) ∙ ap (map Bound) q
bounds_are (Const x T ∷ ts) ys e = absurd (cc)
bounds_are (Free x T ∷ ts) ys e = absurd (cc)
bounds_are (Unknown x i T ∷ ts) ys e = absurd (cc)
bounds_are (Abs x T b ∷ ts) ys e = absurd (cc)
bounds_are (App f a ∷ ts) ys e = absurd (cc)

-- distinct variables
pub record AreBounds (ts : List Tm) (ys : List ℕ) : Type 0 where
  pub are : ts ≡ map Bound ys
  pub distinct : AreDistinct ys

pub distinct_bounds_are : (ts : List Tm) (ys : List ℕ) → distinct_bounds ts ≡ Some ys → AreBounds ts ys
distinct_bounds_are ts ys e = go (bounds_of ts) refl e
  where
    test : (zs : List ℕ) (b : Bool) → are_distinct zs ≡ b → bounds_of ts ≡ Some zs → cond b (Some zs) None ≡ Some ys → AreBounds ts ys
    test zs true t p k = let q : zs ≡ ys = cc in record { are = bounds_are ts ys (p ∙ ap Some q); distinct = subst AreDistinct q (distinct_are zs t) }
    test zs false t p k = absurd (cc)

    go : (o : Option (List ℕ)) → bounds_of ts ≡ o → option_and_then if_distinct o ≡ Some ys → AreBounds ts ys
    go None p k = absurd (cc)
    go (Some zs) p k = test zs (are_distinct zs) refl p k

-- the type of the variable of that number
abbrev pub typ_in : List Ty → ℕ → Ty
typ_in G n = unwrap_or (slice_get G n) (TyCon [] NoTys)

abbrev pub no_names : ℕ → List ℕ
no_names n = []

pub bounds_typed : (N : ℕ → List ℕ) {G : List Ty} (h : Tm) (ys : List ℕ) {U : Ty} → Typed G (on_bounds h ys) U → AreKnown N (typ_in G) G ys × Typed G h (arrow N (typ_in G) ys U)
bounds_typed N h [] d = (tt, d)
bounds_typed N {G} h (y ∷ ys) {U} d =
    let p = bounds_typed N (App h (Bound y)) ys d in
    let q = app_typed p.1 in
    let g : slice_get G y ≡ Some q.0 = own q.2 in
    let s : typ_in G y ≡ q.0 = ap (λ o. unwrap_or o (TyCon [] NoTys)) g in
    ((g ∙ ap Some (sym s), p.0), subst (λ S. Typed G h (function_of S (arrow N (typ_in G) ys U))) (sym s) q.1)
  where
    own : {G : List Ty} {n : ℕ} {T : Ty} → Typed G (Bound n) T → slice_get G n ≡ Some T
    own (TBound g) = g

-- ---- eta and loose variables
loose_eta_bound : (x : List ℕ) (S : Ty) (f : Tm) (i k : ℕ) (b c : Bool) → nat_eq i 0 ≡ b → loose 0 f ≡ c → loose k (cond b (cond c (Abs x S (App f (Bound i))) (replace f (Bound 0))) (Abs x S (App f (Bound i)))) ≡ loose (k + 1) (App f (Bound i))
loose_eta_bound x S f i k false c h l = refl
loose_eta_bound x S f i k true true h l = refl
loose_eta_bound x S f i k true false h l =
    let z : nat_eq i (k + 1) ≡ false = grind (arith, nat_tests) in
    raised_loose (replace f (Bound 0)) k 0 (omega arith) ∙ ap (loose (k + 1)) (unloose (Bound 0) 0 f l) ∙ sym (or_none (loose (k + 1) f) (nat_eq i (k + 1)) z)
  where
    or_none : (a b : Bool) → b ≡ false → (a || b) ≡ a
    or_none true b e = refl
    or_none false b e = e

    raised_bound : (i k j : ℕ) (b : Bool) → nat_lt i j ≡ b → j ≤ k → nat_eq i k ≡ loose (k + 1) (cond b (Bound i) (Bound (i + 1)))
    raised_bound i k j true h le = let lt : i < j = grind (arith, nat_tests) in let p : nat_eq i k ≡ false = grind (arith, nat_tests) in let q : nat_eq i (k + 1) ≡ false = grind (arith, nat_tests) in p ∙ sym q
    raised_bound i k j false h le = test (nat_eq i k) (nat_eq (i + 1) (k + 1)) refl refl
      where
        test : (a b : Bool) → nat_eq i k ≡ a → nat_eq (i + 1) (k + 1) ≡ b → a ≡ b
        test true true p q = refl
        test false false p q = refl
        test true false p q = let e : i ≡ k = grind (arith, nat_tests) in let n : i + 1 ≢ k + 1 = grind (arith, nat_tests) in absurd (omega arith)
        test false true p q = let e : i ≢ k = grind (arith, nat_tests) in let n : i + 1 ≡ k + 1 = grind (arith, nat_tests) in absurd (omega arith)

    raised_loose : (t : Tm) (k j : ℕ) → j ≤ k → loose k t ≡ loose (k + 1) (raise 1 j t)
    raised_loose (Const x T) k j le = refl
    raised_loose (Free x T) k j le = refl
    raised_loose (Unknown x i T) k j le = refl
    raised_loose (Bound i) k j le = raised_bound i k j (nat_lt i j) refl le
    raised_loose (Abs x T b) k j le = raised_loose b (k + 1) (j + 1) (omega arith)
    raised_loose (App f a) k j le = λ i. raised_loose f k j le i || raised_loose a k j le i

pub loose_eta : (x : List ℕ) (S : Ty) (b : Tm) (k : ℕ) → loose k (eta x S b) ≡ loose (k + 1) b
loose_eta x S (App f (Bound i)) k = loose_eta_bound x S f i k (nat_eq i 0) (loose 0 f) refl refl
loose_eta x S (App f (Const y U)) k = refl
loose_eta x S (App f (Free y U)) k = refl
loose_eta x S (App f (Unknown y i U)) k = refl
loose_eta x S (App f (Abs y U b)) k = refl
loose_eta x S (App f (App g a)) k = refl
loose_eta x S (Const y U) k = refl
loose_eta x S (Free y U) k = refl
loose_eta x S (Unknown y i U) k = refl
loose_eta x S (Bound i) k = refl
loose_eta x S (Abs y U b) k = refl

-- ---- spines
pub stiff : (t : Tm) → IsSpine t → is_flexible t ≡ false → IsRigid t
stiff (App f a) h e = stiff f h e
stiff (Const x T) h e = tt
stiff (Free x T) h e = tt
stiff (Bound n) h e = tt
stiff (Unknown x i T) h e = absurd (cc)
stiff (Abs x T b) h e = absurd h

abbrev pub flexible_head : Tm → Key
flexible_head (App f a) = flexible_head f
flexible_head (Unknown x i T) = key x i T
flexible_head (Const x T) = key x 0 T
flexible_head (Free x T) = key x 0 T
flexible_head (Bound n) = key [] n (TyCon [] NoTys)
flexible_head (Abs x T b) = key x 0 T

abbrev pub unknown : Key → Tm
unknown k = Unknown k.name k.number k.typ

pub flexible_is : (t : Tm) (e : is_flexible t ≡ true) → head_of t ≡ unknown (flexible_head t)
flexible_is (App f a) e = flexible_is f e
flexible_is (Unknown x i T) e = refl
flexible_is (Const x T) e = absurd (cc)
flexible_is (Free x T) e = absurd (cc)
flexible_is (Bound n) e = absurd (cc)
flexible_is (Abs x T b) e = absurd (cc)
