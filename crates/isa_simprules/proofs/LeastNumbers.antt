-- Of one number more than there are unknowns, one is not taken.
use Rattle.std.specs.Prelude.{◌||◌, ◌&&◌}
use Rattle.std.proofs.Common.{◌≡◌, ℕ, zero, suc, ◌+◌, ◌<◌, ◌≤◌, nat_eq, List, [], ◌∷◌, length, Bool, true, false, cond, refl, sym, ap, ◌∙◌, arith}
use Rattle.std.proofs.lemmas.Bool.Decides.{nat_tests}
use Rattle.isa_terms.specs.Types.{Ty, TyCon, TyFixed, TyUnknown}
use Rattle.isa_terms.specs.Terms.{Tm, Const, Free, Unknown, Bound, Abs, App}
use Rattle.isa_terms.specs.Equal.{name_eq}
use Rattle.isa_simprules.specs.Numbers.{is_numbered, is_taken, is_type_numbered, is_type_taken, first_free, least_number, least_type_number, IsLeastFree, NumbersAreLeast}

abbrev one : Bool → ℕ
one true = 1
one false = 0

-- how many of m numbers from i on are taken
abbrev count : (ℕ → Bool) → ℕ → ℕ → ℕ
count taken zero i = 0
count taken (suc m) i = one (taken i) + count taken m (i + 1)

one_or : (a b : Bool) → one (a || b) ≤ one a + one b
one_or true true = omega arith
one_or true false = omega arith
one_or false true = omega arith
one_or false false = omega arith

count_or : (p q : ℕ → Bool) (m i : ℕ) → count (λ j. p j || q j) m i ≤ count p m i + count q m i
count_or p q zero i = omega arith
count_or p q (suc m) i = let a = one_or (p i) (q i) in let b = count_or p q m (i + 1) in omega (arith, a, b)

-- a test that holds of one number at most
record OnlyAt (p : ℕ → Bool) (j : ℕ) : Type 0 where
  only : (i : ℕ) → p i ≡ true → i ≡ j

count_past : (p : ℕ → Bool) (j m i : ℕ) → OnlyAt p j → j < i → count p m i ≡ 0
count_past p j zero i h e = refl
count_past p j (suc m) i h e = go (p i) refl (count_past p j m (i + 1) h (omega (arith, e)))
  where
    go : (b : Bool) → p i ≡ b → count p m (i + 1) ≡ 0 → one b + count p m (i + 1) ≡ 0
    go true d k = let n = h.only i d in absurd (omega (arith, n, e))
    go false d k = omega (arith, k)

count_one : (p : ℕ → Bool) (j m i : ℕ) → OnlyAt p j → count p m i ≤ 1
count_one p j zero i h = omega arith
count_one p j (suc m) i h = go (p i) refl (count_one p j m (i + 1) h)
  where
    go : (b : Bool) → p i ≡ b → count p m (i + 1) ≤ 1 → one b + count p m (i + 1) ≤ 1
    go true d r = let k = h.only i d in let n = count_past p j m (i + 1) h (omega (arith, k)) in omega (arith, n)
    go false d r = omega (arith, r)

and_true : (a b : Bool) → (a && b) ≡ true → b ≡ true
and_true true b e = e
and_true false b e = cc

eq_of : (i j : ℕ) → nat_eq i j ≡ true → i ≡ j
eq_of i j e = grind (arith, nat_tests, e)

-- the number of an unknown
abbrev number : Tm → ℕ
number (Unknown y j T) = j
number t = 0

only_numbered : (x : List ℕ) (u : Tm) → OnlyAt (λ i. is_numbered x i u) (number u)
only_numbered x (Unknown y j T) = record { only = λ i e. eq_of i j (and_true (name_eq x y) (nat_eq i j) e) }
only_numbered x (Const c T) = record { only = λ i e. cc }
only_numbered x (Free a T) = record { only = λ i e. cc }
only_numbered x (Bound n) = record { only = λ i e. cc }
only_numbered x (Abs y T b) = record { only = λ i e. cc }
only_numbered x (App f a) = record { only = λ i e. cc }

count_none : (m i : ℕ) → count (λ j. false) m i ≡ 0
count_none zero i = refl
count_none (suc m) i = let k = count_none m (i + 1) in omega (arith, k)

count_taken : (us : List Tm) (x : List ℕ) (m i : ℕ) → count (λ j. is_taken us x j) m i ≤ length us
count_taken [] x m i = let k = count_none m i in omega (arith, k)
count_taken (u ∷ us) x m i =
    let a = count_or (λ j. is_numbered x j u) (λ j. is_taken us x j) m i in
    let b = count_one (λ j. is_numbered x j u) (number u) m i (only_numbered x u) in
    let c = count_taken us x m i in
    omega (arith, a, b, c)

abbrev type_number : Ty → ℕ
type_number (TyUnknown y j) = j
type_number T = 0

only_type_numbered : (x : List ℕ) (U : Ty) → OnlyAt (λ i. is_type_numbered x i U) (type_number U)
only_type_numbered x (TyUnknown y j) = record { only = λ i e. eq_of i j (and_true (name_eq x y) (nat_eq i j) e) }
only_type_numbered x (TyCon c Ts) = record { only = λ i e. cc }
only_type_numbered x (TyFixed a) = record { only = λ i e. cc }

count_type_taken : (Us : List Ty) (x : List ℕ) (m i : ℕ) → count (λ j. is_type_taken Us x j) m i ≤ length Us
count_type_taken [] x m i = let k = count_none m i in omega (arith, k)
count_type_taken (U ∷ Us) x m i =
    let a = count_or (λ j. is_type_numbered x j U) (λ j. is_type_taken Us x j) m i in
    let b = count_one (λ j. is_type_numbered x j U) (type_number U) m i (only_type_numbered x U) in
    let c = count_type_taken Us x m i in
    omega (arith, a, b, c)

-- a number that is found is free, or all that were tried are taken
record Found (taken : ℕ → Bool) (n i : ℕ) : Type 0 where
  from : i ≤ first_free taken n i
  least : (j : ℕ) → i ≤ j → j < first_free taken n i → taken j ≡ true
  free : taken (first_free taken n i) ≡ true → count taken (suc n) i ≡ suc n

found : (taken : ℕ → Bool) (n i : ℕ) → Found taken n i
found taken zero i = record { from = omega arith; least = λ j a b. absurd (omega (arith, a, b)); free = λ e. let d : one (taken i) ≡ 1 = ap one e in omega (arith, d) }
found taken (suc n) i = go (taken i) refl (found taken n (i + 1))
  where
    pick : (j : ℕ) → taken i ≡ true → Found taken n (i + 1) → i ≤ j → j < first_free taken n (i + 1) → (b : Bool) → nat_eq i j ≡ b → taken j ≡ true
    pick j e f a b true d = ap taken (sym (eq_of i j d)) ∙ e
    pick j e f a b false d = let ne : i < j = grind (arith, nat_tests, d, a) in f.least j (omega (arith, ne)) b

    go : (b : Bool) → taken i ≡ b → Found taken n (i + 1) → Found taken (suc n) i
    go true e f =
        let q : first_free taken (suc n) i ≡ first_free taken n (i + 1) = ap (λ b. cond b (first_free taken n (i + 1)) i) e in
        let fr = f.from in
        record {
          from = omega (arith, q, fr);
          least = λ j a b. pick j e f a (omega (arith, q, b)) (nat_eq i j) refl;
          free = λ d. let k = f.free (sym (ap taken q) ∙ d) in let o : one (taken i) ≡ 1 = ap one e in omega (arith, k, o);
        }
    go false e f =
        let q : first_free taken (suc n) i ≡ i = ap (λ b. cond b (first_free taken n (i + 1)) i) e in
        record {
          from = omega (arith, q);
          least = λ j a b. absurd (omega (arith, q, a, b));
          free = λ d. let z : taken i ≡ true = sym (ap taken q) ∙ d in let w : true ≡ false = sym z ∙ e in cc;
        }

least_free : (taken : ℕ → Bool) (n : ℕ) → count taken (suc n) 0 ≤ n → IsLeastFree taken (first_free taken n 0)
least_free taken n h = record {
  free = go (taken (first_free taken n 0)) refl;
  least = λ j b. (found taken n 0).least j (omega arith) b;
}
  where
    go : (b : Bool) → taken (first_free taken n 0) ≡ b → taken (first_free taken n 0) ≡ false
    go true e = let k = (found taken n 0).free e in absurd (omega (arith, k, h))
    go false e = e

pub numbers_are_least : NumbersAreLeast
numbers_are_least = (λ us x. least_free (is_taken us x) (length us) (count_taken us x (suc (length us)) 0), λ Us x. least_free (is_type_taken Us x) (length Us) (count_type_taken Us x (suc (length Us)) 0))
