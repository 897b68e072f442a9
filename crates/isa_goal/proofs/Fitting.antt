-- The numbers of names fit where there are few; and the number that is found is the least that is free.
use Rattle.std.proofs.Common.{◌≡◌, ℕ, zero, suc, ◌+◌, ◌-◌, ◌*◌, ◌^◌, ◌<◌, ◌≤◌, arith, length, List, [], ◌∷◌, map, Bool, true, false, cond, ◌||◌, nat_eq, refl, sym, ap, ◌∙◌, subst}
use Rattle.std.proofs.lemmas.Bool.Decides.{nat_tests}
use Rattle.isa_terms.specs.Types.{Ty, TyCon, TyFixed, TyUnknown}
use Rattle.isa_terms.specs.Terms.{Tm, Const, Free, Unknown, Bound, Abs, App}
use Rattle.isa_terms.specs.Equal.{name_eq}
use Rattle.isa_terms.specs.Generalize.{is_named}
use Rattle.std.specs.Cmp.Lexicographic.{bytes_decides}
use Rattle.isa_goal.specs.Goals.{Goals}
use Rattle.isa_goal.specs.Names.{numbered, type_numbered, next_among, next_number, next_type_number, free_names, fixed_names, terms_of}
use Rattle.isa_terms.specs.Unknowns.{unknowns_of, type_unknowns_of}
use Rattle.isa_goal.specs.Private.Numbers.{TypeNumbersFit, TermNumbersFit, NumbersFit}
use Rattle.isa_goal.specs.NamingLaws.{IsLeastFree, HasFewNames}
use Rattle.isa_goal.proofs.TypeNames.{among_least, type_number_same}
use Rattle.isa_goal.proofs.TermNames.{number_same}

among_most : (k : ℕ) (taken : ℕ → Bool) (n : ℕ) → next_among k taken n ≤ n + k
among_most zero taken n = omega arith
among_most (suc k) taken n = go (taken n) (among_most k taken (n + 1))
  where
    go : (b : Bool) → next_among k taken (n + 1) ≤ n + 1 + k → cond b (next_among k taken (n + 1)) n ≤ n + suc k
    go true h = omega (arith, h)
    go false h = omega arith

number_most : (names : List (List ℕ)) (n : ℕ) → next_number names n ≤ n + length names
unfolding next_number
number_most names n = among_most (length names) (λ m. is_named names (numbered m)) n

type_number_most : (names : List (List ℕ)) (n : ℕ) → next_type_number names n ≤ n + length names
unfolding next_type_number
type_number_most names n = among_most (length names) (λ m. is_named names (type_numbered m)) n

terms_few : (names : List (List ℕ)) (n : ℕ) (us : List Tm) → length names < 2147483648 → n + length us * 2147483648 < 2 ^ 64 → TermNumbersFit names n us
terms_few names n [] l h = tt
terms_few names n (Unknown x i T ∷ us) l h = let k = number_most names n in (omega (arith, k, l, h), terms_few names (next_number names n + 1) us l (omega (arith, k, l, h)))
terms_few names n (Const x T ∷ us) l h = terms_few names n us l (omega (arith, h))
terms_few names n (Free x T ∷ us) l h = terms_few names n us l (omega (arith, h))
terms_few names n (Bound i ∷ us) l h = terms_few names n us l (omega (arith, h))
terms_few names n (Abs x T b ∷ us) l h = terms_few names n us l (omega (arith, h))
terms_few names n (App f a ∷ us) l h = terms_few names n us l (omega (arith, h))

types_few : (names : List (List ℕ)) (n : ℕ) (us : List Ty) → length names < 2147483648 → n + length us * 2147483648 < 2 ^ 64 → TypeNumbersFit names n us
types_few names n [] l h = tt
types_few names n (TyUnknown x i ∷ us) l h = let k = type_number_most names n in (omega (arith, k, l, h), types_few names (next_type_number names n + 1) us l (omega (arith, k, l, h)))
types_few names n (TyCon x Ts ∷ us) l h = types_few names n us l (omega (arith, h))
types_few names n (TyFixed x ∷ us) l h = types_few names n us l (omega (arith, h))

pub few_fit : (s : Goals) → HasFewNames s → NumbersFit s
few_fit s f = record {
  types = types_few (fixed_names s.goal) 1 (type_unknowns_of (terms_of s)) (omega (arith, f.fixed)) (omega (arith, f.type_unknowns));
  terms = terms_few (free_names s.goal) 1 (unknowns_of (terms_of s)) (omega (arith, f.free)) (omega (arith, f.unknowns));
}

-- ---- the number that is found
-- where the last number is taken, all are
all_taken : (k : ℕ) (taken : ℕ → Bool) (n : ℕ) → taken (next_among k taken n) ≡ true → (q : ℕ) → q ≤ k → taken (n + q) ≡ true
all_taken zero taken n h q l = let e : n ≡ n + q = omega (arith, l) in ap taken (sym e) ∙ h
all_taken (suc k) taken n h q l = go (taken n) refl h (λ r. all_taken k taken (n + 1) r)
  where
    later : (p : ℕ) → p ≤ suc k → taken n ≡ true → ((r : ℕ) → r ≤ k → taken (n + 1 + r) ≡ true) → taken (n + p) ≡ true
    later zero m t f = let e : n ≡ n + 0 = omega arith in ap taken (sym e) ∙ t
    later (suc p) m t f = let e : n + 1 + p ≡ n + suc p = omega arith in ap taken (sym e) ∙ f p (omega (arith, m))

    go : (b : Bool) → taken n ≡ b → taken (cond b (next_among k taken (n + 1)) n) ≡ true → (taken (next_among k taken (n + 1)) ≡ true → (r : ℕ) → r ≤ k → taken (n + 1 + r) ≡ true) → taken (n + q) ≡ true
    go true t r f = later q l t (f r)
    go false t r f = absurd (cc)

-- those before it are taken
before_taken : (k : ℕ) (taken : ℕ → Bool) (n m : ℕ) → n ≤ m → m < next_among k taken n → taken m ≡ true
before_taken zero taken n m l h = absurd (omega (arith, l, h))
before_taken (suc k) taken n m l h = go (taken n) refl h (λ p q. before_taken k taken (n + 1) m p q)
  where
    at : (e : Bool) → nat_eq m n ≡ e → taken n ≡ true → m < next_among k taken (n + 1) → (n + 1 ≤ m → m < next_among k taken (n + 1) → taken m ≡ true) → taken m ≡ true
    at true e t r f = let q : m ≡ n = grind (arith, nat_tests) in ap taken q ∙ t
    at false e t r f = let q : n + 1 ≤ m = grind (arith, nat_tests) in f q r

    go : (b : Bool) → taken n ≡ b → m < cond b (next_among k taken (n + 1)) n → (n + 1 ≤ m → m < next_among k taken (n + 1) → taken m ≡ true) → taken m ≡ true
    go true t r f = at (nat_eq m n) refl t r f
    go false t r f = absurd (omega (arith, l, r))

-- the names without the first that is the given one
abbrev rest_of : List ℕ → List (List ℕ) → List (List ℕ)
rest_of x [] = []
rest_of x (y ∷ ys) = cond (name_eq x y) ys (y ∷ rest_of x ys)

rest_length : (x : List ℕ) (names : List (List ℕ)) → is_named names x ≡ true → length names ≡ suc (length (rest_of x names))
rest_length x [] h = cc
rest_length x (y ∷ ys) h = go (name_eq x y) h (λ r. rest_length x ys r)
  where
    go : (b : Bool) → (b || is_named ys x) ≡ true → (is_named ys x ≡ true → length ys ≡ suc (length (rest_of x ys))) → suc (length ys) ≡ suc (length (cond b ys (y ∷ rest_of x ys)))
    go true r f = refl
    go false r f = ap suc (f r)

rest_named : (x z : List ℕ) (names : List (List ℕ)) → name_eq z x ≡ false → is_named names z ≡ true → is_named (rest_of x names) z ≡ true
rest_named x z [] d h = h
rest_named x z (y ∷ ys) d h = go (name_eq x y) refl (λ r. rest_named x z ys d r)
  where
    first : (c : Bool) → (c || is_named ys z) ≡ true → (is_named ys z ≡ true → is_named (rest_of x ys) z ≡ true) → (c || is_named (rest_of x ys) z) ≡ true
    first true r f = refl
    first false r f = f r

    go : (b : Bool) → name_eq x y ≡ b → (is_named ys z ≡ true → is_named (rest_of x ys) z ≡ true) → is_named (cond b ys (y ∷ rest_of x ys)) z ≡ true
    go true s f =
        let e : name_eq z y ≡ false = subst (λ w. name_eq z w ≡ false) ((bytes_decides x y).0 s) d in
        subst (λ c. (c || is_named ys z) ≡ true) e h
    go false s f = first (name_eq z y) h f

module _ (name : ℕ → List ℕ) (apart : (m n : ℕ) → m < 2 ^ 64 → n < 2 ^ 64 → name m ≡ name n → m ≡ n) where
  differ : (m n : ℕ) → m < n → n < 2 ^ 64 → name_eq (name n) (name m) ≡ false
  differ m n l h = go (name_eq (name n) (name m)) refl
    where
      go : (b : Bool) → name_eq (name n) (name m) ≡ b → b ≡ false
      go false e = refl
      go true e = let q : n ≡ m = apart n m h (omega (arith, l, h)) ((bytes_decides (name n) (name m)).0 e) in absurd (omega (arith, q, l))

  -- not so many numbers have names among so few
  too_many : (l : ℕ) (names : List (List ℕ)) (n : ℕ) → length names ≡ l → n + l < 2 ^ 64 → ((q : ℕ) → q ≤ l → is_named names (name (n + q)) ≡ true) → ⊥
  too_many zero [] n e h f = let r = f 0 (omega arith) in cc
  too_many zero (x ∷ names) n e h f = absurd (omega (arith, e))
  too_many (suc l) names n e h f =
      let z : n + 0 ≡ n = omega arith in
      let here : is_named names (name n) ≡ true = ap (λ k. is_named names (name k)) (sym z) ∙ f 0 (omega arith) in
      let less : length (rest_of (name n) names) ≡ l = omega (arith, e, rest_length (name n) names here) in
      too_many l (rest_of (name n) names) (n + 1) less (omega (arith, h))
      (λ q k.
      let s : n + suc q ≡ n + 1 + q = omega arith in
      rest_named (name n) (name (n + 1 + q)) names (differ n (n + 1 + q) (omega arith) (omega (arith, h, k))) (ap (λ m. is_named names (name m)) (sym s) ∙ f (suc q) (omega (arith, k))))

  least_free : (names : List (List ℕ)) (n : ℕ) → n + length names < 2 ^ 64 → IsLeastFree name names n (next_among (length names) (λ m. is_named names (name m)) n)
  least_free names n h =
      let taken : ℕ → Bool = λ m. is_named names (name m) in
      let m : ℕ = next_among (length names) taken n in
      record {
        from = among_least (length names) taken n;
        free = go (taken m) refl;
        taken = λ k l r. before_taken (length names) taken n k l r;
      }
    where
      go : (b : Bool) → is_named names (name (next_among (length names) (λ m. is_named names (name m)) n)) ≡ b → b ≡ false
      go false e = refl
      go true e = absurd (too_many (length names) names n refl h (all_taken (length names) (λ m. is_named names (name m)) n e))

pub numbers_least : (names : List (List ℕ)) (n : ℕ) → n + length names < 2 ^ 64 → IsLeastFree numbered names n (next_number names n)
unfolding next_number
numbers_least names n h = least_free numbered number_same names n h

pub type_numbers_least : (names : List (List ℕ)) (n : ℕ) → n + length names < 2 ^ 64 → IsLeastFree type_numbered names n (next_type_number names n)
unfolding next_type_number
type_numbers_least names n h = least_free type_numbered type_number_same names n h
