-- Renamings and fillings of a term's loose variables, all at once.
use Rattle.std.proofs.Common.{◌≡◌, ℕ, zero, suc, ◌+◌, ◌-◌, ◌<◌, ◌≤◌, Bool, true, false, cond, nat_eq, nat_lt, refl, sym, ap, ◌∙◌, arith}
use Rattle.std.proofs.lemmas.Bool.Decides.{nat_tests}
use Rattle.isa_terms.specs.Terms.{Tm, Const, Free, Unknown, Bound, Abs, App}
use Rattle.isa_terms.specs.Replace.{raise, put, replace}
use Rattle.isa_terms.proofs.Erased.{up, next}
use Rattle.isa_terms.proofs.Erasing.{raised, up_raised, raised_again, eq_more, raised_none, raised_next}

-- the loose variables with other numbers
abbrev pub rename : (ℕ → ℕ) → Tm → Tm
rename r (Const x T) = Const x T
rename r (Free x T) = Free x T
rename r (Unknown x i T) = Unknown x i T
rename r (Bound n) = Bound (r n)
rename r (Abs x T b) = Abs x T (rename (up r) b)
rename r (App f a) = App (rename r f) (rename r a)

abbrev pub lift : (ℕ → Tm) → ℕ → Tm
lift s zero = Bound zero
lift s (suc n) = rename next (s n)

-- terms for the loose variables
abbrev pub fill : (ℕ → Tm) → Tm → Tm
fill s (Const x T) = Const x T
fill s (Free x T) = Free x T
fill s (Unknown x i T) = Unknown x i T
fill s (Bound n) = s n
fill s (Abs x T b) = Abs x T (fill (lift s) b)
fill s (App f a) = App (fill s f) (fill s a)

-- a for the innermost variable
abbrev pub first : Tm → ℕ → Tm
first a zero = a
first a (suc n) = Bound n

abbrev pub SameNumbers : (ℕ → ℕ) → (ℕ → ℕ) → Type 0
SameNumbers r q = (n : ℕ) → r n ≡ q n

abbrev pub SameTerms : (ℕ → Tm) → (ℕ → Tm) → Type 0
SameTerms s t = (n : ℕ) → s n ≡ t n

pub up_same : {r q : ℕ → ℕ} → SameNumbers r q → SameNumbers (up r) (up q)
up_same h zero = refl
up_same h (suc n) = ap (λ m. suc m) (h n)

pub rename_same : (r q : ℕ → ℕ) → SameNumbers r q → (t : Tm) → rename r t ≡ rename q t
rename_same r q h (Const x T) = refl
rename_same r q h (Free x T) = refl
rename_same r q h (Unknown x i T) = refl
rename_same r q h (Bound n) = ap Bound (h n)
rename_same r q h (Abs x T b) = ap (Abs x T) (rename_same (up r) (up q) (up_same h) b)
rename_same r q h (App f a) = λ i. App (rename_same r q h f i) (rename_same r q h a i)

pub lift_same : {s t : ℕ → Tm} → SameTerms s t → SameTerms (lift s) (lift t)
lift_same h zero = refl
lift_same h (suc n) = ap (rename next) (h n)

pub fill_same : (s q : ℕ → Tm) → SameTerms s q → (t : Tm) → fill s t ≡ fill q t
fill_same s q h (Const x T) = refl
fill_same s q h (Free x T) = refl
fill_same s q h (Unknown x i T) = refl
fill_same s q h (Bound n) = h n
fill_same s q h (Abs x T b) = ap (Abs x T) (fill_same (lift s) (lift q) (lift_same h) b)
fill_same s q h (App f a) = λ i. App (fill_same s q h f i) (fill_same s q h a i)

pub up_up : (r q : ℕ → ℕ) → SameNumbers (λ n. up r (up q n)) (up (λ n. r (q n)))
up_up r q zero = refl
up_up r q (suc n) = refl

pub rename-rename : (r q : ℕ → ℕ) (t : Tm) → rename r (rename q t) ≡ rename (λ n. r (q n)) t
rename-rename r q (Const x T) = refl
rename-rename r q (Free x T) = refl
rename-rename r q (Unknown x i T) = refl
rename-rename r q (Bound n) = refl
rename-rename r q (Abs x T b) = ap (Abs x T) (rename-rename (up r) (up q) b ∙ rename_same _ _ (up_up r q) b)
rename-rename r q (App f a) = λ i. App (rename-rename r q f i) (rename-rename r q a i)

pub lift_up : (s : ℕ → Tm) (r : ℕ → ℕ) → SameTerms (λ n. lift s (up r n)) (lift (λ n. s (r n)))
lift_up s r zero = refl
lift_up s r (suc n) = refl

pub fill-rename : (s : ℕ → Tm) (r : ℕ → ℕ) (t : Tm) → fill s (rename r t) ≡ fill (λ n. s (r n)) t
fill-rename s r (Const x T) = refl
fill-rename s r (Free x T) = refl
fill-rename s r (Unknown x i T) = refl
fill-rename s r (Bound n) = refl
fill-rename s r (Abs x T b) = ap (Abs x T) (fill-rename (lift s) (up r) b ∙ fill_same _ _ (lift_up s r) b)
fill-rename s r (App f a) = λ i. App (fill-rename s r f i) (fill-rename s r a i)

pub rename-up-next : (r : ℕ → ℕ) (t : Tm) → rename (up r) (rename next t) ≡ rename next (rename r t)
rename-up-next r t = rename-rename (up r) next t ∙ sym (rename-rename next r t)

pub up_lift : (r : ℕ → ℕ) (s : ℕ → Tm) → SameTerms (λ n. rename (up r) (lift s n)) (lift (λ n. rename r (s n)))
up_lift r s zero = refl
up_lift r s (suc n) = rename-up-next r (s n)

pub rename-fill : (r : ℕ → ℕ) (s : ℕ → Tm) (t : Tm) → rename r (fill s t) ≡ fill (λ n. rename r (s n)) t
rename-fill r s (Const x T) = refl
rename-fill r s (Free x T) = refl
rename-fill r s (Unknown x i T) = refl
rename-fill r s (Bound n) = refl
rename-fill r s (Abs x T b) = ap (Abs x T) (rename-fill (up r) (lift s) b ∙ fill_same _ _ (up_lift r s) b)
rename-fill r s (App f a) = λ i. App (rename-fill r s f i) (rename-fill r s a i)

pub fill-lift-next : (s : ℕ → Tm) (t : Tm) → fill (lift s) (rename next t) ≡ rename next (fill s t)
fill-lift-next s t = fill-rename (lift s) next t ∙ sym (rename-fill next s t)

pub lift_lift : (s q : ℕ → Tm) → SameTerms (λ n. fill (lift s) (lift q n)) (lift (λ n. fill s (q n)))
lift_lift s q zero = refl
lift_lift s q (suc n) = fill-lift-next s (q n)

pub fill-fill : (s q : ℕ → Tm) (t : Tm) → fill s (fill q t) ≡ fill (λ n. fill s (q n)) t
fill-fill s q (Const x T) = refl
fill-fill s q (Free x T) = refl
fill-fill s q (Unknown x i T) = refl
fill-fill s q (Bound n) = refl
fill-fill s q (Abs x T b) = ap (Abs x T) (fill-fill (lift s) (lift q) b ∙ fill_same _ _ (lift_lift s q) b)
fill-fill s q (App f a) = λ i. App (fill-fill s q f i) (fill-fill s q a i)

pub lift_var : SameTerms (lift Bound) Bound
lift_var zero = refl
lift_var (suc n) = refl

pub fill-bound : (t : Tm) → fill Bound t ≡ t
fill-bound (Const x T) = refl
fill-bound (Free x T) = refl
fill-bound (Unknown x i T) = refl
fill-bound (Bound n) = refl
fill-bound (Abs x T b) = ap (Abs x T) (fill_same _ _ lift_var b ∙ fill-bound b)
fill-bound (App f a) = λ i. App (fill-bound f i) (fill-bound a i)

-- what is replaced isn't there
pub fill-first-next : (a t : Tm) → fill (first a) (rename next t) ≡ t
fill-first-next a t = fill-rename (first a) next t ∙ fill-bound t

pub rename_first : (r : ℕ → ℕ) (a : Tm) → SameTerms (λ n. rename r (first a n)) (λ n. first (rename r a) (up r n))
rename_first r a zero = refl
rename_first r a (suc n) = refl

pub rename-fill-first : (r : ℕ → ℕ) (a b : Tm) → rename r (fill (first a) b) ≡ fill (first (rename r a)) (rename (up r) b)
rename-fill-first r a b = rename-fill r (first a) b ∙ fill_same _ _ (rename_first r a) b ∙ sym (fill-rename (first (rename r a)) (up r) b)

pub fill_first : (s : ℕ → Tm) (a : Tm) → SameTerms (λ n. fill s (first a n)) (λ n. fill (first (fill s a)) (lift s n))
fill_first s a zero = refl
fill_first s a (suc n) = sym (fill-first-next (fill s a) (s n))

pub fill-fill-first : (s : ℕ → Tm) (a b : Tm) → fill s (fill (first a) b) ≡ fill (first (fill s a)) (fill (lift s) b)
fill-fill-first s a b = fill-fill s (first a) b ∙ fill_same _ _ (fill_first s a) b ∙ sym (fill-fill (first (fill s a)) (lift s) b)

-- ---- raising and replacement in these terms
pub choice : (b : Bool) (i j : ℕ) → cond b (Bound i) (Bound j) ≡ Bound (cond b i j)
choice true i j = refl
choice false i j = refl

pub raise_is : (n k : ℕ) (t : Tm) → raise n k t ≡ rename (raised n k) t
raise_is n k (Const x T) = refl
raise_is n k (Free x T) = refl
raise_is n k (Unknown x i T) = refl
raise_is n k (Bound i) = choice (nat_lt i k) i (i + n)
raise_is n k (Abs x T b) = ap (Abs x T) (raise_is n (k + 1) b ∙ sym (rename_same _ _ (up_raised n k) b))
raise_is n k (App f a) = λ i. App (raise_is n k f i) (raise_is n k a i)

-- what is in the place of a number, where a goes in the place of k
abbrev pub placed : Tm → ℕ → ℕ → Tm
placed a k i = cond (nat_eq i k) (rename (raised k 0) a) (cond (nat_lt k i) (Bound (i - 1)) (Bound i))

pub raised_more : (k : ℕ) (a : Tm) → rename next (rename (raised k 0) a) ≡ rename (raised (k + 1) 0) a
raised_more k a = rename-rename next (raised k 0) a ∙ rename_same _ _ (raised_again k) a

pub lift_placed_by : (a : Tm) (k i : ℕ) (b c d : Bool) → nat_eq i k ≡ b → nat_lt k i ≡ c → nat_lt (k + 1) (suc i) ≡ d → rename next (cond b (rename (raised k 0) a) (cond c (Bound (i - 1)) (Bound i))) ≡ cond b (rename (raised (k + 1) 0) a) (cond d (Bound (suc i - 1)) (Bound (suc i)))
lift_placed_by a k i true c d h l m = raised_more k a
lift_placed_by a k i false true true h l m = let lt : k < i = grind (arith, nat_tests) in let e : suc (i - 1) ≡ suc i - 1 = omega arith in ap Bound e
lift_placed_by a k i false false false h l m = refl
lift_placed_by a k i false true false h l m = let lt : k < i = grind (arith, nat_tests) in let ge : suc i ≤ k + 1 = grind (arith, nat_tests) in absurd (omega arith)
lift_placed_by a k i false false true h l m = let ge : i ≤ k = grind (arith, nat_tests) in let lt : k + 1 < suc i = grind (arith, nat_tests) in absurd (omega arith)

pub lift_placed : (a : Tm) (k : ℕ) → SameTerms (lift (placed a k)) (placed a (k + 1))
lift_placed a k zero =
    let e : nat_eq 0 (k + 1) ≡ false = grind (arith, nat_tests) in
    let l : nat_lt (k + 1) 0 ≡ false = grind (arith, nat_tests) in
    sym (ap (λ b. cond b (rename (raised (k + 1) 0) a) (cond (nat_lt (k + 1) 0) (Bound (0 - 1)) (Bound 0))) e ∙ ap (λ b. cond b (Bound (0 - 1)) (Bound 0)) l)
lift_placed a k (suc i) =
    lift_placed_by a k i (nat_eq i k) (nat_lt k i) (nat_lt (k + 1) (suc i)) refl refl refl
    ∙ ap (λ b. cond b (rename (raised (k + 1) 0) a) (cond (nat_lt (k + 1) (suc i)) (Bound (suc i - 1)) (Bound (suc i)))) (eq_more i k (nat_eq i k) (nat_eq (suc i) (k + 1)) refl refl)

pub put_is : (a : Tm) (k : ℕ) (t : Tm) → put a k t ≡ fill (placed a k) t
put_is a k (Const x T) = refl
put_is a k (Free x T) = refl
put_is a k (Unknown x i T) = refl
put_is a k (Bound i) = λ j. cond (nat_eq i k) (raise_is k 0 a j) (cond (nat_lt k i) (Bound (i - 1)) (Bound i))
put_is a k (Abs x T b) = ap (Abs x T) (put_is a (k + 1) b ∙ sym (fill_same _ _ (lift_placed a k) b))
put_is a k (App f b) = λ i. App (put_is a k f i) (put_is a k b i)

pub rename_none : (r : ℕ → ℕ) → ((n : ℕ) → r n ≡ n) → (t : Tm) → rename r t ≡ t
rename_none r h (Const x T) = refl
rename_none r h (Free x T) = refl
rename_none r h (Unknown x i T) = refl
rename_none r h (Bound n) = ap Bound (h n)
rename_none r h (Abs x T b) = ap (Abs x T) (rename_none (up r) (up_none r h) b)
  where
    up_none : (r : ℕ → ℕ) → ((n : ℕ) → r n ≡ n) → (n : ℕ) → up r n ≡ n
    up_none r h zero = refl
    up_none r h (suc n) = ap (λ m. suc m) (h n)
rename_none r h (App f a) = λ i. App (rename_none r h f i) (rename_none r h a i)

pub placed_first : (a : Tm) → SameTerms (placed a 0) (first a)
placed_first a zero = rename_none (raised 0 0) (raised_none 0) a
placed_first a (suc n) =
    let e : nat_eq (suc n) 0 ≡ false = grind (arith, nat_tests) in
    let l : nat_lt 0 (suc n) ≡ true = grind (arith, nat_tests) in
    let m : suc n - 1 ≡ n = omega arith in
    ap (λ b. cond b (rename (raised 0 0) a) (cond (nat_lt 0 (suc n)) (Bound (suc n - 1)) (Bound (suc n)))) e ∙ ap (λ b. cond b (Bound (suc n - 1)) (Bound (suc n))) l ∙ ap Bound m

pub replace_is : (b a : Tm) → replace b a ≡ fill (first a) b
replace_is b a = put_is a 0 b ∙ fill_same _ _ (placed_first a) b

pub next_is : (t : Tm) → raise 1 0 t ≡ rename next t
next_is t = raise_is 1 0 t ∙ rename_same _ _ raised_next t

-- ---- renaming goes with raising and replacement
pub rename_next : (r : ℕ → ℕ) (t : Tm) → rename (up r) (raise 1 0 t) ≡ raise 1 0 (rename r t)
rename_next r t = ap (rename (up r)) (next_is t) ∙ rename-up-next r t ∙ sym (next_is (rename r t))

pub rename_replace : (r : ℕ → ℕ) (b a : Tm) → rename r (replace b a) ≡ replace (rename (up r) b) (rename r a)
rename_replace r b a = ap (rename r) (replace_is b a) ∙ rename-fill-first r a b ∙ sym (replace_is (rename (up r) b) (rename r a))
