-- Free variables in the place of the binders round a term.
use Rattle.std.proofs.Common.{◌≡◌, ◌≢◌, ℕ, zero, suc, ◌+◌, ◌-◌, ◌<◌, ◌≤◌, List, [], ◌∷◌, ◌++◌, length, Bool, true, false, cond, ◌||◌, ◌&&◌, nat_eq, nat_lt, Option, Some, None, refl, sym, ap, ◌∙◌, subst, arith}
use Rattle.std.specs.List.{slice_get}
use Rattle.std.specs.Cmp.Lexicographic.{bytes_decides}
use Rattle.std.proofs.lemmas.Bool.Decides.{nat_tests}
use Rattle.isa_terms.specs.Types.{Ty}
use Rattle.isa_terms.specs.Terms.{Tm, Const, Free, Unknown, Bound, Abs, App, bare}
use Rattle.isa_terms.specs.Equal.{name_eq, ty_eq}
use Rattle.isa_terms.specs.Replace.{raise, put}
use Rattle.isa_terms.specs.Binding.{occurs, close_at}
use Rattle.isa_terms.proofs.Equal.{ty_decides}
use Rattle.isa_terms.proofs.Typed.{Typed, TConst, TFree, TUnknown, TBound, TAbs, TApp}

abbrev pub Var : Type 0
Var = List ℕ × Ty

abbrev pub types : List Var → List Ty
types [] = []
types (v ∷ vs) = v.1 ∷ types vs

abbrev pub filled : ℕ → Option Var → Tm
filled i None = Bound i
filled i (Some v) = Free v.0 v.1

-- the variables vs, the innermost first, in the place of the binders round k binders
abbrev pub fill : List Var → ℕ → Tm → Tm
fill vs k (Const x T) = Const x T
fill vs k (Free x T) = Free x T
fill vs k (Unknown x i T) = Unknown x i T
fill vs k (Bound i) = cond (nat_lt i k) (Bound i) (filled i (slice_get vs (i - k)))
fill vs k (Abs x T b) = Abs x T (fill vs (k + 1) b)
fill vs k (App f a) = App (fill vs k f) (fill vs k a)

pub test_lt : (i k : ℕ) → i < k → nat_lt i k ≡ true
test_lt i k h = grind (arith, nat_tests)

pub test_ge : (i k : ℕ) → k ≤ i → nat_lt i k ≡ false
test_ge i k h = grind (arith, nat_tests)

pub fill_below : (vs : List Var) (k i : ℕ) → i < k → fill vs k (Bound i) ≡ Bound i
fill_below vs k i h = ap (λ v. cond v (Bound i) (filled i (slice_get vs (i - k)))) (test_lt i k h)

pub fill_above : (vs : List Var) (k i : ℕ) → k ≤ i → fill vs k (Bound i) ≡ filled i (slice_get vs (i - k))
fill_above vs k i h = ap (λ v. cond v (Bound i) (filled i (slice_get vs (i - k)))) (test_ge i k h)

-- ---- raising
pub raise_filled : (j m i : ℕ) (o : Option Var) → m ≤ i → filled (i + j) o ≡ raise j m (filled i o)
raise_filled j m i None h = ap (λ v. cond v (Bound i) (Bound (i + j))) (sym (test_ge i m h))
raise_filled j m i (Some v) h = refl

pub fill_raise_bound : (vs : List Var) (j m i : ℕ) (b : Bool) → nat_lt i m ≡ b → fill vs (m + j) (cond b (Bound i) (Bound (i + j))) ≡ raise j m (cond b (Bound i) (filled i (slice_get vs (i - m))))
fill_raise_bound vs j m i true h =
    let lt : i < m = grind (arith, nat_tests) in
    fill_below vs (m + j) i (omega arith) ∙ ap (λ v. cond v (Bound i) (Bound (i + j))) (sym (test_lt i m lt))
fill_raise_bound vs j m i false h =
    let le : m ≤ i = grind (arith, nat_tests) in
    let k : (i + j) - (m + j) ≡ i - m = omega arith in
    fill_above vs (m + j) (i + j) (omega arith) ∙ ap (λ n. filled (i + j) (slice_get vs n)) k ∙ raise_filled j m i (slice_get vs (i - m)) le

pub fill_raise : (vs : List Var) (j m : ℕ) (t : Tm) → fill vs (m + j) (raise j m t) ≡ raise j m (fill vs m t)
fill_raise vs j m (Const x T) = refl
fill_raise vs j m (Free x T) = refl
fill_raise vs j m (Unknown x i T) = refl
fill_raise vs j m (Bound i) = fill_raise_bound vs j m i (nat_lt i m) refl
fill_raise vs j m (Abs x T b) = let k : (m + j) + 1 ≡ (m + 1) + j = omega arith in ap (Abs x T) (ap (λ n. fill vs n (raise j (m + 1) b)) k ∙ fill_raise vs j (m + 1) b)
fill_raise vs j m (App f a) = λ i. App (fill_raise vs j m f i) (fill_raise vs j m a i)

-- ---- replacement
pub put_filled : (vs : List Var) (c : Tm) (j i : ℕ) (o : Option Var) → j < i → filled (i - 1) o ≡ put c j (filled i o)
put_filled vs c j i None h =
    let e : nat_eq i j ≡ false = grind (arith, nat_tests) in
    let l : nat_lt j i ≡ true = grind (arith, nat_tests) in
    sym (ap (λ v. cond v (raise j 0 c) (cond (nat_lt j i) (Bound (i - 1)) (Bound i))) e ∙ ap (λ v. cond v (Bound (i - 1)) (Bound i)) l)
put_filled vs c j i (Some v) h = refl

pub fill_put_bound : (vs : List Var) (a : Tm) (j i : ℕ) (b d : Bool) → nat_eq i j ≡ b → nat_lt j i ≡ d → fill vs j (cond b (raise j 0 a) (cond d (Bound (i - 1)) (Bound i))) ≡ put (fill vs 0 a) j (fill vs (j + 1) (Bound i))
fill_put_bound vs a j i true d h l =
    let at : i ≡ j = grind (arith, nat_tests) in
    let z : 0 + j ≡ j = omega arith in
    ap (λ n. fill vs n (raise j 0 a)) (sym z) ∙ fill_raise vs j 0 a
    ∙ ap (λ v. cond v (raise j 0 (fill vs 0 a)) (cond (nat_lt j i) (Bound (i - 1)) (Bound i))) (sym h)
    ∙ ap (put (fill vs 0 a) j) (sym (fill_below vs (j + 1) i (omega arith)))
fill_put_bound vs a j i false true h l =
    let lt : j < i = grind (arith, nat_tests) in
    let k : (i - 1) - j ≡ i - (j + 1) = omega arith in
    fill_above vs j (i - 1) (omega arith) ∙ ap (λ n. filled (i - 1) (slice_get vs n)) k
    ∙ put_filled vs (fill vs 0 a) j i (slice_get vs (i - (j + 1))) lt
    ∙ ap (put (fill vs 0 a) j) (sym (fill_above vs (j + 1) i (omega arith)))
fill_put_bound vs a j i false false h l =
    let ne : i ≢ j = grind (arith, nat_tests) in
    let le : i ≤ j = grind (arith, nat_tests) in
    fill_below vs j i (omega arith)
    ∙ sym (ap (λ v. cond v (raise j 0 (fill vs 0 a)) (cond (nat_lt j i) (Bound (i - 1)) (Bound i))) h ∙ ap (λ v. cond v (Bound (i - 1)) (Bound i)) l)
    ∙ ap (put (fill vs 0 a) j) (sym (fill_below vs (j + 1) i (omega arith)))

pub fill_put : (vs : List Var) (a : Tm) (j : ℕ) (t : Tm) → fill vs j (put a j t) ≡ put (fill vs 0 a) j (fill vs (j + 1) t)
fill_put vs a j (Const x T) = refl
fill_put vs a j (Free x T) = refl
fill_put vs a j (Unknown x i T) = refl
fill_put vs a j (Bound i) = fill_put_bound vs a j i (nat_eq i j) (nat_lt j i) refl refl
fill_put vs a j (Abs x T b) = ap (Abs x T) (fill_put vs a (j + 1) b)
fill_put vs a j (App f b) = λ i. App (fill_put vs a j f i) (fill_put vs a j b i)

-- ---- typing
pub fill_some : (K : List Ty) (vs : List Var) (n : ℕ) (T : Ty) → slice_get (types vs) n ≡ Some T → (i : ℕ) → Typed K (filled i (slice_get vs n)) T
fill_some K [] n T e i = cc
fill_some K (v ∷ vs) zero T e i = let q : v.1 ≡ T = cc in subst (λ U. Typed K (Free v.0 v.1) U) q TFree
fill_some K (v ∷ vs) (suc n) T e i = fill_some K vs n T e i

pub get_past : (P Q : List Ty) (n : ℕ) → length P ≤ n → slice_get (P ++ Q) n ≡ slice_get Q (n - length P)
get_past [] Q n h = let e : n ≡ n - 0 = omega arith in ap (slice_get Q) e
get_past (S ∷ P) Q zero h = absurd (omega arith)
get_past (S ∷ P) Q (suc n) h = let e : n - length P ≡ suc n - suc (length P) = omega arith in get_past P Q n (omega arith) ∙ ap (slice_get Q) e

pub get_own : (P Q : List Ty) (n : ℕ) → n < length P → slice_get (P ++ Q) n ≡ slice_get P n
get_own [] Q n h = absurd (omega arith)
get_own (S ∷ P) Q zero h = refl
get_own (S ∷ P) Q (suc n) h = get_own P Q n (omega arith)

pub fill_bound : (P : List Ty) (vs : List Var) (n : ℕ) (T : Ty) (b : Bool) → nat_lt n (length P) ≡ b → slice_get (P ++ types vs) n ≡ Some T → Typed P (cond b (Bound n) (filled n (slice_get vs (n - length P)))) T
fill_bound P vs n T true h e = let lt : n < length P = grind (arith, nat_tests) in TBound (sym (get_own P (types vs) n lt) ∙ e)
fill_bound P vs n T false h e = let le : length P ≤ n = grind (arith, nat_tests) in fill_some P vs (n - length P) T (sym (get_past P (types vs) n le) ∙ e) n

pub one_more : (n : ℕ) → suc n ≡ n + 1
one_more n = omega arith

pub fill_typed : (P : List Ty) (vs : List Var) {G : List Ty} {t : Tm} {T : Ty} → G ≡ P ++ types vs → Typed G t T → Typed P (fill vs (length P) t) T
fill_typed P vs e TConst = TConst
fill_typed P vs e TFree = TFree
fill_typed P vs e TUnknown = TUnknown
fill_typed P vs e (TBound {G} {n} {T} h) = fill_bound P vs n T (nat_lt n (length P)) refl (ap (λ K. slice_get K n) (sym e) ∙ h)
fill_typed P vs e (TAbs {G} {x} {S} {T} {b} d) = TAbs (subst (λ k. Typed (S ∷ P) (fill vs k b) T) (one_more (length P)) (fill_typed (S ∷ P) vs (ap (λ K. S ∷ K) e) d))
fill_typed P vs e (TApp d c) = TApp (fill_typed P vs e d) (fill_typed P vs e c)

pub bare_typed : {G : List Ty} {t : Tm} {T : Ty} → Typed G t T → Typed G (bare t) T
bare_typed TConst = TConst
bare_typed TFree = TFree
bare_typed TUnknown = TUnknown
bare_typed (TBound h) = TBound h
bare_typed (TAbs d) = TAbs (bare_typed d)
bare_typed (TApp d e) = TApp (bare_typed d) (bare_typed e)

pub within_length : (P : List Ty) (n : ℕ) (T : Ty) → slice_get P n ≡ Some T → n < length P
within_length [] n T e = cc
within_length (S ∷ P) zero T e = omega arith
within_length (S ∷ P) (suc n) T e = omega (arith, within_length P n T e)

-- a term without loose numbers is raised to itself
pub raise_closed : (j : ℕ) {P : List Ty} {t : Tm} {T : Ty} → Typed P t T → raise j (length P) t ≡ t
raise_closed j TConst = refl
raise_closed j TFree = refl
raise_closed j TUnknown = refl
raise_closed j (TBound {G} {n} {T} h) = ap (λ v. cond v (Bound n) (Bound (n + j))) (test_lt n (length G) (within_length G n T h))
raise_closed j (TAbs {G} {x} {S} {T} {b} d) = ap (Abs x S) (ap (λ k. raise j k b) (sym (one_more (length G))) ∙ raise_closed j d)
raise_closed j (TApp d e) = λ i. App (raise_closed j d i) (raise_closed j e i)

-- ---- closing again
-- no variable of the list is x of type S
abbrev pub IsNew : List ℕ → Ty → List Var → Type 0
IsNew x S [] = Unit {0}
IsNew x S (v ∷ vs) = ((name_eq x v.0 && ty_eq S v.1) ≡ false) × IsNew x S vs

pub close_later : (x : List ℕ) (S : Ty) (vs : List Var) (k n i : ℕ) → IsNew x S vs → close_at x S k (filled i (slice_get vs n)) ≡ filled i (slice_get vs n)
close_later x S [] k n i h = refl
close_later x S (v ∷ vs) k zero i h = ap (λ b. cond b (Bound k) (Free v.0 v.1)) h.0
close_later x S (v ∷ vs) k (suc n) i h = close_later x S vs k n i h.1

pub close_here : (x : List ℕ) (S : Ty) (k i : ℕ) → close_at x S k (filled i (Some (x, S))) ≡ Bound k
close_here x S k i = (λ j. cond ((bytes_decides x x).1 refl j && (ty_decides S S).1 refl j) (Bound k) (Free x S))

pub close_bound : (x : List ℕ) (S : Ty) (vs : List Var) (k i : ℕ) (b c : Bool) → nat_lt i k ≡ b → nat_eq i k ≡ c → IsNew x S vs → close_at x S k (cond b (Bound i) (filled i (slice_get ((x, S) ∷ vs) (i - k)))) ≡ fill vs (k + 1) (Bound i)
close_bound x S vs k i true c h l n = let lt : i < k = grind (arith, nat_tests) in sym (fill_below vs (k + 1) i (omega arith))
close_bound x S vs k i false true h l n =
    let at : i ≡ k = grind (arith, nat_tests) in
    let z : i - k ≡ zero = omega arith in
    ap (λ m. close_at x S k (filled i (slice_get ((x, S) ∷ vs) m))) z ∙ close_here x S k i ∙ ap Bound (sym at) ∙ sym (fill_below vs (k + 1) i (omega arith))
close_bound x S vs k i false false h l n =
    let ge : k ≤ i = grind (arith, nat_tests) in
    let ne : i ≢ k = grind (arith, nat_tests) in
    let z : i - k ≡ suc (i - (k + 1)) = omega arith in
    ap (λ m. close_at x S k (filled i (slice_get ((x, S) ∷ vs) m))) z ∙ close_later x S vs k (i - (k + 1)) i n ∙ sym (fill_above vs (k + 1) i (omega arith))

pub or_false : (a b : Bool) → (a || b) ≡ false → (a ≡ false) × (b ≡ false)
or_false true b e = cc
or_false false b e = (refl, e)

-- a binder over the new variable that took its place
pub close_fill : (x : List ℕ) (S : Ty) (vs : List Var) (k : ℕ) (t : Tm) → occurs x S t ≡ false → IsNew x S vs → close_at x S k (fill ((x, S) ∷ vs) k t) ≡ fill vs (k + 1) t
close_fill x S vs k (Const y T) o n = refl
close_fill x S vs k (Free y T) o n = ap (λ b. cond b (Bound k) (Free y T)) o
close_fill x S vs k (Unknown y i T) o n = refl
close_fill x S vs k (Bound i) o n = close_bound x S vs k i (nat_lt i k) (nat_eq i k) refl refl n
close_fill x S vs k (Abs y T b) o n = ap (Abs y T) (close_fill x S vs (k + 1) b o n)
close_fill x S vs k (App f a) o n = let p = or_false (occurs x S f) (occurs x S a) o in λ i. App (close_fill x S vs k f p.0 n i) (close_fill x S vs k a p.1 n i)

-- ---- a new name
abbrev pub longest : Tm → ℕ
longest (Const x T) = 0
longest (Free x T) = length x
longest (Unknown x i T) = 0
longest (Bound i) = 0
longest (Abs x T b) = longest b
longest (App f a) = longest f + longest a

abbrev pub longest_of : List Var → ℕ
longest_of [] = 0
longest_of (v ∷ vs) = length v.0 + longest_of vs

pub longer_name : (x y : List ℕ) (c b : Bool) → name_eq x y ≡ b → length y < length x → (b && c) ≡ false
longer_name x y c true h l = let e = (bytes_decides x y).0 h in absurd (omega (arith, ap length e))
longer_name x y c false h l = refl

pub occurs_longer : (x : List ℕ) (S : Ty) (t : Tm) → longest t < length x → occurs x S t ≡ false
occurs_longer x S (Const y T) l = refl
occurs_longer x S (Free y T) l = longer_name x y (ty_eq S T) (name_eq x y) refl l
occurs_longer x S (Unknown y i T) l = refl
occurs_longer x S (Bound i) l = refl
occurs_longer x S (Abs y T b) l = occurs_longer x S b l
occurs_longer x S (App f a) l = (λ i. occurs_longer x S f (omega arith) i || occurs x S a) ∙ occurs_longer x S a (omega arith)

pub new_longer : (x : List ℕ) (S : Ty) (vs : List Var) → longest_of vs < length x → IsNew x S vs
new_longer x S [] l = tt
new_longer x S (v ∷ vs) l = (longer_name x v.0 (ty_eq S v.1) (name_eq x v.0) refl (omega arith), new_longer x S vs (omega arith))
