-- The term order is the order of lists of numbers that spell the terms.
use Rattle.std.proofs.Common.{◌≡◌, ℕ, suc, ◌+◌, ◌-◌, ◌^◌, ◌<◌, min, List, [], ◌∷◌, ◌++◌, refl, sym, ap, ◌∙◌, subst, append_assoc, arith}
use Rattle.std.specs.declared.cmp.Ordering.{Ordering}
use Rattle.std.specs.declared.cmp.Ordering.TheVariants.{Less, Equal, Greater}
use Rattle.std.specs.Ordering.{ordering_then, nat_cmp, MatchOrdering}
use Rattle.std.specs.Cmp.{IsTotalOrder}
use Rattle.std.specs.Cmp.Lexicographic.{slice_cmp}
use Rattle.std.proofs.lemmas.Cmp.{ranked, nat_list_cmp_total, on_total, tied_itself}
use Rattle.std.proofs.lemmas.Bool.Decides.{nat_tests}
use Rattle.std.proofs.lemmas.List.{append-nil}
use Rattle.isa_terms.specs.Types.{Ty, Tys, TyCon, TyFixed, TyUnknown, NoTys, MoreTys}
use Rattle.isa_terms.specs.Terms.{Tm, Const, Free, Unknown, Bound, Abs, App, bare, tm_size}
use Rattle.isa_terms.specs.Order.{name_cmp, free_class, free_length, free_cmp, tys_count, ty_cmp, tys_cmp, head_of, arity, counted_size, const_cmp, var_cmp, unknown_cmp, bound_cmp, abs_cmp, by_size, head_cmp, args_cmp, tm_cmp}

abbrev lists : List ℕ → List ℕ → Ordering
lists x y = slice_cmp nat_cmp x y

then_assoc : (a b c : Ordering) → ordering_then a (ordering_then b c) ≡ ordering_then (ordering_then a b) c
then_assoc Less b c = refl
then_assoc Equal b c = refl
then_assoc Greater b c = refl

then_nothing : (a : Ordering) → ordering_then a Equal ≡ a
then_nothing Less = refl
then_nothing Equal = refl
then_nothing Greater = refl

-- one more comparison in front
step : (a b c : Ordering) {x : Ordering} → x ≡ ordering_then b c → ordering_then a x ≡ ordering_then (ordering_then a b) c
step a b c e = ap (ordering_then a) e ∙ then_assoc a b c

counted_by : (m n : ℕ) (o x y z : Ordering) → MatchOrdering o (m < n) (m ≡ n) (n < m) → (m ≡ n → x ≡ ordering_then y z) → ordering_then o x ≡ ordering_then (ordering_then o y) z
counted_by m n Less x y z k h = refl
counted_by m n Equal x y z k h = h k
counted_by m n Greater x y z k h = refl

-- a number in front, behind which the rest need only be compared at equal numbers
counted_step : (m n : ℕ) (y z : Ordering) {x : Ordering} → (m ≡ n → x ≡ ordering_then y z) → ordering_then (nat_cmp m n) x ≡ ordering_then (ordering_then (nat_cmp m n) y) z
counted_step m n y z {x} h = counted_by m n (nat_cmp m n) x y z (ranked m n (nat_cmp m n) refl) h

up_one : (m n : ℕ) → nat_cmp (suc m) (suc n) ≡ nat_cmp m n
up_one m n = grind (arith, nat_tests)

zero_less : (n : ℕ) → nat_cmp 0 (suc n) ≡ Less
zero_less n = grind (arith, nat_tests)

zero_greater : (n : ℕ) → nat_cmp (suc n) 0 ≡ Greater
zero_greater n = grind (arith, nat_tests)

-- ---- names
abbrev name_code : List ℕ → List ℕ
name_code [] = 0 ∷ []
name_code (b ∷ bs) = suc b ∷ name_code bs

names_spell : (x y r s : List ℕ) → lists (name_code x ++ r) (name_code y ++ s) ≡ ordering_then (name_cmp x y) (lists r s)
names_spell [] [] r s = refl
names_spell [] (c ∷ cs) r s = ap (λ o. ordering_then o (lists r (name_code cs ++ s))) (zero_less c)
names_spell (b ∷ bs) [] r s = ap (λ o. ordering_then o (lists (name_code bs ++ r) s)) (zero_greater b)
names_spell (b ∷ bs) (c ∷ cs) r s = ap (λ o. ordering_then o (lists (name_code bs ++ r) (name_code cs ++ s))) (up_one b c) ∙ step (nat_cmp b c) (name_cmp bs cs) (lists r s) (names_spell bs cs r s)

abbrev free_code : List ℕ → List ℕ
free_code x = free_class x ∷ free_length x ∷ name_code x

frees_spell : (x y r s : List ℕ) → lists (free_code x ++ r) (free_code y ++ s) ≡ ordering_then (free_cmp x y) (lists r s)
frees_spell x y r s = step _ _ (lists r s) (step _ _ (lists r s) (names_spell x y r s))

-- two codes, one behind the other
both : (a b c d r s : List ℕ) (p q : Ordering) → lists (a ++ (b ++ r)) (c ++ (d ++ s)) ≡ ordering_then p (lists (b ++ r) (d ++ s)) → lists (b ++ r) (d ++ s) ≡ ordering_then q (lists r s) → lists ((a ++ b) ++ r) ((c ++ d) ++ s) ≡ ordering_then (ordering_then p q) (lists r s)
both a b c d r s p q e f = (λ i. lists (append_assoc a b r i) (append_assoc c d s i)) ∙ e ∙ step p q (lists r s) f

-- ---- types
abbrev mutual
  ty_code : Ty → List ℕ
  ty_code (TyCon x Ts) = 0 ∷ (name_code x ++ (tys_count Ts ∷ tys_code Ts))
  ty_code (TyFixed x) = 1 ∷ name_code x
  ty_code (TyUnknown x i) = 2 ∷ (name_code x ++ (i ∷ []))

  tys_code : Tys → List ℕ
  tys_code NoTys = []
  tys_code (MoreTys T Ts) = ty_code T ++ tys_code Ts

mutual
  types_spell : (S T : Ty) (r s : List ℕ) → lists (ty_code S ++ r) (ty_code T ++ s) ≡ ordering_then (ty_cmp S T) (lists r s)
  types_spell (TyCon x Ss) (TyCon y Ts) r s =
      both (name_code x) (tys_count Ss ∷ tys_code Ss) (name_code y) (tys_count Ts ∷ tys_code Ts) r s _ _ (names_spell x y _ _) (counted_step (tys_count Ss) (tys_count Ts) (tys_cmp Ss Ts) (lists r s) (tys_spell Ss Ts r s))
  types_spell (TyFixed x) (TyFixed y) r s = names_spell x y r s
  types_spell (TyUnknown x i) (TyUnknown y j) r s = both (name_code x) (i ∷ []) (name_code y) (j ∷ []) r s _ _ (names_spell x y _ _) refl
  types_spell (TyCon x Ss) (TyFixed y) r s = refl
  types_spell (TyCon x Ss) (TyUnknown y j) r s = refl
  types_spell (TyFixed x) (TyCon y Ts) r s = refl
  types_spell (TyFixed x) (TyUnknown y j) r s = refl
  types_spell (TyUnknown x i) (TyCon y Ts) r s = refl
  types_spell (TyUnknown x i) (TyFixed y) r s = refl

  tys_spell : (Ss Ts : Tys) (r s : List ℕ) → tys_count Ss ≡ tys_count Ts → lists (tys_code Ss ++ r) (tys_code Ts ++ s) ≡ ordering_then (tys_cmp Ss Ts) (lists r s)
  tys_spell NoTys NoTys r s e = refl
  tys_spell NoTys (MoreTys T Ts) r s e = absurd (omega arith)
  tys_spell (MoreTys S Ss) NoTys r s e = absurd (omega arith)
  tys_spell (MoreTys S Ss) (MoreTys T Ts) r s e = both (ty_code S) (tys_code Ss) (ty_code T) (tys_code Ts) r s _ _ (types_spell S T _ _) (tys_spell Ss Ts r s (omega arith))

-- ---- terms
abbrev whole : Tm → List ℕ → List ℕ → List ℕ
whole t head args = counted_size t ∷ (head ++ (arity t ∷ args))

abbrev mutual
  head_code : Tm → List ℕ
  head_code (Const x S) = 0 ∷ (name_code x ++ ty_code S)
  head_code (Free x S) = 1 ∷ (free_code x ++ ty_code S)
  head_code (Unknown x i S) = 2 ∷ (name_code x ++ (i ∷ ty_code S))
  head_code (Bound i) = 3 ∷ i ∷ []
  head_code (Abs x S b) = 4 ∷ (ty_code S ++ whole b (head_code b) (args_code b))
  head_code (App f a) = head_code f

  args_code : Tm → List ℕ
  args_code (App f a) = args_code f ++ whole a (head_code a) (args_code a)
  args_code _ = []

abbrev code : Tm → List ℕ
code t = whole t (head_code t) (args_code t)

const_spells : (x : List ℕ) (S : Ty) (u : Tm) (r s : List ℕ) → lists (head_code (Const x S) ++ r) (head_code u ++ s) ≡ ordering_then (const_cmp x S (head_of u)) (lists r s)
const_spells x S (Const y T) r s = both (name_code x) (ty_code S) (name_code y) (ty_code T) r s _ _ (names_spell x y _ _) (types_spell S T r s)
const_spells x S (Free y T) r s = refl
const_spells x S (Unknown y j T) r s = refl
const_spells x S (Bound j) r s = refl
const_spells x S (Abs y T c) r s = refl
const_spells x S (App g b) r s = const_spells x S g r s

var_spells : (x : List ℕ) (S : Ty) (u : Tm) (r s : List ℕ) → lists (head_code (Free x S) ++ r) (head_code u ++ s) ≡ ordering_then (var_cmp x S (head_of u)) (lists r s)
var_spells x S (Const y T) r s = refl
var_spells x S (Free y T) r s = both (free_code x) (ty_code S) (free_code y) (ty_code T) r s _ _ (frees_spell x y _ _) (types_spell S T r s)
var_spells x S (Unknown y j T) r s = refl
var_spells x S (Bound j) r s = refl
var_spells x S (Abs y T c) r s = refl
var_spells x S (App g b) r s = var_spells x S g r s

unknown_spells : (x : List ℕ) (i : ℕ) (S : Ty) (u : Tm) (r s : List ℕ) → lists (head_code (Unknown x i S) ++ r) (head_code u ++ s) ≡ ordering_then (unknown_cmp x i S (head_of u)) (lists r s)
unknown_spells x i S (Const y T) r s = refl
unknown_spells x i S (Free y T) r s = refl
unknown_spells x i S (Unknown y j T) r s = both (name_code x) (i ∷ ty_code S) (name_code y) (j ∷ ty_code T) r s _ _ (names_spell x y _ _) (step (nat_cmp i j) (ty_cmp S T) (lists r s) (types_spell S T r s))
unknown_spells x i S (Bound j) r s = refl
unknown_spells x i S (Abs y T c) r s = refl
unknown_spells x i S (App g b) r s = unknown_spells x i S g r s

bound_spells : (i : ℕ) (u : Tm) (r s : List ℕ) → lists (head_code (Bound i) ++ r) (head_code u ++ s) ≡ ordering_then (bound_cmp i (head_of u)) (lists r s)
bound_spells i (Const y T) r s = refl
bound_spells i (Free y T) r s = refl
bound_spells i (Unknown y j T) r s = refl
bound_spells i (Bound j) r s = refl
bound_spells i (Abs y T c) r s = refl
bound_spells i (App g b) r s = bound_spells i g r s

abs_spells : (S : Ty) (b : Tm) (bodies : Tm → Ordering) (spells : (c : Tm) (r s : List ℕ) → lists (code b ++ r) (code c ++ s) ≡ ordering_then (bodies c) (lists r s)) (u : Tm) (r s : List ℕ) → lists ((4 ∷ (ty_code S ++ code b)) ++ r) (head_code u ++ s) ≡ ordering_then (abs_cmp S bodies (head_of u)) (lists r s)
abs_spells S b bodies spells (Const y T) r s = refl
abs_spells S b bodies spells (Free y T) r s = refl
abs_spells S b bodies spells (Unknown y j T) r s = refl
abs_spells S b bodies spells (Bound j) r s = refl
abs_spells S b bodies spells (Abs y T c) r s = both (ty_code S) (code b) (ty_code T) (code c) r s _ _ (types_spell S T _ _) (spells c r s)
abs_spells S b bodies spells (App g c) r s = abs_spells S b bodies spells g r s

whole_spells : (t u : Tm) → ((r s : List ℕ) → lists (head_code t ++ r) (head_code u ++ s) ≡ ordering_then (head_cmp t u) (lists r s)) → ((r s : List ℕ) → arity t ≡ arity u → lists (args_code t ++ r) (args_code u ++ s) ≡ ordering_then (args_cmp t u) (lists r s)) → (r s : List ℕ) → lists (code t ++ r) (code u ++ s) ≡ ordering_then (tm_cmp t u) (lists r s)
whole_spells t u heads args r s =
    step _ _ (lists r s) (both (head_code t) (arity t ∷ args_code t) (head_code u) (arity u ∷ args_code u) r s _ _ (heads _ _) (counted_step (arity t) (arity u) (args_cmp t u) (lists r s) (args r s)))

mutual
  heads_spell : (t u : Tm) (r s : List ℕ) → lists (head_code t ++ r) (head_code u ++ s) ≡ ordering_then (head_cmp t u) (lists r s)
  heads_spell (Const x S) u r s = const_spells x S u r s
  heads_spell (Free x S) u r s = var_spells x S u r s
  heads_spell (Unknown x i S) u r s = unknown_spells x i S u r s
  heads_spell (Bound i) u r s = bound_spells i u r s
  heads_spell (Abs x S b) u r s = abs_spells S b (tm_cmp b) (λ c. whole_spells b c (heads_spell b c) (args_spell b c)) u r s
  heads_spell (App f a) u r s = heads_spell f u r s

  args_spell : (t u : Tm) (r s : List ℕ) → arity t ≡ arity u → lists (args_code t ++ r) (args_code u ++ s) ≡ ordering_then (args_cmp t u) (lists r s)
  args_spell (App f a) (App g b) r s e = both (args_code f) (code a) (args_code g) (code b) r s _ _ (args_spell f g _ _ (omega arith)) (whole_spells a b (heads_spell a b) (args_spell a b) r s)
  args_spell (App f a) (Const y T) r s e = absurd (omega arith)
  args_spell (App f a) (Free y T) r s e = absurd (omega arith)
  args_spell (App f a) (Unknown y j T) r s e = absurd (omega arith)
  args_spell (App f a) (Bound j) r s e = absurd (omega arith)
  args_spell (App f a) (Abs y T c) r s e = absurd (omega arith)
  args_spell t u r s e = grind arith

spells : (t u : Tm) → lists (code t) (code u) ≡ tm_cmp t u
spells t u = (λ i. lists (sym (append-nil (code t)) i) (sym (append-nil (code u)) i)) ∙ whole_spells t u (heads_spell t u) (args_spell t u) [] [] ∙ then_nothing (tm_cmp t u)

pub tm_total : IsTotalOrder tm_cmp
tm_total = subst IsTotalOrder (λ i t u. spells t u i) (on_total code nat_list_cmp_total)

-- ---- what the order does not tell apart
then_equal : (a b : Ordering) → ordering_then a b ≡ Equal → (a ≡ Equal) × (b ≡ Equal)
then_equal Less b e = cc
then_equal Equal b e = (refl, e)
then_equal Greater b e = cc

numbers_by : (m n : ℕ) (o : Ordering) → MatchOrdering o (m < n) (m ≡ n) (n < m) → o ≡ Equal → m ≡ n
numbers_by m n Less k e = cc
numbers_by m n Equal k e = k
numbers_by m n Greater k e = cc

numbers_tied : (m n : ℕ) → nat_cmp m n ≡ Equal → m ≡ n
numbers_tied m n e = numbers_by m n (nat_cmp m n) (ranked m n (nat_cmp m n) refl) e

names_tied : (x y : List ℕ) → name_cmp x y ≡ Equal → x ≡ y
names_tied [] [] e = refl
names_tied [] (c ∷ cs) e = cc
names_tied (b ∷ bs) [] e = cc
names_tied (b ∷ bs) (c ∷ cs) e = let p = then_equal (nat_cmp b c) (name_cmp bs cs) e in λ i. numbers_tied b c p.0 i ∷ names_tied bs cs p.1 i

frees_tied : (x y : List ℕ) → free_cmp x y ≡ Equal → x ≡ y
frees_tied x y e = names_tied x y (then_equal (nat_cmp (free_length x) (free_length y)) (name_cmp x y) (then_equal (nat_cmp (free_class x) (free_class y)) _ e).1).1

mutual
  types_tied : (S T : Ty) → ty_cmp S T ≡ Equal → S ≡ T
  types_tied (TyCon x Ss) (TyCon y Ts) e =
      let p = then_equal (name_cmp x y) (ordering_then (nat_cmp (tys_count Ss) (tys_count Ts)) (tys_cmp Ss Ts)) e in
      let q = then_equal (nat_cmp (tys_count Ss) (tys_count Ts)) (tys_cmp Ss Ts) p.1 in
      λ i. TyCon (names_tied x y p.0 i) (tys_tied Ss Ts (numbers_tied (tys_count Ss) (tys_count Ts) q.0) q.1 i)
  types_tied (TyFixed x) (TyFixed y) e = ap TyFixed (names_tied x y e)
  types_tied (TyUnknown x i) (TyUnknown y j) e = let p = then_equal (name_cmp x y) (nat_cmp i j) e in λ k. TyUnknown (names_tied x y p.0 k) (numbers_tied i j p.1 k)
  types_tied (TyCon x Ss) (TyFixed y) e = cc
  types_tied (TyCon x Ss) (TyUnknown y j) e = cc
  types_tied (TyFixed x) (TyCon y Ts) e = cc
  types_tied (TyFixed x) (TyUnknown y j) e = cc
  types_tied (TyUnknown x i) (TyCon y Ts) e = cc
  types_tied (TyUnknown x i) (TyFixed y) e = cc

  tys_tied : (Ss Ts : Tys) → tys_count Ss ≡ tys_count Ts → tys_cmp Ss Ts ≡ Equal → Ss ≡ Ts
  tys_tied NoTys NoTys n e = refl
  tys_tied NoTys (MoreTys T Ts) n e = absurd (omega arith)
  tys_tied (MoreTys S Ss) NoTys n e = absurd (omega arith)
  tys_tied (MoreTys S Ss) (MoreTys T Ts) n e = let p = then_equal (ty_cmp S T) (tys_cmp Ss Ts) e in λ i. MoreTys (types_tied S T p.0 i) (tys_tied Ss Ts (omega arith) p.1 i)

parts_tied : (t u : Tm) (heads args : Ordering) → by_size t u heads args ≡ Equal → (heads ≡ Equal) × (arity t ≡ arity u) × (args ≡ Equal)
parts_tied t u heads args e =
    let p = then_equal (nat_cmp (counted_size t) (counted_size u)) (ordering_then heads (ordering_then (nat_cmp (arity t) (arity u)) args)) e in
    let q = then_equal heads (ordering_then (nat_cmp (arity t) (arity u)) args) p.1 in
    let r = then_equal (nat_cmp (arity t) (arity u)) args q.1 in
    (q.0, numbers_tied (arity t) (arity u) r.0, r.1)

head_skip : (t g b : Tm) → head_cmp t (App g b) ≡ head_cmp t g
head_skip (Const x T) g b = refl
head_skip (Free x T) g b = refl
head_skip (Unknown x i T) g b = refl
head_skip (Bound i) g b = refl
head_skip (Abs x T c) g b = refl
head_skip (App f a) g b = head_skip f g b

terms_tied : (t u : Tm) → head_cmp t u ≡ Equal → arity t ≡ arity u → args_cmp t u ≡ Equal → bare t ≡ bare u
terms_tied (Const x S) (Const y T) h n e = let p = then_equal (name_cmp x y) (ty_cmp S T) h in λ i. Const (names_tied x y p.0 i) (types_tied S T p.1 i)
terms_tied (Free x S) (Free y T) h n e = let p = then_equal (free_cmp x y) (ty_cmp S T) h in λ i. Free (frees_tied x y p.0 i) (types_tied S T p.1 i)
terms_tied (Unknown x i S) (Unknown y j T) h n e =
    let p = then_equal (name_cmp x y) (ordering_then (nat_cmp i j) (ty_cmp S T)) h in
    let q = then_equal (nat_cmp i j) (ty_cmp S T) p.1 in
    λ k. Unknown (names_tied x y p.0 k) (numbers_tied i j q.0 k) (types_tied S T q.1 k)
terms_tied (Bound i) (Bound j) h n e = ap Bound (numbers_tied i j h)
terms_tied (Abs x S b) (Abs y T c) h n e =
    let p = then_equal (ty_cmp S T) (tm_cmp b c) h in
    let q = parts_tied b c (head_cmp b c) (args_cmp b c) p.1 in
    λ i. Abs [] (types_tied S T p.0 i) (terms_tied b c q.0 q.1 q.2 i)
terms_tied (App f a) (App g b) h n e =
    let p = then_equal (args_cmp f g) (tm_cmp a b) e in
    let q = parts_tied a b (head_cmp a b) (args_cmp a b) p.1 in
    λ i. App (terms_tied f g (sym (head_skip f g b) ∙ h) (omega arith) p.0 i) (terms_tied a b q.0 q.1 q.2 i)
terms_tied (App f a) (Const y T) h n e = absurd (omega arith)
terms_tied (App f a) (Free y T) h n e = absurd (omega arith)
terms_tied (App f a) (Unknown y j T) h n e = absurd (omega arith)
terms_tied (App f a) (Bound j) h n e = absurd (omega arith)
terms_tied (App f a) (Abs y T c) h n e = absurd (omega arith)
terms_tied t (App g b) h n e = absurd (omega arith)
terms_tied t u h n e = cc

-- ---- and the names of binders that it does not see
size_bare : (t : Tm) → tm_size (bare t) ≡ tm_size t
size_bare (Const x T) = refl
size_bare (Free x T) = refl
size_bare (Unknown x i T) = refl
size_bare (Bound i) = refl
size_bare (Abs x T b) = λ i. size_bare b i + 1
size_bare (App f a) = λ i. size_bare f i + size_bare a i

arity_bare : (t : Tm) → arity (bare t) ≡ arity t
arity_bare (Const x T) = refl
arity_bare (Free x T) = refl
arity_bare (Unknown x i T) = refl
arity_bare (Bound i) = refl
arity_bare (Abs x T b) = refl
arity_bare (App f a) = λ i. arity_bare f i + 1

whole_bare : (t : Tm) (h h' a a' : List ℕ) → h ≡ h' → a ≡ a' → whole (bare t) h a ≡ whole t h' a'
whole_bare t h h' a a' p q = λ i. min (size_bare t i) (2 ^ 64 - 1) ∷ (p i ++ (arity_bare t i ∷ q i))

mutual
  head_bare : (t : Tm) → head_code (bare t) ≡ head_code t
  head_bare (Const x T) = refl
  head_bare (Free x T) = refl
  head_bare (Unknown x i T) = refl
  head_bare (Bound i) = refl
  head_bare (Abs x T b) = ap (λ c. 4 ∷ (ty_code T ++ c)) (whole_bare b _ _ _ _ (head_bare b) (args_bare b))
  head_bare (App f a) = head_bare f

  args_bare : (t : Tm) → args_code (bare t) ≡ args_code t
  args_bare (Const x T) = refl
  args_bare (Free x T) = refl
  args_bare (Unknown x i T) = refl
  args_bare (Bound i) = refl
  args_bare (Abs x T b) = refl
  args_bare (App f a) = λ i. args_bare f i ++ whole_bare a _ _ _ _ (head_bare a) (args_bare a) i

code_bare : (t : Tm) → code (bare t) ≡ code t
code_bare t = whole_bare t _ _ _ _ (head_bare t) (args_bare t)

pub tm_ties : (t u : Tm) → tm_cmp t u ≡ Equal → bare t ≡ bare u
tm_ties t u e = let p = parts_tied t u (head_cmp t u) (args_cmp t u) e in terms_tied t u p.0 p.1 p.2

pub tm_tied : (t u : Tm) → bare t ≡ bare u → tm_cmp t u ≡ Equal
tm_tied t u e =
    let same : code t ≡ code u = sym (code_bare t) ∙ ap code e ∙ code_bare u in
    sym (spells t u) ∙ ap (lists (code t)) (sym same) ∙ tied_itself nat_list_cmp_total (code t)
