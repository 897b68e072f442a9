-- Typing as a relation, and that replacement keeps it.
use Rattle.std.proofs.Common.{◌≡◌, ◌≢◌, ℕ, zero, suc, ◌+◌, ◌-◌, ◌<◌, ◌≤◌, List, [], ◌∷◌, ◌++◌, length, Bool, true, false, cond, ◌||◌, nat_eq, nat_lt, Option, Some, None, Result, Ok, Err, refl, sym, ap, ◌∙◌, subst, arith}
use Rattle.std.specs.List.{slice_get}
use Rattle.std.proofs.lemmas.Bool.Decides.{nat_tests}
use Rattle.isa_terms.specs.Types.{Ty}
use Rattle.isa_terms.specs.Terms.{Tm, Const, Free, Unknown, Bound, Abs, App}
use Rattle.isa_terms.specs.Equal.{ty_eq}
use Rattle.isa_terms.specs.Typing.{TypeFault, NotFunction, Differs, Loose, type_at, function_of, function_parts, deeper, abs_type, app_type, given_type, bound_type}
use Rattle.isa_terms.specs.Replace.{raise, put}
use Rattle.isa_terms.specs.declared.typing.Turn.TheVariants.{Fun, Arg, Body}
use Rattle.isa_terms.proofs.Equal.{ty_decides}
use Rattle.isa_terms.proofs.Functions.{function_made}
use Rattle.isa_terms.specs.Norm.{loose}
pub use Rattle.isa_terms.specs.Typed.{Typed, TConst, TFree, TUnknown, TBound, TAbs, TApp}

-- ---- the function and the relation agree
function_parts_of : (S T : Ty) → function_parts (function_of S T) ≡ Some (S, T)
function_parts_of S T = refl

pub type_of_typed : {G : List Ty} {t : Tm} {T : Ty} → Typed G t T → type_at G t ≡ Ok T
type_of_typed TConst = refl
type_of_typed TFree = refl
type_of_typed TUnknown = refl
type_of_typed (TBound {G} {n} {T} h) = ap (bound_type n) h
type_of_typed (TAbs {G} {x} {S} {T} {b} d) = ap (λ r. abs_type S (deeper Body r)) (type_of_typed d)
type_of_typed (TApp {G} {S} {T} {f} {a} d e) =
    (λ i. app_type (deeper Fun (type_of_typed d i)) (deeper Arg (type_of_typed e i))) ∙ ap (λ c. cond c (Ok T) (Err (Differs [] S S))) ((ty_decides S S).1 refl)

abs_ok : (S : Ty) (r : Result Ty TypeFault) (U : Ty) → abs_type S (deeper Body r) ≡ Ok U → (B : Ty) × (r ≡ Ok B) × (function_of S B ≡ U)
abs_ok S (Ok B) U e = (B, refl, cc)
abs_ok S (Err (NotFunction p h)) U e = cc
abs_ok S (Err (Differs p w h)) U e = cc
abs_ok S (Err (Loose p n)) U e = cc

bound_ok : (n : ℕ) (o : Option Ty) (U : Ty) → bound_type n o ≡ Ok U → o ≡ Some U
bound_ok n None U e = cc
bound_ok n (Some T) U e = cc

fun_ok : (r s : Result Ty TypeFault) (U : Ty) → app_type (deeper Fun r) s ≡ Ok U → (F : Ty) × (r ≡ Ok F) × (app_type (Ok F) s ≡ Ok U)
fun_ok (Ok F) s U e = (F, refl, e)
fun_ok (Err (NotFunction p h)) s U e = cc
fun_ok (Err (Differs p w h)) s U e = cc
fun_ok (Err (Loose p n)) s U e = cc

arg_ok : (F : Ty) (s : Result Ty TypeFault) (U : Ty) → app_type (Ok F) (deeper Arg s) ≡ Ok U → (A : Ty) × (s ≡ Ok A) × (given_type F (function_parts F) A ≡ Ok U)
arg_ok F (Ok A) U e = (A, refl, e)
arg_ok F (Err (NotFunction p h)) U e = cc
arg_ok F (Err (Differs p w h)) U e = cc
arg_ok F (Err (Loose p n)) U e = cc

given_same : (S A : Ty) (T : Ty) (b : Bool) (w : Result Ty TypeFault) (U : Ty) → ty_eq S A ≡ b → w ≡ Err (Differs [] S A) → cond b (Ok T) w ≡ Ok U → (S ≡ A) × (T ≡ U)
given_same S A T true w U h k e = ((ty_decides S A).0 h, cc)
given_same S A T false w U h k e = cc

given_ok : (F A U : Ty) (p : Option (Ty × Ty)) → function_parts F ≡ p → given_type F p A ≡ Ok U → F ≡ function_of A U
given_ok F A U None h e = cc
given_ok F A U (Some p) h e =
    let s = given_same p.0 A p.1 (ty_eq p.0 A) (Err (Differs [] p.0 A)) U refl refl e in
    function_made F p h ∙ (λ i. function_of (s.0 i) (s.1 i))

pub typed_of_type : (G : List Ty) (t : Tm) (T : Ty) → type_at G t ≡ Ok T → Typed G t T
typed_of_type G (Const x S) T e = let q : S ≡ T = cc in subst (λ U. Typed G (Const x S) U) q TConst
typed_of_type G (Free x S) T e = let q : S ≡ T = cc in subst (λ U. Typed G (Free x S) U) q TFree
typed_of_type G (Unknown x i S) T e = let q : S ≡ T = cc in subst (λ U. Typed G (Unknown x i S) U) q TUnknown
typed_of_type G (Bound n) T e = TBound (bound_ok n (slice_get G n) T e)
typed_of_type G (Abs x S b) T e =
    let r = abs_ok S (type_at (S ∷ G) b) T e in
    subst (λ U. Typed G (Abs x S b) U) r.2 (TAbs (typed_of_type (S ∷ G) b r.0 r.1))
typed_of_type G (App f a) T e =
    let r = fun_ok (type_at G f) (deeper Arg (type_at G a)) T e in
    let s = arg_ok r.0 (type_at G a) T r.2 in
    let F = given_ok r.0 s.0 T (function_parts r.0) refl s.2 in
    TApp (subst (λ U. Typed G f U) F (typed_of_type G f r.0 r.1)) (typed_of_type G a s.0 s.1)

-- ---- places in lists
pub get_before : (P Q R : List Ty) (n : ℕ) → n < length P → slice_get (P ++ Q) n ≡ slice_get (P ++ R) n
get_before [] Q R n h = absurd (omega arith)
get_before (S ∷ P) Q R zero h = refl
get_before (S ∷ P) Q R (suc n) h = get_before P Q R n (omega arith)

pub get_at : (P Q : List Ty) (S : Ty) → slice_get (P ++ S ∷ Q) (length P) ≡ Some S
get_at [] Q S = refl
get_at (T ∷ P) Q S = get_at P Q S

pub get_after : (P Q : List Ty) (S : Ty) (n : ℕ) → length P ≤ n → slice_get (P ++ S ∷ Q) (suc n) ≡ slice_get (P ++ Q) n
get_after [] Q S n h = refl
get_after (T ∷ P) Q S zero h = absurd (omega arith)
get_after (T ∷ P) Q S (suc n) h = get_after P Q S n (omega arith)

pub get_shift : (P D Q : List Ty) (n : ℕ) → length P ≤ n → slice_get (P ++ (D ++ Q)) (n + length D) ≡ slice_get (P ++ Q) n
get_shift [] [] Q n h = let e : n + 0 ≡ n = omega arith in ap (slice_get Q) e
get_shift [] (T ∷ D) Q n h = let e : n + suc (length D) ≡ suc (n + length D) = omega arith in ap (slice_get (T ∷ (D ++ Q))) e ∙ get_shift [] D Q n h
get_shift (T ∷ P) D Q zero h = absurd (omega arith)
get_shift (T ∷ P) D Q (suc n) h =
    let e : suc n + length D ≡ suc (n + length D) = omega arith in
    ap (slice_get (T ∷ (P ++ (D ++ Q)))) e ∙ get_shift P D Q n (omega arith)

one_more : (n : ℕ) → suc n ≡ n + 1
one_more n = omega arith

-- ---- weakening
raise_bound : (P D Q : List Ty) (n : ℕ) (T : Ty) (b : Bool) → nat_lt n (length P) ≡ b → slice_get (P ++ Q) n ≡ Some T → Typed (P ++ (D ++ Q)) (cond b (Bound n) (Bound (n + length D))) T
raise_bound P D Q n T true h e = let lt : n < length P = grind (arith, nat_tests) in TBound (get_before P (D ++ Q) Q n lt ∙ e)
raise_bound P D Q n T false h e = let le : length P ≤ n = grind (arith, nat_tests) in TBound (get_shift P D Q n le ∙ e)

pub raise_typed : (P D Q : List Ty) {G : List Ty} {t : Tm} {T : Ty} → G ≡ P ++ Q → Typed G t T → Typed (P ++ (D ++ Q)) (raise (length D) (length P) t) T
raise_typed P D Q e TConst = TConst
raise_typed P D Q e TFree = TFree
raise_typed P D Q e TUnknown = TUnknown
raise_typed P D Q e (TBound {G} {n} {T} h) = raise_bound P D Q n T (nat_lt n (length P)) refl (ap (λ K. slice_get K n) (sym e) ∙ h)
raise_typed P D Q e (TAbs {G} {x} {S} {T} {b} d) =
    TAbs (subst (λ k. Typed (S ∷ (P ++ (D ++ Q))) (raise (length D) k b) T) (one_more (length P)) (raise_typed (S ∷ P) D Q (ap (λ K. S ∷ K) e) d))
raise_typed P D Q e (TApp d c) = TApp (raise_typed P D Q e d) (raise_typed P D Q e c)

-- ---- replacement
put_later : (P Q : List Ty) (S T : Ty) (n : ℕ) (b : Bool) → nat_lt (length P) n ≡ b → n ≢ length P → slice_get (P ++ S ∷ Q) n ≡ Some T → Typed (P ++ Q) (cond b (Bound (n - 1)) (Bound n)) T
put_later P Q S T zero true h ne e = let lt : length P < zero = grind (arith, nat_tests) in absurd (omega arith)
put_later P Q S T (suc n) true h ne e =
    let lt : length P < suc n = grind (arith, nat_tests) in
    let is : suc n - 1 ≡ n = omega arith in
    TBound (ap (slice_get (P ++ Q)) is ∙ sym (get_after P Q S n (omega arith)) ∙ e)
put_later P Q S T n false h ne e = let le : n ≤ length P = grind (arith, nat_tests) in TBound (get_before P Q (S ∷ Q) n (omega arith) ∙ e)

put_bound : (P Q : List Ty) (S T : Ty) (a : Tm) (n : ℕ) (b : Bool) → nat_eq n (length P) ≡ b → Typed Q a S → slice_get (P ++ S ∷ Q) n ≡ Some T → Typed (P ++ Q) (cond b (raise (length P) 0 a) (cond (nat_lt (length P) n) (Bound (n - 1)) (Bound n))) T
put_bound P Q S T a n true h d e =
    let at : n ≡ length P = grind (arith, nat_tests) in
    let some : Some S ≡ Some T = sym (get_at P Q S) ∙ ap (slice_get (P ++ S ∷ Q)) (sym at) ∙ e in
    let same : S ≡ T = cc in
    subst (λ U. Typed (P ++ Q) (raise (length P) 0 a) U) same (raise_typed [] P Q refl d)
put_bound P Q S T a n false h d e = let ne : n ≢ length P = grind (arith, nat_tests) in put_later P Q S T n (nat_lt (length P) n) refl ne e

pub put_typed : (P Q : List Ty) (S : Ty) (a : Tm) {G : List Ty} {b : Tm} {T : Ty} → G ≡ P ++ S ∷ Q → Typed Q a S → Typed G b T → Typed (P ++ Q) (put a (length P) b) T
put_typed P Q S a e c TConst = TConst
put_typed P Q S a e c TFree = TFree
put_typed P Q S a e c TUnknown = TUnknown
put_typed P Q S a e c (TBound {G} {n} {T} h) = put_bound P Q S T a n (nat_eq n (length P)) refl c (ap (λ K. slice_get K n) (sym e) ∙ h)
put_typed P Q S a e c (TAbs {G} {x} {S = U} {T} {b} d) =
    TAbs (subst (λ k. Typed (U ∷ (P ++ Q)) (put a k b) T) (one_more (length P)) (put_typed (U ∷ P) Q S a (ap (λ K. U ∷ K) e) c d))
put_typed P Q S a e c (TApp d f) = TApp (put_typed P Q S a e c d) (put_typed P Q S a e c f)

-- ---- a variable that is not there
or_false : (a b : Bool) → (a || b) ≡ false → (a ≡ false) × (b ≡ false)
or_false true b e = cc
or_false false b e = (refl, e)

drop_bound : (P Q : List Ty) (S T : Ty) (c : Tm) (n : ℕ) (b : Bool) → nat_eq n (length P) ≡ b → b ≡ false → slice_get (P ++ S ∷ Q) n ≡ Some T → Typed (P ++ Q) (cond b (raise (length P) 0 c) (cond (nat_lt (length P) n) (Bound (n - 1)) (Bound n))) T
drop_bound P Q S T c n true h k e = cc
drop_bound P Q S T c n false h k e = let ne : n ≢ length P = grind (arith, nat_tests) in put_later P Q S T n (nat_lt (length P) n) refl ne e

pub drop_typed : (P Q : List Ty) (S : Ty) (c : Tm) {G : List Ty} {b : Tm} {T : Ty} → G ≡ P ++ S ∷ Q → loose (length P) b ≡ false → Typed G b T → Typed (P ++ Q) (put c (length P) b) T
drop_typed P Q S c e l TConst = TConst
drop_typed P Q S c e l TFree = TFree
drop_typed P Q S c e l TUnknown = TUnknown
drop_typed P Q S c e l (TBound {G} {n} {T} h) = drop_bound P Q S T c n (nat_eq n (length P)) refl l (ap (λ K. slice_get K n) (sym e) ∙ h)
drop_typed P Q S c e l (TAbs {G} {x} {S = U} {T} {b} d) =
    TAbs (subst (λ k. Typed (U ∷ (P ++ Q)) (put c k b) T) (one_more (length P)) (drop_typed (U ∷ P) Q S c (ap (λ K. U ∷ K) e) (ap (λ k. loose k b) (one_more (length P)) ∙ l) d))
drop_typed P Q S c e l (TApp {G} {S = U} {T} {f} {a} d g) =
    let o = or_false (loose (length P) f) (loose (length P) a) l in
    TApp (drop_typed P Q S c e o.0 d) (drop_typed P Q S c e o.1 g)

unloose_later : (k n : ℕ) (b : Bool) → nat_lt k n ≡ b → n ≢ k → raise 1 k (cond b (Bound (n - 1)) (Bound n)) ≡ Bound n
unloose_later k n true h ne =
    let lt : k < n = grind (arith, nat_tests) in
    let t : nat_lt (n - 1) k ≡ false = grind (arith, nat_tests) in
    let m : n - 1 + 1 ≡ n = omega arith in
    ap (λ v. cond v (Bound (n - 1)) (Bound (n - 1 + 1))) t ∙ ap Bound m
unloose_later k n false h ne = let t : nat_lt n k ≡ true = grind (arith, nat_tests) in ap (λ v. cond v (Bound n) (Bound (n + 1))) t

unloose_bound : (c : Tm) (k n : ℕ) (b : Bool) → nat_eq n k ≡ b → b ≡ false → raise 1 k (cond b (raise k 0 c) (cond (nat_lt k n) (Bound (n - 1)) (Bound n))) ≡ Bound n
unloose_bound c k n true h e = cc
unloose_bound c k n false h e = let ne : n ≢ k = grind (arith, nat_tests) in unloose_later k n (nat_lt k n) refl ne

-- what has not the variable is raised from what it becomes without its binder
pub unloose : (c : Tm) (k : ℕ) (t : Tm) → loose k t ≡ false → raise 1 k (put c k t) ≡ t
unloose c k (Const x T) l = refl
unloose c k (Free x T) l = refl
unloose c k (Unknown x i T) l = refl
unloose c k (Bound n) l = unloose_bound c k n (nat_eq n k) refl l
unloose c k (Abs x T b) l = ap (Abs x T) (unloose c (k + 1) b l)
unloose c k (App f a) l = let o = or_false (loose k f) (loose k a) l in λ i. App (unloose c k f o.0 i) (unloose c k a o.1 i)
