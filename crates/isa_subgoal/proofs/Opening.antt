-- Variables in the place of binders.
use Rattle.std.proofs.Common.{◌≡◌, ◌≢◌, ℕ, zero, suc, ◌+◌, ◌-◌, ◌<◌, ◌≤◌, List, [], ◌∷◌, ◌++◌, length, Bool, true, false, cond, nat_eq, nat_lt, Some, unwrap_or, refl, sym, ap, ◌∙◌, subst, arith}
use Rattle.std.specs.List.{slice_get}
use Rattle.std.proofs.lemmas.Bool.Decides.{nat_tests}
use Rattle.isa_terms.specs.Types.{Ty}
use Rattle.isa_terms.specs.Terms.{Tm, Const, Free, Unknown, Bound, Abs, App}
use Rattle.isa_terms.specs.Replace.{raise, put}
use Rattle.isa_terms.proofs.Typed.{Typed, TConst, TFree, TUnknown, TBound, TAbs, TApp}
use Rattle.isa_kernel.proofs.Fill.{Var, types, filled, fill, fill_below, fill_above, fill_some, get_past, one_more}
use Rattle.isa_kernel.proofs.Quantifier.{put_closed}
use Rattle.isa_subgoal.specs.Private.Reshaping.{opened}

abbrev pub frees : List Var → List Tm
frees [] = []
frees (v ∷ vs) = Free v.0 v.1 ∷ frees vs

opened_filled : (vs : List Var) (i n : ℕ) → unwrap_or (slice_get (frees vs) n) (Bound i) ≡ filled i (slice_get vs n)
opened_filled [] i n = refl
opened_filled (v ∷ vs) i zero = refl
opened_filled (v ∷ vs) i (suc n) = opened_filled vs i n

pub opened_is : (vs : List Var) (k : ℕ) (t : Tm) → opened (frees vs) k t ≡ fill vs k t
opened_is vs k (Const x T) = refl
opened_is vs k (Free x T) = refl
opened_is vs k (Unknown x i T) = refl
opened_is vs k (Bound i) = ap (λ v. cond (nat_lt i k) (Bound i) v) (opened_filled vs i (i - k))
opened_is vs k (Abs x T b) = ap (Abs x T) (opened_is vs (k + 1) b)
opened_is vs k (App f a) = λ i. App (opened_is vs k f i) (opened_is vs k a i)

-- ---- one more variable, put in the place of the outermost binder
put_bound : (P : List Ty) (x : List ℕ) (S : Ty) (vs : List Var) (i : ℕ) (T : Ty) (b c : Bool) → nat_lt i (length P) ≡ b → nat_eq i (length P) ≡ c → slice_get (P ++ (S ∷ types vs)) i ≡ Some T →
    put (Free x S) (length P) (fill vs (length P + 1) (Bound i)) ≡ fill ((x, S) ∷ vs) (length P) (Bound i)
put_bound P x S vs i T true c h l e =
    let lt : i < length P = grind (arith, nat_tests) in
    let ne : nat_eq i (length P) ≡ false = grind (arith, nat_tests) in
    let ge : nat_lt (length P) i ≡ false = grind (arith, nat_tests) in
    ap (put (Free x S) (length P)) (fill_below vs (length P + 1) i (omega arith))
    ∙ ap (λ v. cond v (raise (length P) 0 (Free x S)) (cond (nat_lt (length P) i) (Bound (i - 1)) (Bound i))) ne
    ∙ ap (λ v. cond v (Bound (i - 1)) (Bound i)) ge
    ∙ sym (fill_below ((x, S) ∷ vs) (length P) i lt)
put_bound P x S vs i T false true h l e =
    let at : i ≡ length P = grind (arith, nat_tests) in
    let z : i - length P ≡ zero = omega arith in
    ap (put (Free x S) (length P)) (fill_below vs (length P + 1) i (omega arith))
    ∙ ap (λ v. cond v (raise (length P) 0 (Free x S)) (cond (nat_lt (length P) i) (Bound (i - 1)) (Bound i))) l
    ∙ sym (fill_above ((x, S) ∷ vs) (length P) i (omega arith) ∙ ap (λ n. filled i (slice_get ((x, S) ∷ vs) n)) z)
put_bound P x S vs i T false false h l e =
    let ge : length P ≤ i = grind (arith, nat_tests) in
    let ne : i ≢ length P = grind (arith, nat_tests) in
    let z : i - length P ≡ suc (i - (length P + 1)) = omega arith in
    let there : slice_get (types vs) (i - (length P + 1)) ≡ Some T = ap (slice_get (S ∷ types vs)) (sym z) ∙ sym (get_past P (S ∷ types vs) i ge) ∙ e in
    ap (put (Free x S) (length P)) (fill_above vs (length P + 1) i (omega arith))
    ∙ put_closed (Free x S) (fill_some P vs (i - (length P + 1)) T there i)
    ∙ sym (fill_above ((x, S) ∷ vs) (length P) i ge ∙ ap (λ n. filled i (slice_get ((x, S) ∷ vs) n)) z)

pub put_fill : (P : List Ty) (x : List ℕ) (S : Ty) (vs : List Var) {G : List Ty} {t : Tm} {T : Ty} → G ≡ P ++ (S ∷ types vs) → Typed G t T → put (Free x S) (length P) (fill vs (length P + 1) t) ≡ fill ((x, S) ∷ vs) (length P) t
put_fill P x S vs e TConst = refl
put_fill P x S vs e TFree = refl
put_fill P x S vs e TUnknown = refl
put_fill P x S vs e (TBound {G} {n} {T} h) = put_bound P x S vs n T (nat_lt n (length P)) (nat_eq n (length P)) refl refl (ap (λ K. slice_get K n) (sym e) ∙ h)
put_fill P x S vs e (TAbs {G} {x = y} {S = U} {T} {b} d) =
    let n : ℕ = length P in
    ap (Abs y U) (subst (λ k. put (Free x S) k (fill vs (k + 1) b) ≡ fill ((x, S) ∷ vs) k b) (one_more n) (put_fill (U ∷ P) x S vs (ap (λ K. U ∷ K) e) d))
put_fill P x S vs e (TApp d c) = λ i. App (put_fill P x S vs e d i) (put_fill P x S vs e c i)

-- ---- what has no place for the new variable
filled_anywhere : (vs : List Var) (n : ℕ) (T : Ty) (i j : ℕ) → slice_get (types vs) n ≡ Some T → filled i (slice_get vs n) ≡ filled j (slice_get vs n)
filled_anywhere [] n T i j e = cc
filled_anywhere (v ∷ vs) zero T i j e = refl
filled_anywhere (v ∷ vs) (suc n) T i j e = filled_anywhere vs n T i j e

next_bound : (P : List Ty) (v : Var) (vs : List Var) (i : ℕ) (T : Ty) (b : Bool) → nat_lt i (length P) ≡ b → slice_get (P ++ types vs) i ≡ Some T → fill (v ∷ vs) (length P) (cond b (Bound i) (Bound (i + 1))) ≡ fill vs (length P) (Bound i)
next_bound P v vs i T true h e = let lt : i < length P = grind (arith, nat_tests) in fill_below (v ∷ vs) (length P) i lt ∙ sym (fill_below vs (length P) i lt)
next_bound P v vs i T false h e =
    let ge : length P ≤ i = grind (arith, nat_tests) in
    let z : (i + 1) - length P ≡ suc (i - length P) = omega arith in
    fill_above (v ∷ vs) (length P) (i + 1) (omega arith)
    ∙ ap (λ n. filled (i + 1) (slice_get (v ∷ vs) n)) z
    ∙ filled_anywhere vs (i - length P) T (i + 1) i (sym (get_past P (types vs) i ge) ∙ e)
    ∙ sym (fill_above vs (length P) i ge)

pub fill_next : (P : List Ty) (v : Var) (vs : List Var) {G : List Ty} {t : Tm} {T : Ty} → G ≡ P ++ types vs → Typed G t T → fill (v ∷ vs) (length P) (raise 1 (length P) t) ≡ fill vs (length P) t
fill_next P v vs e TConst = refl
fill_next P v vs e TFree = refl
fill_next P v vs e TUnknown = refl
fill_next P v vs e (TBound {G} {n} {T} h) = next_bound P v vs n T (nat_lt n (length P)) refl (ap (λ K. slice_get K n) (sym e) ∙ h)
fill_next P v vs e (TAbs {G} {x = y} {S = U} {T} {b} d) = ap (Abs y U) (subst (λ k. fill (v ∷ vs) k (raise 1 k b) ≡ fill vs k b) (one_more (length P)) (fill_next (U ∷ P) v vs (ap (λ K. U ∷ K) e) d))
fill_next P v vs e (TApp d c) = λ i. App (fill_next P v vs e d i) (fill_next P v vs e c i)
