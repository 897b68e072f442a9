-- Typed terms without their types and names: the conversion and the normal forms stay.
use Rattle.std.proofs.Common.{◌≡◌, ◌≢◌, ℕ, zero, suc, ◌+◌, ◌-◌, ◌<◌, ◌≤◌, List, Bool, true, false, cond, not, ◌&&◌, ◌||◌, nat_eq, nat_lt, refl, sym, ap, ◌∙◌, arith}
use Rattle.std.proofs.lemmas.Bool.Decides.{nat_tests}
use Rattle.isa_terms.specs.Types.{Ty}
use Rattle.isa_terms.specs.Terms.{Tm, Const, Free, Unknown, Bound, Abs, App}
use Rattle.isa_terms.specs.Replace.{raise, put, replace}
use Rattle.isa_terms.specs.Norm.{loose}
use Rattle.isa_terms.specs.Normal.{redex, IsHead, IsNormal}
use Rattle.isa_terms.specs.Conversion.{Conv, CRefl, CSym, CTrans, CApp, CAbs, CBeta, CEta}
use Rattle.isa_terms.proofs.Erased.{Erased, Atom, Var, Lam, Ap, up, ren, next, lift, sub, first, p_lam, p_ap, p_beta, p_eta, Linked, by_step, back, through, IsStuck}
use Rattle.isa_terms.proofs.Renaming.{ren_same, ren-ren, sub_same, Same, SameSub}
use Rattle.isa_terms.proofs.Parallel.{par_self}
use Rattle.isa_terms.proofs.Diamond.{same_number, has, has-next, fun_same, arg_same, LamCase, stays, contracts, ApCase, both, fires, lam_inv, ap_inv, var_inv, atom_inv}

abbrev pub erase : Tm → Erased
erase (Const x T) = Atom (Const x T)
erase (Free x T) = Atom (Free x T)
erase (Unknown x i T) = Atom (Unknown x i T)
erase (Bound i) = Var i
erase (Abs x T b) = Lam (erase b)
erase (App f a) = Ap (erase f) (erase a)

one_more : (n : ℕ) → suc n ≡ n + 1
one_more n = omega arith

-- ---- raising
-- what raising by n under k binders does to a number
abbrev pub raised : ℕ → ℕ → ℕ → ℕ
raised n k i = cond (nat_lt i k) i (i + n)

up_raised_by : (n k i : ℕ) (b c : Bool) → nat_lt i k ≡ b → nat_lt (suc i) (k + 1) ≡ c → suc (cond b i (i + n)) ≡ cond c (suc i) (suc i + n)
up_raised_by n k i true true h l = refl
up_raised_by n k i false false h l = omega arith
up_raised_by n k i true false h l = let lt : i < k = grind (arith, nat_tests) in let ge : k + 1 ≤ suc i = grind (arith, nat_tests) in absurd (omega arith)
up_raised_by n k i false true h l = let ge : k ≤ i = grind (arith, nat_tests) in let lt : suc i < k + 1 = grind (arith, nat_tests) in absurd (omega arith)

pub up_raised : (n k : ℕ) → Same (up (raised n k)) (raised n (k + 1))
up_raised n k zero = let t : nat_lt 0 (k + 1) ≡ true = grind (arith, nat_tests) in sym (ap (λ b. cond b 0 (0 + n)) t)
up_raised n k (suc i) = up_raised_by n k i (nat_lt i k) (nat_lt (suc i) (k + 1)) refl refl

erase_choice : (b : Bool) (i j : ℕ) → erase (cond b (Bound i) (Bound j)) ≡ Var (cond b i j)
erase_choice true i j = refl
erase_choice false i j = refl

pub erase_raise : (n k : ℕ) (t : Tm) → erase (raise n k t) ≡ ren (raised n k) (erase t)
erase_raise n k (Const x T) = refl
erase_raise n k (Free x T) = refl
erase_raise n k (Unknown x i T) = refl
erase_raise n k (Bound i) = erase_choice (nat_lt i k) i (i + n)
erase_raise n k (Abs x T b) = ap Lam (erase_raise n (k + 1) b ∙ sym (ren_same _ _ (up_raised n k) (erase b)))
erase_raise n k (App f a) = λ i. Ap (erase_raise n k f i) (erase_raise n k a i)

-- ---- replacement
-- what is in the place of a number, where a goes in the place of k
abbrev pub placed : Erased → ℕ → ℕ → Erased
placed a k i = cond (nat_eq i k) (ren (raised k 0) a) (cond (nat_lt k i) (Var (i - 1)) (Var i))

pub raised_again : (k i : ℕ) → next (raised k 0 i) ≡ raised (k + 1) 0 i
raised_again k i =
    let t : nat_lt i 0 ≡ false = grind (arith, nat_tests) in
    let e : suc (i + k) ≡ i + (k + 1) = omega arith in
    ap (λ b. suc (cond b i (i + k))) t ∙ e ∙ sym (ap (λ b. cond b i (i + (k + 1))) t)

pub eq_more : (i k : ℕ) (b c : Bool) → nat_eq i k ≡ b → nat_eq (suc i) (k + 1) ≡ c → b ≡ c
eq_more i k true true h l = refl
eq_more i k false false h l = refl
eq_more i k true false h l = let e : i ≡ k = grind (arith, nat_tests) in let n : suc i ≢ k + 1 = grind (arith, nat_tests) in absurd (omega arith)
eq_more i k false true h l = let n : i ≢ k = grind (arith, nat_tests) in let e : suc i ≡ k + 1 = grind (arith, nat_tests) in absurd (omega arith)

raised_more : (k : ℕ) (a : Erased) → ren next (ren (raised k 0) a) ≡ ren (raised (k + 1) 0) a
raised_more k a = ren-ren next (raised k 0) a ∙ ren_same _ _ (raised_again k) a

renamed_choice : (b : Bool) (i : ℕ) → ren next (cond b (Var (i - 1)) (Var i)) ≡ cond b (Var (suc (i - 1))) (Var (suc i))
renamed_choice true i = refl
renamed_choice false i = refl

lift_placed_by : (a : Erased) (k i : ℕ) (b c d : Bool) → nat_eq i k ≡ b → nat_lt k i ≡ c → nat_lt (k + 1) (suc i) ≡ d → ren next (cond b (ren (raised k 0) a) (cond c (Var (i - 1)) (Var i))) ≡ cond b (ren (raised (k + 1) 0) a) (cond d (Var (suc i - 1)) (Var (suc i)))
lift_placed_by a k i true c d h l m = raised_more k a
lift_placed_by a k i false true true h l m = let lt : k < i = grind (arith, nat_tests) in let e : suc (i - 1) ≡ suc i - 1 = omega arith in ap Var e
lift_placed_by a k i false false false h l m = refl
lift_placed_by a k i false true false h l m = let lt : k < i = grind (arith, nat_tests) in let ge : suc i ≤ k + 1 = grind (arith, nat_tests) in absurd (omega arith)
lift_placed_by a k i false false true h l m = let ge : i ≤ k = grind (arith, nat_tests) in let lt : k + 1 < suc i = grind (arith, nat_tests) in absurd (omega arith)

lift_placed : (a : Erased) (k : ℕ) → SameSub (lift (placed a k)) (placed a (k + 1))
lift_placed a k zero =
    let e : nat_eq 0 (k + 1) ≡ false = grind (arith, nat_tests) in
    let l : nat_lt (k + 1) 0 ≡ false = grind (arith, nat_tests) in
    sym (ap (λ b. cond b (ren (raised (k + 1) 0) a) (cond (nat_lt (k + 1) 0) (Var (0 - 1)) (Var 0))) e ∙ ap (λ b. cond b (Var (0 - 1)) (Var 0)) l)
lift_placed a k (suc i) =
    let e : nat_eq i k ≡ nat_eq (suc i) (k + 1) = eq_more i k (nat_eq i k) (nat_eq (suc i) (k + 1)) refl refl in
    lift_placed_by a k i (nat_eq i k) (nat_lt k i) (nat_lt (k + 1) (suc i)) refl refl refl ∙ ap (λ b. cond b (ren (raised (k + 1) 0) a) (cond (nat_lt (k + 1) (suc i)) (Var (suc i - 1)) (Var (suc i)))) e

erase_either : (b : Bool) (t u : Tm) → erase (cond b t u) ≡ cond b (erase t) (erase u)
erase_either true t u = refl
erase_either false t u = refl

pub erase_put : (a : Tm) (k : ℕ) (t : Tm) → erase (put a k t) ≡ sub (placed (erase a) k) (erase t)
erase_put a k (Const x T) = refl
erase_put a k (Free x T) = refl
erase_put a k (Unknown x i T) = refl
erase_put a k (Bound i) =
    erase_either (nat_eq i k) (raise k 0 a) (cond (nat_lt k i) (Bound (i - 1)) (Bound i))
    ∙ (λ j. cond (nat_eq i k) (erase_raise k 0 a j) (erase_either (nat_lt k i) (Bound (i - 1)) (Bound i) j))
erase_put a k (Abs x T b) = ap Lam (erase_put a (k + 1) b ∙ sym (sub_same _ _ (lift_placed (erase a) k) (erase b)))
erase_put a k (App f b) = λ i. Ap (erase_put a k f i) (erase_put a k b i)

pub raised_none : (k : ℕ) (i : ℕ) → raised 0 0 i ≡ i
raised_none k i = let e : i + 0 ≡ i = omega arith in ap (λ b. cond b i (i + 0)) (below i) ∙ e
  where
    below : (i : ℕ) → nat_lt i 0 ≡ false
    below i = grind (arith, nat_tests)

renamed_none : (a : Erased) → ren (raised 0 0) a ≡ a
renamed_none a = ren_none (raised 0 0) (raised_none 0) a
  where
    up_none : (r : ℕ → ℕ) → ((n : ℕ) → r n ≡ n) → (n : ℕ) → up r n ≡ n
    up_none r h zero = refl
    up_none r h (suc n) = ap (λ m. suc m) (h n)

    ren_none : (r : ℕ → ℕ) → ((n : ℕ) → r n ≡ n) → (t : Erased) → ren r t ≡ t
    ren_none r h (Atom c) = refl
    ren_none r h (Var n) = ap Var (h n)
    ren_none r h (Lam b) = ap Lam (ren_none (up r) (up_none r h) b)
    ren_none r h (Ap f a) = λ i. Ap (ren_none r h f i) (ren_none r h a i)

placed_first : (a : Erased) → SameSub (placed a 0) (first a)
placed_first a zero = renamed_none a
placed_first a (suc n) =
    let e : nat_eq (suc n) 0 ≡ false = grind (arith, nat_tests) in
    let l : nat_lt 0 (suc n) ≡ true = grind (arith, nat_tests) in
    let m : suc n - 1 ≡ n = omega arith in
    ap (λ b. cond b (ren (raised 0 0) a) (cond (nat_lt 0 (suc n)) (Var (suc n - 1)) (Var (suc n)))) e ∙ ap (λ b. cond b (Var (suc n - 1)) (Var (suc n))) l ∙ ap Var m

pub erase_replace : (b a : Tm) → erase (replace b a) ≡ sub (first (erase a)) (erase b)
erase_replace b a = erase_put a 0 b ∙ sub_same _ _ (placed_first (erase a)) (erase b)

pub raised_next : Same (raised 1 0) next
raised_next i =
    let t : nat_lt i 0 ≡ false = grind (arith, nat_tests) in
    let e : i + 1 ≡ suc i = omega arith in
    ap (λ b. cond b i (i + 1)) t ∙ e

pub erase_next : (t : Tm) → erase (raise 1 0 t) ≡ ren next (erase t)
erase_next t = erase_raise 1 0 t ∙ ren_same _ _ raised_next (erase t)

-- ---- conversion
linked_lam : {t u : Erased} → Linked t u → Linked (Lam t) (Lam u)
linked_lam (by_step h) = by_step (p_lam h)
linked_lam (back h) = back (linked_lam h)
linked_lam (through h k) = through (linked_lam h) (linked_lam k)

linked_fun : {t u : Erased} (a : Erased) → Linked t u → Linked (Ap t a) (Ap u a)
linked_fun a (by_step h) = by_step (p_ap h (par_self a))
linked_fun a (back h) = back (linked_fun a h)
linked_fun a (through h k) = through (linked_fun a h) (linked_fun a k)

linked_arg : {t u : Erased} (f : Erased) → Linked t u → Linked (Ap f t) (Ap f u)
linked_arg f (by_step h) = by_step (p_ap (par_self f) h)
linked_arg f (back h) = back (linked_arg f h)
linked_arg f (through h k) = through (linked_arg f h) (linked_arg f k)

pub linked : {G : List Ty} {T : Ty} {t u : Tm} → Conv G T t u → Linked (erase t) (erase u)
linked (CRefl {t} d) = by_step (par_self (erase t))
linked (CSym c) = back (linked c)
linked (CTrans c d) = through (linked c) (linked d)
linked (CApp {f} {g} {a} {b} c d) = through (linked_fun (erase a) (linked c)) (linked_arg (erase g) (linked d))
linked (CAbs c) = linked_lam (linked c)
linked (CBeta {b} {a} d e) = by_step (p_beta (par_self (erase b)) (par_self (erase a)) (erase_replace b a))
linked (CEta {f} d) = by_step (p_eta (erase_next f) (par_self (erase f)))

-- ---- normal forms
same_eq : (i k : ℕ) → nat_eq i k ≡ same_number i k
same_eq zero zero = refl
same_eq zero (suc k) = let e : nat_eq 0 (suc k) ≡ false = grind (arith, nat_tests) in e
same_eq (suc i) zero = let e : nat_eq (suc i) 0 ≡ false = grind (arith, nat_tests) in e
same_eq (suc i) (suc k) = less i k (nat_eq (suc i) (suc k)) (nat_eq i k) refl refl ∙ same_eq i k
  where
    less : (i k : ℕ) (b c : Bool) → nat_eq (suc i) (suc k) ≡ b → nat_eq i k ≡ c → b ≡ c
    less i k true true h l = refl
    less i k false false h l = refl
    less i k true false h l = let e : suc i ≡ suc k = grind (arith, nat_tests) in let n : i ≢ k = grind (arith, nat_tests) in absurd (omega arith)
    less i k false true h l = let n : suc i ≢ suc k = grind (arith, nat_tests) in let e : i ≡ k = grind (arith, nat_tests) in absurd (omega arith)

pub loose_has : (k : ℕ) (t : Tm) → loose k t ≡ has k (erase t)
loose_has k (Const x T) = refl
loose_has k (Free x T) = refl
loose_has k (Unknown x i T) = refl
loose_has k (Bound i) = same_eq i k
loose_has k (Abs x T b) = ap (λ j. loose j b) (sym (one_more k)) ∙ loose_has (suc k) b
loose_has k (App f a) = λ i. loose_has k f i || loose_has k a i

-- a body that erases to one that eta contracts is one that eta contracts
contracted : (b : Tm) (s f : Erased) → erase b ≡ Ap s (Var 0) → s ≡ ren next f → redex b ≡ true
contracted (App g (Bound i)) s f e h =
    let v : Var i ≡ Var 0 = arg_same e in
    let z : i ≡ 0 = cc in
    let t : nat_eq i 0 ≡ true = grind (arith, nat_tests) in
    let l : loose 0 g ≡ false = loose_has 0 g ∙ ap (has 0) (fun_same e ∙ h) ∙ has-next 0 f in
    λ j. t j && not (l j)
contracted (App g (Const x T)) s f e h = let q = arg_same e in absurd (cc)
contracted (App g (Free x T)) s f e h = let q = arg_same e in absurd (cc)
contracted (App g (Unknown x i T)) s f e h = let q = arg_same e in absurd (cc)
contracted (App g (Abs x T b)) s f e h = let q = arg_same e in absurd (cc)
contracted (App g (App c d)) s f e h = let q = arg_same e in absurd (cc)
contracted (Const x T) s f e h = absurd (cc)
contracted (Free x T) s f e h = absurd (cc)
contracted (Unknown x i T) s f e h = absurd (cc)
contracted (Bound i) s f e h = absurd (cc)
contracted (Abs x T b) s f e h = absurd (cc)

stuck_lam : (b : Tm) (u : Erased) → IsStuck (erase b) → redex b ≡ false → LamCase (erase b) u → u ≡ Lam (erase b)
stuck_lam b u n r (stays c e h) = e ∙ ap Lam (n c h)
stuck_lam b u n r (contracts s f e h k) = let q = contracted b s f e h in absurd (cc)

no_lam : (f : Tm) (b : Erased) → IsHead f → erase f ≡ Lam b → ⊥
no_lam (Const x T) b h e = cc
no_lam (Free x T) b h e = cc
no_lam (Unknown x i T) b h e = cc
no_lam (Bound i) b h e = cc
no_lam (Abs x T c) b h e = h
no_lam (App g a) b h e = cc

stuck_ap : (f a : Tm) (u : Erased) → IsHead f → IsStuck (erase f) → IsStuck (erase a) → ApCase (erase f) (erase a) u → u ≡ Ap (erase f) (erase a)
stuck_ap f a u h n m (both g d e k l) = e ∙ (λ i. Ap (n g k i) (m d l i))
stuck_ap f a u h n m (fires b c d e k l z) = absurd (no_lam f b h e)

pub stuck : (t : Tm) → IsNormal t → IsStuck (erase t)
stuck (Const x T) n u h = atom_inv h (Const x T) refl
stuck (Free x T) n u h = atom_inv h (Free x T) refl
stuck (Unknown x i T) n u h = atom_inv h (Unknown x i T) refl
stuck (Bound i) n u h = var_inv h i refl
stuck (Abs x T b) n u h = stuck_lam b u (stuck b n.0) n.1 (lam_inv h (erase b) refl)
stuck (App f a) n u h = stuck_ap f a u n.0 (stuck f n.1.0) (stuck a n.1.1) (ap_inv h (erase f) (erase a) refl)
