-- The normal form of a well-typed term is normal.
use Rattle.std.proofs.Common.{◌≡◌, ◌≢◌, ◌⊎◌, inl, inr, ℕ, zero, suc, ◌+◌, ◌-◌, ◌<◌, ◌≤◌, List, [], ◌∷◌, ◌++◌, length, Bool, true, false, cond, not, ◌&&◌, ◌||◌, nat_eq, nat_lt, Some, refl, sym, ap, ◌∙◌, subst, arith}
use Rattle.std.specs.List.{slice_get}
use Rattle.std.proofs.lemmas.Bool.Decides.{nat_tests}
use Rattle.isa_terms.specs.Types.{Ty, TyCon, TyFixed, TyUnknown}
use Rattle.isa_terms.specs.Terms.{Tm, Const, Free, Unknown, Bound, Abs, App}
use Rattle.isa_terms.specs.Typing.{function_of}
use Rattle.isa_terms.specs.Replace.{raise, put, replace}
use Rattle.isa_terms.specs.Norm.{ty_height, loose, eta, eta_at, put_normal, apply, levels, norm}
use Rattle.isa_terms.specs.Normal.{redex_at, redex, IsHead, IsNormal}
use Rattle.isa_terms.proofs.Typed.{Typed, TConst, TFree, TUnknown, TBound, TAbs, TApp, get_at}
use Rattle.isa_terms.proofs.Conv.{right_typed, put_conv, apply_conv, norm_conv}

-- ---- the variables below the ones that move
pub lt_true : (i k : ℕ) → i < k → nat_lt i k ≡ true
lt_true i k h = grind (arith, nat_tests)

pub lt_false : (i k : ℕ) → k ≤ i → nat_lt i k ≡ false
lt_false i k h = grind (arith, nat_tests)

pub eq_false : (i k : ℕ) → i ≢ k → nat_eq i k ≡ false
eq_false i k h = grind (arith, nat_tests)

pub or_false : (a b : Bool) → (a || b) ≡ false → (a ≡ false) × (b ≡ false)
or_false true b e = cc
or_false false b e = (refl, e)

pub loose_raise_bound : (n k j i : ℕ) (b : Bool) → nat_lt i k ≡ b → j < k → loose j (cond b (Bound i) (Bound (i + n))) ≡ nat_eq i j
loose_raise_bound n k j i true h l = refl
loose_raise_bound n k j i false h l =
    let le : k ≤ i = grind (arith, nat_tests) in
    eq_false (i + n) j (λ e. omega arith) ∙ sym (eq_false i j (λ e. omega arith))

pub loose_raise : (n k j : ℕ) (t : Tm) → j < k → loose j (raise n k t) ≡ loose j t
loose_raise n k j (Const x T) l = refl
loose_raise n k j (Free x T) l = refl
loose_raise n k j (Unknown x i T) l = refl
loose_raise n k j (Bound i) l = loose_raise_bound n k j i (nat_lt i k) refl l
loose_raise n k j (Abs x T b) l = loose_raise n (k + 1) (j + 1) b (omega arith)
loose_raise n k j (App f a) l = λ i. loose_raise n k j f l i || loose_raise n k j a l i

pub loose_put_later : (k j i : ℕ) (b : Bool) → nat_lt k i ≡ b → i ≢ k → j < k → loose j (cond b (Bound (i - 1)) (Bound i)) ≡ nat_eq i j
loose_put_later k j i true h ne l =
    let lt : k < i = grind (arith, nat_tests) in
    eq_false (i - 1) j (λ e. omega arith) ∙ sym (eq_false i j (λ e. omega arith))
loose_put_later k j i false h ne l = refl

pub loose_put_bound : (c : Tm) (k j i : ℕ) (b : Bool) → nat_eq i k ≡ b → b ≡ false → j < k → loose j (cond b (raise k 0 c) (cond (nat_lt k i) (Bound (i - 1)) (Bound i))) ≡ nat_eq i j
loose_put_bound c k j i true h e l = cc
loose_put_bound c k j i false h e l = let ne : i ≢ k = grind (arith, nat_tests) in loose_put_later k j i (nat_lt k i) refl ne l

pub loose_put : (c : Tm) (k j : ℕ) (t : Tm) → j < k → loose k t ≡ false → loose j (put c k t) ≡ loose j t
loose_put c k j (Const x T) l e = refl
loose_put c k j (Free x T) l e = refl
loose_put c k j (Unknown x i T) l e = refl
loose_put c k j (Bound i) l e = loose_put_bound c k j i (nat_eq i k) refl e l
loose_put c k j (Abs x T b) l e = loose_put c (k + 1) (j + 1) b (omega arith) e
loose_put c k j (App f a) l e = let o = or_false (loose k f) (loose k a) e in λ i. loose_put c k j f l o.0 i || loose_put c k j a l o.1 i

-- ---- raising keeps normal forms
pub raise_redex_bound : (n k i : ℕ) (f : Tm) (b : Bool) → nat_lt i k ≡ b → 0 < k → redex_at (raise n k f) (cond b (Bound i) (Bound (i + n))) ≡ redex_at f (Bound i)
raise_redex_bound n k i f true h l = ap (λ v. nat_eq i 0 && not v) (loose_raise n k 0 f l)
raise_redex_bound n k i f false h l =
    let le : k ≤ i = grind (arith, nat_tests) in
    ap (λ v. v && not (loose 0 (raise n k f))) (eq_false (i + n) 0 (λ e. omega arith)) ∙ sym (ap (λ v. v && not (loose 0 f)) (eq_false i 0 (λ e. omega arith)))

pub raise_redex : (n k : ℕ) (b : Tm) → 0 < k → redex (raise n k b) ≡ redex b
raise_redex n k (App f (Bound i)) l = raise_redex_bound n k i f (nat_lt i k) refl l
raise_redex n k (App f (Const x T)) l = refl
raise_redex n k (App f (Free x T)) l = refl
raise_redex n k (App f (Unknown x i T)) l = refl
raise_redex n k (App f (Abs x T b)) l = refl
raise_redex n k (App f (App g a)) l = refl
raise_redex n k (Bound i) l = elim (nat_lt i k) as (λ v. redex (cond v (Bound i) (Bound (i + n))) ≡ false) [ true ↦ refl | false ↦ refl ]
raise_redex n k (Const x T) l = refl
raise_redex n k (Free x T) l = refl
raise_redex n k (Unknown x i T) l = refl
raise_redex n k (Abs x T b) l = refl

pub bound_head : (i j : ℕ) (b : Bool) → IsHead (cond b (Bound i) (Bound j)) × IsNormal (cond b (Bound i) (Bound j))
bound_head i j true = (tt, tt)
bound_head i j false = (tt, tt)

pub raise_head : (n k : ℕ) (t : Tm) → IsHead t → IsHead (raise n k t)
raise_head n k (Bound i) h = (bound_head i (i + n) (nat_lt i k)).0
raise_head n k (Const x T) h = tt
raise_head n k (Free x T) h = tt
raise_head n k (Unknown x i T) h = tt
raise_head n k (Abs x T b) h = absurd h
raise_head n k (App f a) h = tt

pub raise_normal : (n k : ℕ) (t : Tm) → IsNormal t → IsNormal (raise n k t)
raise_normal n k (Const x T) h = tt
raise_normal n k (Free x T) h = tt
raise_normal n k (Unknown x i T) h = tt
raise_normal n k (Bound i) h = (bound_head i (i + n) (nat_lt i k)).1
raise_normal n k (Abs x T b) h = (raise_normal n (k + 1) b h.0, raise_redex n (k + 1) b (omega arith) ∙ h.1)
raise_normal n k (App f a) h = (raise_head n k f h.0, (raise_normal n k f h.1.0, raise_normal n k a h.1.1))

-- ---- and so does the loss of a binder that binds nothing
pub lower_bound : (c : Tm) (k i : ℕ) (b : Bool) → nat_eq i k ≡ b → b ≡ false → IsHead (cond b (raise k 0 c) (cond (nat_lt k i) (Bound (i - 1)) (Bound i))) × IsNormal (cond b (raise k 0 c) (cond (nat_lt k i) (Bound (i - 1)) (Bound i)))
lower_bound c k i true h e = cc
lower_bound c k i false h e = bound_head (i - 1) i (nat_lt k i)

pub lower_redex_later : (k i : ℕ) (v : Bool) (b : Bool) → nat_lt k i ≡ b → i ≢ k → 0 < k → (f : Tm) → redex_at f (cond b (Bound (i - 1)) (Bound i)) ≡ (nat_eq i 0 && not (loose 0 f))
lower_redex_later k i v true h ne l f =
    let lt : k < i = grind (arith, nat_tests) in
    ap (λ w. w && not (loose 0 f)) (eq_false (i - 1) 0 (λ e. omega arith) ∙ sym (eq_false i 0 (λ e. omega arith)))
lower_redex_later k i v false h ne l f = refl

pub lower_redex_bound : (c : Tm) (k i : ℕ) (f : Tm) (b : Bool) → nat_eq i k ≡ b → b ≡ false → 0 < k → loose k f ≡ false → redex_at (put c k f) (cond b (raise k 0 c) (cond (nat_lt k i) (Bound (i - 1)) (Bound i))) ≡ redex_at f (Bound i)
lower_redex_bound c k i f true h e l n = cc
lower_redex_bound c k i f false h e l n =
    let ne : i ≢ k = grind (arith, nat_tests) in
    lower_redex_later k i true (nat_lt k i) refl ne l (put c k f) ∙ ap (λ v. nat_eq i 0 && not v) (loose_put c k 0 f l n)

pub lower_redex : (c : Tm) (k : ℕ) (b : Tm) → 0 < k → loose k b ≡ false → redex (put c k b) ≡ redex b
lower_redex c k (App f (Bound i)) l e = let o = or_false (loose k f) (nat_eq i k) e in lower_redex_bound c k i f (nat_eq i k) refl o.1 l o.0
lower_redex c k (App f (Const x T)) l e = refl
lower_redex c k (App f (Free x T)) l e = refl
lower_redex c k (App f (Unknown x i T)) l e = refl
lower_redex c k (App f (Abs x T b)) l e = refl
lower_redex c k (App f (App g a)) l e = refl
lower_redex c k (Bound i) l e = no_redex c k i (nat_eq i k) refl e (nat_lt k i)
  where
    no_redex : (c : Tm) (k i : ℕ) (b : Bool) → nat_eq i k ≡ b → b ≡ false → (d : Bool) → redex (cond b (raise k 0 c) (cond d (Bound (i - 1)) (Bound i))) ≡ false
    no_redex c k i true h e d = cc
    no_redex c k i false h e true = refl
    no_redex c k i false h e false = refl
lower_redex c k (Const x T) l e = refl
lower_redex c k (Free x T) l e = refl
lower_redex c k (Unknown x i T) l e = refl
lower_redex c k (Abs x T b) l e = refl

pub lower_head : (c : Tm) (k : ℕ) (t : Tm) → loose k t ≡ false → IsHead t → IsHead (put c k t)
lower_head c k (Bound i) e h = (lower_bound c k i (nat_eq i k) refl e).0
lower_head c k (Const x T) e h = tt
lower_head c k (Free x T) e h = tt
lower_head c k (Unknown x i T) e h = tt
lower_head c k (Abs x T b) e h = absurd h
lower_head c k (App f a) e h = tt

pub lower_normal : (c : Tm) (k : ℕ) (t : Tm) → loose k t ≡ false → IsNormal t → IsNormal (put c k t)
lower_normal c k (Const x T) e h = tt
lower_normal c k (Free x T) e h = tt
lower_normal c k (Unknown x i T) e h = tt
lower_normal c k (Bound i) e h = (lower_bound c k i (nat_eq i k) refl e).1
lower_normal c k (Abs x T b) e h = (lower_normal c (k + 1) b e h.0, lower_redex c (k + 1) b (omega arith) e ∙ h.1)
lower_normal c k (App f a) e h = let o = or_false (loose k f) (loose k a) e in (lower_head c k f o.0 h.0, (lower_normal c k f o.0 h.1.0, lower_normal c k a o.1 h.1.1))

-- ---- the abstraction that is made eta short
pub eta_last : (x : List ℕ) (S : Ty) (f : Tm) (i : ℕ) (b d : Bool) → nat_eq i 0 ≡ b → loose 0 f ≡ d → IsNormal (App f (Bound i)) → IsNormal (cond b (cond d (Abs x S (App f (Bound i))) (replace f (Bound 0))) (Abs x S (App f (Bound i))))
eta_last x S f i true true h l n = (n, (λ j. h j && not (l j)))
eta_last x S f i true false h l n = lower_normal (Bound 0) 0 f l n.1.0
eta_last x S f i false d h l n = (n, (λ j. h j && not (loose 0 f)))

pub eta_app_normal : (x : List ℕ) (S : Ty) (f a : Tm) → IsNormal (App f a) → IsNormal (eta_at x S f a)
eta_app_normal x S f (Bound i) n = eta_last x S f i (nat_eq i 0) (loose 0 f) refl refl n
eta_app_normal x S f (Const y T) n = (n, refl)
eta_app_normal x S f (Free y T) n = (n, refl)
eta_app_normal x S f (Unknown y i T) n = (n, refl)
eta_app_normal x S f (Abs y T b) n = (n, refl)
eta_app_normal x S f (App g b) n = (n, refl)

pub eta_normal : (x : List ℕ) (S : Ty) (b : Tm) → IsNormal b → IsNormal (eta x S b)
eta_normal x S (App f a) n = eta_app_normal x S f a n
eta_normal x S (Const y T) n = (n, refl)
eta_normal x S (Free y T) n = (n, refl)
eta_normal x S (Unknown y i T) n = (n, refl)
eta_normal x S (Bound i) n = (n, refl)
eta_normal x S (Abs y T b) n = (n, refl)

-- ---- heights
pub height_pos : (T : Ty) → 0 < ty_height T
height_pos (TyCon x Ts) = omega arith
height_pos (TyFixed x) = omega arith
height_pos (TyUnknown x i) = omega arith

pub one_more : (n : ℕ) → suc n ≡ n + 1
one_more n = omega arith

pub apply_head : (m : ℕ) (f a : Tm) → IsHead f → apply m f a ≡ App f a
apply_head zero f a h = refl
apply_head (suc m) (Abs x T b) a h = absurd h
apply_head (suc m) (Const x T) a h = refl
apply_head (suc m) (Free x T) a h = refl
apply_head (suc m) (Unknown x i T) a h = refl
apply_head (suc m) (Bound i) a h = refl
apply_head (suc m) (App f b) a h = refl

-- what an application gives is normal, where the variable's type is at most that high
abbrev AppliesNormally : ℕ → Type 0
AppliesNormally m = (G : List Ty) (x : List ℕ) (U T : Ty) (b a : Tm) → ty_height U ≤ m → Typed (U ∷ G) b T → IsNormal b → Typed G a U → IsNormal a → IsNormal (apply m (Abs x U b) a)

abbrev Fits : Tm → Ty → Ty → Type 0
Fits r T S = IsHead r ⊎ (ty_height T ≤ ty_height S)

module _ (m : ℕ) (ih : AppliesNormally m) where
  headed : (G : List Ty) (T S : Ty) (f c : Tm) → IsHead f → IsNormal f → IsNormal c → IsNormal (apply m f c) × Fits (apply m f c) T S
  headed G T S f c h nf nc = subst (λ r. IsNormal r × Fits r T S) (sym (apply_head m f c h)) ((h, (nf, nc)), inl tt)

  lower_type : (U T S : Ty) → ty_height (function_of U T) ≤ ty_height S → ty_height T ≤ ty_height S
  lower_type U T S le = omega arith

  lower_arg : (U T S : Ty) → ty_height S ≤ suc m → ty_height (function_of U T) ≤ ty_height S → ty_height U ≤ m
  lower_arg U T S le h = omega arith

  applied : (G : List Ty) (U T S : Ty) (f c : Tm) → ty_height S ≤ suc m → Typed G f (function_of U T) → IsNormal f → Typed G c U → IsNormal c → Fits f (function_of U T) S → IsNormal (apply m f c) × Fits (apply m f c) T S
  applied G U T S f c le d nf e nc (inl h) = headed G T S f c h nf nc
  applied G U T S (Abs x V b) c le (TAbs d) nf e nc (inr h) = (ih G x U T b c (lower_arg U T S le h) d nf.0 e nc, inr (lower_type U T S h))
  applied G U T S (Const x V) c le d nf e nc (inr h) = headed G T S (Const x V) c tt nf nc
  applied G U T S (Free x V) c le d nf e nc (inr h) = headed G T S (Free x V) c tt nf nc
  applied G U T S (Unknown x i V) c le d nf e nc (inr h) = headed G T S (Unknown x i V) c tt nf nc
  applied G U T S (Bound i) c le d nf e nc (inr h) = headed G T S (Bound i) c tt nf nc
  applied G U T S (App f b) c le d nf e nc (inr h) = headed G T S (App f b) c tt nf nc

  -- ---- replacement
  put_found : (P Q : List Ty) (S T : Ty) (a : Tm) (i : ℕ) (b : Bool) → nat_eq i (length P) ≡ b → IsNormal a → slice_get (P ++ S ∷ Q) i ≡ Some T → IsNormal (cond b (raise (length P) 0 a) (cond (nat_lt (length P) i) (Bound (i - 1)) (Bound i))) × Fits (cond b (raise (length P) 0 a) (cond (nat_lt (length P) i) (Bound (i - 1)) (Bound i))) T S
  put_found P Q S T a i true h na e =
      let at : i ≡ length P = grind (arith, nat_tests) in
      let some : Some S ≡ Some T = sym (get_at P Q S) ∙ ap (slice_get (P ++ S ∷ Q)) (sym at) ∙ e in
      let same : S ≡ T = cc in
      (raise_normal (length P) 0 a na, inr (subst (λ U. ty_height U ≤ ty_height S) same (omega arith)))
  put_found P Q S T a i false h na e = let r = bound_head (i - 1) i (nat_lt (length P) i) in (r.1, inl r.0)

  put_fits : (P Q : List Ty) (S : Ty) (a : Tm) → ty_height S ≤ suc m → Typed Q a S → IsNormal a → {G : List Ty} {b : Tm} {T : Ty} → G ≡ P ++ S ∷ Q → Typed G b T → IsNormal b → IsNormal (put_normal (apply m) a (length P) b) × (IsHead b → Fits (put_normal (apply m) a (length P) b) T S)
  put_fits P Q S a le c na e TConst n = (tt, λ h. inl tt)
  put_fits P Q S a le c na e TFree n = (tt, λ h. inl tt)
  put_fits P Q S a le c na e TUnknown n = (tt, λ h. inl tt)
  put_fits P Q S a le c na e (TBound {G} {n = i} {T} g) n =
      let r = put_found P Q S T a i (nat_eq i (length P)) refl na (ap (λ K. slice_get K i) (sym e) ∙ g) in
      (r.0, λ h. r.1)
  put_fits P Q S a le c na e (TAbs {G} {x} {S = U} {T} {b} d) n =
      let r = (put_fits (U ∷ P) Q S a le c na (ap (λ K. U ∷ K) e) d n.0).0 in
      (eta_normal x U (put_normal (apply m) a (length P + 1) b) (subst (λ k. IsNormal (put_normal (apply m) a k b)) (one_more (length P)) r), λ h. absurd h)
  put_fits P Q S a le c na e (TApp {G} {S = U} {T} {f} {a = arg} d g) n =
      let rf = put_fits P Q S a le c na e d n.1.0 in
      let ra = put_fits P Q S a le c na e g n.1.1 in
      let tf = right_typed (put_conv (apply m) (apply_conv m) P Q S a e c d) in
      let ta = right_typed (put_conv (apply m) (apply_conv m) P Q S a e c g) in
      let r = applied (P ++ Q) U T S (put_normal (apply m) a (length P) f) (put_normal (apply m) a (length P) arg) le tf rf.0 ta ra.0 (rf.1 n.0) in
      (r.0, λ h. r.1)

pub apply_normal : (m : ℕ) → AppliesNormally m
apply_normal zero G x U T b a le d nb e na = absurd (omega (arith, height_pos U))
apply_normal (suc m) G x U T b a le d nb e na = (put_fits m (apply_normal m) [] G U a le e na refl d nb).0

pub applied_normal : (G : List Ty) (U T : Ty) (f a : Tm) → Typed G f (function_of U T) → IsNormal f → Typed G a U → IsNormal a → IsNormal (apply (levels f) f a)
applied_normal G U T (Abs x V b) a (TAbs d) nf e na = apply_normal (ty_height V) G x V T b a (omega arith) d nf.0 e na
applied_normal G U T (Const x V) a d nf e na = (tt, (nf, na))
applied_normal G U T (Free x V) a d nf e na = (tt, (nf, na))
applied_normal G U T (Unknown x i V) a d nf e na = (tt, (nf, na))
applied_normal G U T (Bound i) a d nf e na = (tt, (nf, na))
applied_normal G U T (App f b) a d nf e na = (tt, (nf, na))

pub norm_normal : {G : List Ty} {t : Tm} {T : Ty} → Typed G t T → IsNormal (norm t)
norm_normal TConst = tt
norm_normal TFree = tt
norm_normal TUnknown = tt
norm_normal (TBound h) = tt
norm_normal (TAbs {G} {x} {S} {T} {b} d) = eta_normal x S (norm b) (norm_normal d)
norm_normal (TApp {G} {S} {T} {f} {a} d e) = applied_normal G S T (norm f) (norm a) (right_typed (norm_conv d)) (norm_normal d) (right_typed (norm_conv e)) (norm_normal e)

-- ---- what is normal stays
pub eta_last_same : (x : List ℕ) (S : Ty) (f : Tm) (i : ℕ) (b d : Bool) → (b && not d) ≡ false → cond b (cond d (Abs x S (App f (Bound i))) (replace f (Bound 0))) (Abs x S (App f (Bound i))) ≡ Abs x S (App f (Bound i))
eta_last_same x S f i true true h = refl
eta_last_same x S f i true false h = cc
eta_last_same x S f i false d h = refl

pub eta_same : (x : List ℕ) (S : Ty) (b : Tm) → redex b ≡ false → eta x S b ≡ Abs x S b
eta_same x S (App f (Bound i)) h = eta_last_same x S f i (nat_eq i 0) (loose 0 f) h
eta_same x S (App f (Const y T)) h = refl
eta_same x S (App f (Free y T)) h = refl
eta_same x S (App f (Unknown y i T)) h = refl
eta_same x S (App f (Abs y T b)) h = refl
eta_same x S (App f (App g a)) h = refl
eta_same x S (Const y T) h = refl
eta_same x S (Free y T) h = refl
eta_same x S (Unknown y i T) h = refl
eta_same x S (Bound i) h = refl
eta_same x S (Abs y T b) h = refl

pub norm_same : (t : Tm) → IsNormal t → norm t ≡ t
norm_same (Const x T) h = refl
norm_same (Free x T) h = refl
norm_same (Unknown x i T) h = refl
norm_same (Bound i) h = refl
norm_same (Abs x T b) h = ap (eta x T) (norm_same b h.0) ∙ eta_same x T b h.1
norm_same (App f a) h = (λ i. apply (levels (norm_same f h.1.0 i)) (norm_same f h.1.0 i) (norm_same a h.1.1 i)) ∙ apply_head (levels f) f a h.0
