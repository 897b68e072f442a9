-- Conversion under binders, and that a term converts to its normal form.
use Rattle.std.proofs.Common.{◌≡◌, ℕ, zero, suc, ◌+◌, List, [], ◌∷◌, ◌++◌, length, Bool, true, false, cond, nat_eq, refl, sym, ap, subst, arith}
use Rattle.std.proofs.lemmas.Bool.Decides.{nat_tests}
use Rattle.isa_terms.specs.Types.{Ty}
use Rattle.isa_terms.specs.Terms.{Tm, Const, Free, Unknown, Bound, Abs, App}
use Rattle.isa_terms.specs.Typing.{function_of}
use Rattle.isa_terms.specs.Replace.{raise, put, replace}
use Rattle.isa_terms.specs.Norm.{loose, eta, eta_at, put_normal, apply, levels, norm}
use Rattle.isa_terms.proofs.Typed.{Typed, TConst, TFree, TUnknown, TBound, TAbs, TApp, raise_typed, put_typed, drop_typed, unloose}
pub use Rattle.isa_terms.specs.Conversion.{Conv, CRefl, CSym, CTrans, CApp, CAbs, CBeta, CEta}

mutual
  pub left_typed : {G : List Ty} {T : Ty} {t u : Tm} → Conv G T t u → Typed G t T
  left_typed (CRefl d) = d
  left_typed (CSym c) = right_typed c
  left_typed (CTrans c d) = left_typed c
  left_typed (CApp c d) = TApp (left_typed c) (left_typed d)
  left_typed (CAbs c) = TAbs (left_typed c)
  left_typed (CBeta d e) = TApp (TAbs d) e
  left_typed (CEta {G} {x} {S} {T} {f} d) = TAbs (TApp (raise_typed [] (S ∷ []) G refl d) (TBound refl))

  pub right_typed : {G : List Ty} {T : Ty} {t u : Tm} → Conv G T t u → Typed G u T
  right_typed (CRefl d) = d
  right_typed (CSym c) = left_typed c
  right_typed (CTrans c d) = right_typed d
  right_typed (CApp c d) = TApp (right_typed c) (right_typed d)
  right_typed (CAbs c) = TAbs (right_typed c)
  right_typed (CBeta {G} {x} {S} {T} {b} {a} d e) = put_typed [] G S a refl e d
  right_typed (CEta d) = d

-- ---- eta
eta_bound : (G : List Ty) (x : List ℕ) (S T : Ty) (f : Tm) (b : Bool) → loose 0 f ≡ b → Typed (S ∷ G) f (function_of S T) → Typed G (Abs x S (App f (Bound 0))) (function_of S T) → Conv G (function_of S T) (Abs x S (App f (Bound 0))) (cond b (Abs x S (App f (Bound 0))) (replace f (Bound 0)))
eta_bound G x S T f true h d e = CRefl e
eta_bound G x S T f false h d e =
    let c : Conv G (function_of S T) (Abs x S (App (raise 1 0 (replace f (Bound 0))) (Bound 0))) (replace f (Bound 0)) = CEta (drop_typed [] G S (Bound 0) refl h d) in
    subst (λ g. Conv G (function_of S T) (Abs x S (App g (Bound 0))) (replace f (Bound 0))) (unloose (Bound 0) 0 f h) c

eta_zero : (G : List Ty) (x : List ℕ) (S U T : Ty) (f : Tm) → S ≡ U → Typed (S ∷ G) f (function_of U T) → Conv G (function_of S T) (Abs x S (App f (Bound 0))) (cond (loose 0 f) (Abs x S (App f (Bound 0))) (replace f (Bound 0)))
eta_zero G x S U T f e d =
    let d' : Typed (S ∷ G) f (function_of S T) = subst (λ V. Typed (S ∷ G) f (function_of V T)) (sym e) d in
    eta_bound G x S T f (loose 0 f) refl d' (TAbs (TApp d' (TBound refl)))

eta_app : (G : List Ty) (x : List ℕ) (S T : Ty) (f a : Tm) → Typed (S ∷ G) (App f a) T → Conv G (function_of S T) (Abs x S (App f a)) (eta_at x S f a)
eta_app G x S T f (Bound zero) (TApp d (TBound h)) = eta_zero G x S _ T f (cc (h)) d
eta_app G x S T f (Bound (suc n)) d =
    let t : nat_eq (suc n) 0 ≡ false = grind (arith, nat_tests) in
    let whole = Abs x S (App f (Bound (suc n))) in
    subst (λ v. Conv G (function_of S T) whole (cond v (cond (loose 0 f) whole (replace f (Bound 0))) whole)) (sym t) (CRefl (TAbs d))
eta_app G x S T f (Const y U) d = CRefl (TAbs d)
eta_app G x S T f (Free y U) d = CRefl (TAbs d)
eta_app G x S T f (Unknown y i U) d = CRefl (TAbs d)
eta_app G x S T f (Abs y U b) d = CRefl (TAbs d)
eta_app G x S T f (App g b) d = CRefl (TAbs d)

pub eta_conv : (G : List Ty) (x : List ℕ) (S T : Ty) (b : Tm) → Typed (S ∷ G) b T → Conv G (function_of S T) (Abs x S b) (eta x S b)
eta_conv G x S T (App f a) d = eta_app G x S T f a d
eta_conv G x S T (Const y U) d = CRefl (TAbs d)
eta_conv G x S T (Free y U) d = CRefl (TAbs d)
eta_conv G x S T (Unknown y i U) d = CRefl (TAbs d)
eta_conv G x S T (Bound n) d = CRefl (TAbs d)
eta_conv G x S T (Abs y U b) d = CRefl (TAbs d)

-- ---- replacement with normalising
abbrev pub Converts : (Tm → Tm → Tm) → Type 0
Converts app = (G : List Ty) (T : Ty) (f a : Tm) → Typed G (App f a) T → Conv G T (App f a) (app f a)

one_more : (n : ℕ) → suc n ≡ n + 1
one_more n = omega arith

pub put_conv : (app : Tm → Tm → Tm) → Converts app → (P Q : List Ty) (S : Ty) (a : Tm) {G : List Ty} {b : Tm} {T : Ty} → G ≡ P ++ S ∷ Q → Typed Q a S → Typed G b T → Conv (P ++ Q) T (put a (length P) b) (put_normal app a (length P) b)
put_conv app ok P Q S a e c TConst = CRefl TConst
put_conv app ok P Q S a e c TFree = CRefl TFree
put_conv app ok P Q S a e c TUnknown = CRefl TUnknown
put_conv app ok P Q S a e c (TBound {G} {n} {T} h) = CRefl (put_typed P Q S a e c (TBound h))
put_conv app ok P Q S a e c (TAbs {G} {x} {S = U} {T} {b} d) =
    let r : Conv (U ∷ (P ++ Q)) T (put a (length P + 1) b) (put_normal app a (length P + 1) b) =
    subst (λ k. Conv (U ∷ (P ++ Q)) T (put a k b) (put_normal app a k b)) (one_more (length P)) (put_conv app ok (U ∷ P) Q S a (ap (λ K. U ∷ K) e) c d) in
    CTrans (CAbs r) (eta_conv (P ++ Q) x U T (put_normal app a (length P + 1) b) (right_typed r))
put_conv app ok P Q S a e c (TApp d f) =
    let r = put_conv app ok P Q S a e c d in
    let s = put_conv app ok P Q S a e c f in
    CTrans (CApp r s) (ok (P ++ Q) _ _ _ (TApp (right_typed r) (right_typed s)))

abs_parts_typed : {G : List Ty} {x : List ℕ} {S : Ty} {b a : Tm} {T : Ty} → Typed G (App (Abs x S b) a) T → Typed (S ∷ G) b T × Typed G a S
abs_parts_typed (TApp (TAbs d) e) = (d, e)

pub apply_conv : (n : ℕ) → Converts (apply n)
apply_conv zero G T f a d = CRefl d
apply_conv (suc n) G T (Abs x S b) a d =
    let p = abs_parts_typed d in
    CTrans (CBeta p.0 p.1) (put_conv (apply n) (apply_conv n) [] G S a refl p.1 p.0)
apply_conv (suc n) G T (Const y U) a d = CRefl d
apply_conv (suc n) G T (Free y U) a d = CRefl d
apply_conv (suc n) G T (Unknown y i U) a d = CRefl d
apply_conv (suc n) G T (Bound i) a d = CRefl d
apply_conv (suc n) G T (App f b) a d = CRefl d

-- a term converts to its normal form
pub norm_conv : {G : List Ty} {t : Tm} {T : Ty} → Typed G t T → Conv G T t (norm t)
norm_conv TConst = CRefl TConst
norm_conv TFree = CRefl TFree
norm_conv TUnknown = CRefl TUnknown
norm_conv (TBound h) = CRefl (TBound h)
norm_conv (TAbs {G} {x} {S} {T} {b} d) = let r = norm_conv d in CTrans (CAbs r) (eta_conv G x S T (norm b) (right_typed r))
norm_conv (TApp {G} {S} {T} {f} {a} d e) =
    let r = norm_conv d in
    let s = norm_conv e in
    CTrans (CApp r s) (apply_conv (levels (norm f)) G T (norm f) (norm a) (TApp (right_typed r) (right_typed s)))
