-- An instance that keeps types keeps typing and conversion.
use Rattle.std.proofs.Common.{◌≡◌, ℕ, zero, suc, ◌+◌, ◌-◌, ◌<◌, ◌≤◌, List, [], ◌∷◌, ◌++◌, map, length, Bool, true, false, cond, ◌&&◌, nat_eq, nat_lt, Some, unwrap_or, refl, sym, ap, ◌∙◌, subst, arith, append-nil}
use Rattle.std.specs.List.{slice_get}
use Rattle.std.proofs.lemmas.Bool.Decides.{nat_tests}
use Rattle.isa_terms.specs.Types.{Ty}
use Rattle.isa_terms.specs.Terms.{Tm, Const, Free, Unknown, Bound, Abs, App, bare}
use Rattle.isa_terms.specs.Equal.{name_eq, ty_eq}
use Rattle.isa_terms.specs.Typing.{function_of}
use Rattle.isa_terms.specs.Replace.{raise, put, replace}
use Rattle.isa_terms.specs.Norm.{norm}
use Rattle.isa_terms.specs.Instance.{find_term, inst_ty, inst_tm}
use Rattle.isa_terms.specs.declared.inst.TypeEntry.{TypeEntry}
use Rattle.isa_terms.specs.declared.inst.TermEntry.{TermEntry}
use Rattle.isa_terms.proofs.Equal.{ty_decides}
use Rattle.isa_terms.specs.Typed.{Typed, TConst, TFree, TUnknown, TBound, TAbs, TApp}
use Rattle.isa_terms.specs.Conversion.{Conv, CRefl, CSym, CTrans, CApp, CAbs, CBeta, CEta}
use Rattle.isa_terms.specs.Instances.{IsKept}
use Rattle.isa_terms.proofs.Typed.{typed_of_type, raise_typed}
use Rattle.isa_terms.proofs.Conv.{right_typed, norm_conv}
use Rattle.isa_terms.proofs.FreeNames.{same_conv, norm_same_conv}
use Rattle.isa_terms.proofs.Unique.{conv_norm}

-- ---- terms whose loose variables all lie below the place
pub get_below : (G : List Ty) (n : ℕ) (T : Ty) → slice_get G n ≡ Some T → n < length G
get_below [] n T e = cc
get_below (S ∷ G) zero T e = omega arith
get_below (S ∷ G) (suc n) T e = let lt = get_below G n T e in omega arith

pub one_more : (n : ℕ) → suc n ≡ n + 1
one_more n = omega arith

pub raise_below : (n k i : ℕ) → i < k → raise n k (Bound i) ≡ Bound i
raise_below n k i h = let t : nat_lt i k ≡ true = grind (arith, nat_tests) in ap (λ b. cond b (Bound i) (Bound (i + n))) t

pub raise_same : {G : List Ty} {t : Tm} {T : Ty} → Typed G t T → (n k : ℕ) → length G ≤ k → raise n k t ≡ t
raise_same TConst n k h = refl
raise_same TFree n k h = refl
raise_same TUnknown n k h = refl
raise_same (TBound {G} {n = i} {T} g) n k h = let lt = get_below G i T g in raise_below n k i (omega arith)
raise_same (TAbs {G} {x} {S} d) n k h = ap (Abs x S) (raise_same d n (k + 1) (omega arith))
raise_same (TApp d e) n k h = λ i. App (raise_same d n k h i) (raise_same e n k h i)

pub put_below : (a : Tm) (k i : ℕ) → i < k → put a k (Bound i) ≡ Bound i
put_below a k i h =
    let e : nat_eq i k ≡ false = grind (arith, nat_tests) in
    let l : nat_lt k i ≡ false = grind (arith, nat_tests) in
    ap (λ b. cond b (raise k 0 a) (cond (nat_lt k i) (Bound (i - 1)) (Bound i))) e ∙ ap (λ b. cond b (Bound (i - 1)) (Bound i)) l

pub put_same : {G : List Ty} {t : Tm} {T : Ty} → Typed G t T → (a : Tm) (k : ℕ) → length G ≤ k → put a k t ≡ t
put_same TConst a k h = refl
put_same TFree a k h = refl
put_same TUnknown a k h = refl
put_same (TBound {G} {n = i} {T} g) a k h = let lt = get_below G i T g in put_below a k i (omega arith)
put_same (TAbs {G} {x} {S} d) a k h = ap (Abs x S) (put_same d a (k + 1) (omega arith))
put_same (TApp d e) a k h = λ i. App (put_same d a k h i) (put_same e a k h i)

-- a term without loose variables has its type under any binders
pub closed_anywhere : {t : Tm} {T : Ty} (G : List Ty) → Typed [] t T → Typed G t T
closed_anywhere {t} {T} G d = subst (λ K. Typed K t T) (append-nil G) (subst (λ g. Typed (G ++ []) g T) (raise_same d (length G) 0 (omega arith)) (raise_typed [] G [] refl d))

-- ---- typing
pub get_inst : (es : List TypeEntry) (G : List Ty) (n : ℕ) (T : Ty) → slice_get G n ≡ Some T → slice_get (map (inst_ty es) G) n ≡ Some (inst_ty es T)
get_inst es [] n T e = cc
get_inst es (S ∷ G) zero T e = let q : S ≡ T = cc in ap (λ U. Some (inst_ty es U)) q
get_inst es (S ∷ G) (suc n) T e = get_inst es G n T e

-- what an unknown becomes has the instance of its type
pub unknown_typed : (es : List TypeEntry) (fs : List TermEntry) (G : List Ty) (x : List ℕ) (i : ℕ) (T : Ty) → IsKept es fs → Typed G (inst_tm es fs (Unknown x i T)) (inst_ty es T)
unknown_typed es [] G x i T k = TUnknown
unknown_typed es (f ∷ fs) G x i T k = found (name_eq x f.name) (nat_eq i f.number) (ty_eq T f.typ) refl (unknown_typed es fs G x i T k.1)
  where
    found : (a b c : Bool) → ty_eq T f.typ ≡ c → Typed G (unwrap_or (find_term x i T fs) (Unknown x i (inst_ty es T))) (inst_ty es T) → Typed G (unwrap_or (cond (a && (b && c)) (Some f.term) (find_term x i T fs)) (Unknown x i (inst_ty es T))) (inst_ty es T)
    found true true true h r = subst (λ U. Typed G f.term (inst_ty es U)) (sym ((ty_decides T f.typ).0 h)) (closed_anywhere G (typed_of_type [] f.term (inst_ty es f.typ) k.0))
    found false b c h r = r
    found true false c h r = r
    found true true false h r = r

pub inst_typed : (es : List TypeEntry) (fs : List TermEntry) → IsKept es fs → {G : List Ty} {t : Tm} {T : Ty} → Typed G t T → Typed (map (inst_ty es) G) (inst_tm es fs t) (inst_ty es T)
inst_typed es fs k TConst = TConst
inst_typed es fs k TFree = TFree
inst_typed es fs k (TUnknown {G} {x} {i} {T}) = unknown_typed es fs (map (inst_ty es) G) x i T k
inst_typed es fs k (TBound {G} {n} {T} h) = TBound (get_inst es G n T h)
inst_typed es fs k (TAbs d) = TAbs (inst_typed es fs k d)
inst_typed es fs k (TApp d e) = TApp (inst_typed es fs k d) (inst_typed es fs k e)

-- ---- raising and replacement go with an instance
module _ (es : List TypeEntry) (fs : List TermEntry) (kept : IsKept es fs) where
  pub raise_choice : (n k i : ℕ) (b : Bool) → inst_tm es fs (cond b (Bound i) (Bound (i + n))) ≡ cond b (Bound i) (Bound (i + n))
  raise_choice n k i true = refl
  raise_choice n k i false = refl

  pub inst_raise : (n k : ℕ) (t : Tm) → inst_tm es fs (raise n k t) ≡ raise n k (inst_tm es fs t)
  inst_raise n k (Const x T) = refl
  inst_raise n k (Free x T) = refl
  inst_raise n k (Unknown x i T) = sym (raise_same (unknown_typed es fs [] x i T kept) n k (omega arith))
  inst_raise n k (Bound i) = raise_choice n k i (nat_lt i k)
  inst_raise n k (Abs x T b) = ap (Abs x (inst_ty es T)) (inst_raise n (k + 1) b)
  inst_raise n k (App f a) = λ i. App (inst_raise n k f i) (inst_raise n k a i)

  pub put_choice : (a : Tm) (k i : ℕ) (b c : Bool) → inst_tm es fs (cond b (raise k 0 a) (cond c (Bound (i - 1)) (Bound i))) ≡ cond b (raise k 0 (inst_tm es fs a)) (cond c (Bound (i - 1)) (Bound i))
  put_choice a k i true c = inst_raise k 0 a
  put_choice a k i false true = refl
  put_choice a k i false false = refl

  pub inst_put : (a : Tm) (k : ℕ) (t : Tm) → inst_tm es fs (put a k t) ≡ put (inst_tm es fs a) k (inst_tm es fs t)
  inst_put a k (Const x T) = refl
  inst_put a k (Free x T) = refl
  inst_put a k (Unknown x i T) = sym (put_same (unknown_typed es fs [] x i T kept) (inst_tm es fs a) k (omega arith))
  inst_put a k (Bound i) = put_choice a k i (nat_eq i k) (nat_lt k i)
  inst_put a k (Abs x T b) = ap (Abs x (inst_ty es T)) (inst_put a (k + 1) b)
  inst_put a k (App f b) = λ i. App (inst_put a k f i) (inst_put a k b i)

  pub inst_replace : (b a : Tm) → inst_tm es fs (replace b a) ≡ replace (inst_tm es fs b) (inst_tm es fs a)
  inst_replace b a = inst_put a 0 b

  -- ---- conversion
  pub inst_conv : {G : List Ty} {T : Ty} {t u : Tm} → Conv G T t u → Conv (map (inst_ty es) G) (inst_ty es T) (inst_tm es fs t) (inst_tm es fs u)
  inst_conv (CRefl d) = CRefl (inst_typed es fs kept d)
  inst_conv (CSym c) = CSym (inst_conv c)
  inst_conv (CTrans c d) = CTrans (inst_conv c) (inst_conv d)
  inst_conv (CApp c d) = CApp (inst_conv c) (inst_conv d)
  inst_conv (CAbs c) = CAbs (inst_conv c)
  inst_conv (CBeta {G} {x} {S} {T} {b} {a} d e) =
      subst (λ u. Conv (map (inst_ty es) G) (inst_ty es T) (App (Abs x (inst_ty es S) (inst_tm es fs b)) (inst_tm es fs a)) u) (sym (inst_replace b a)) (CBeta (inst_typed es fs kept d) (inst_typed es fs kept e))
  inst_conv (CEta {G} {x} {S} {T} {f} d) =
      subst (λ u. Conv (map (inst_ty es) G) (inst_ty es (function_of S T)) (Abs x (inst_ty es S) (App u (Bound 0))) (inst_tm es fs f)) (sym (inst_raise 1 0 f)) (CEta (inst_typed es fs kept d))

  -- ---- normal forms under an instance
  -- terms with one normal form have one under the instance
  pub inst_norm_same : {G : List Ty} {t u : Tm} {T : Ty} → Typed G t T → Typed G u T → bare (norm t) ≡ bare (norm u) → bare (norm (inst_tm es fs t)) ≡ bare (norm (inst_tm es fs u))
  inst_norm_same d e s = conv_norm (inst_conv (norm_same_conv d e s))

  pub inst_bare_same : {G : List Ty} {t u : Tm} {T : Ty} → Typed G t T → Typed G u T → bare t ≡ bare u → bare (norm (inst_tm es fs t)) ≡ bare (norm (inst_tm es fs u))
  inst_bare_same d e s = conv_norm (inst_conv (same_conv d e s))

  -- normalising before the instance makes no difference
  pub inst_norm : {G : List Ty} {t : Tm} {T : Ty} → Typed G t T → bare (norm (inst_tm es fs (norm t))) ≡ bare (norm (inst_tm es fs t))
  inst_norm d = conv_norm (CSym (inst_conv (norm_conv d)))

  -- the normal form of the instance has the instance of the type
  pub inst_norm_typed : {G : List Ty} {t : Tm} {T : Ty} → Typed G t T → Typed (map (inst_ty es) G) (norm (inst_tm es fs t)) (inst_ty es T)
  inst_norm_typed d = right_typed (norm_conv (inst_typed es fs kept d))
