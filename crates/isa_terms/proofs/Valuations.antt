-- Instances as functions: a term of the right type for every unknown.
use Rattle.std.proofs.Common.{◌≡◌, ℕ, ◌+◌, ◌-◌, List, [], ◌∷◌, ◌++◌, map, Bool, true, false, cond, nat_eq, nat_lt, refl, sym, ap, ◌∙◌, subst, arith}
use Rattle.isa_terms.specs.Types.{Ty}
use Rattle.isa_terms.specs.Terms.{Tm, Const, Free, Unknown, Bound, Abs, App}
use Rattle.isa_terms.specs.Typing.{function_of}
use Rattle.isa_terms.specs.Replace.{raise, put}
use Rattle.isa_terms.specs.Norm.{norm}
use Rattle.isa_terms.specs.Instance.{inst_ty, inst_tm}
use Rattle.isa_terms.specs.declared.inst.TypeEntry.{TypeEntry}
use Rattle.isa_terms.specs.declared.inst.TermEntry.{TermEntry}
use Rattle.isa_terms.specs.Typed.{Typed, TConst, TFree, TUnknown, TBound, TAbs, TApp}
use Rattle.isa_terms.specs.Conversion.{Conv, CRefl, CSym, CTrans, CApp, CAbs, CBeta, CEta}
use Rattle.isa_terms.specs.Instances.{IsKept, types_after}
use Rattle.isa_terms.proofs.Conv.{left_typed, right_typed, norm_conv}
use Rattle.isa_terms.proofs.FreeNames.{norm_same_conv}
use Rattle.isa_terms.proofs.Unique.{conv_norm}
use Rattle.isa_terms.proofs.Instances.{raise_same, put_same, closed_anywhere, get_inst, unknown_typed}
use Rattle.isa_terms.proofs.Composing.{after_ty}
use Rattle.isa_terms.proofs.Erased.{up}
use Rattle.isa_terms.proofs.Renames.{rename}
use Rattle.isa_terms.proofs.Opening.{over, over_number, over_is, rename_closed}
use Rattle.isa_terms.proofs.Heads.{IsRigid, head_of, args_of}
use Rattle.isa_terms.proofs.Abstracting.{on_bounds, tower, inst_typs}

-- a term for each unknown
abbrev pub Values : Type 0
Values = List ℕ → ℕ → Ty → Tm

-- the term with types for its type unknowns and terms for its unknowns
abbrev pub val : List TypeEntry → Values → Tm → Tm
val r v (Const x T) = Const x (inst_ty r T)
val r v (Free x T) = Free x (inst_ty r T)
val r v (Unknown x i T) = v x i T
val r v (Bound n) = Bound n
val r v (Abs x T b) = Abs x (inst_ty r T) (val r v b)
val r v (App f a) = App (val r v f) (val r v a)

-- each term has the instance of its unknown's type
abbrev pub AreFit : List TypeEntry → Values → Type 0
AreFit r v = (x : List ℕ) (i : ℕ) (T : Ty) → Typed [] (v x i T) (inst_ty r T)

-- ---- instances by entries
abbrev pub values_of : List TypeEntry → List TermEntry → Values
values_of es fs x i T = inst_tm es fs (Unknown x i T)

pub values_fit : (es : List TypeEntry) (fs : List TermEntry) → IsKept es fs → AreFit es (values_of es fs)
values_fit es fs k x i T = unknown_typed es fs [] x i T k

pub val_inst : (es : List TypeEntry) (fs : List TermEntry) (t : Tm) → val es (values_of es fs) t ≡ inst_tm es fs t
val_inst es fs (Const x T) = refl
val_inst es fs (Free x T) = refl
val_inst es fs (Unknown x i T) = refl
val_inst es fs (Bound n) = refl
val_inst es fs (Abs x T b) = ap (Abs x (inst_ty es T)) (val_inst es fs b)
val_inst es fs (App f a) = λ i. App (val_inst es fs f i) (val_inst es fs a i)

-- ---- one after another
abbrev pub values_after : List TypeEntry → Values → Values → Values
values_after r v w x i T = val r v (w x i T)

pub val_val : (r : List TypeEntry) (v : Values) (q : List TypeEntry) (w : Values) (t : Tm) → val r v (val q w t) ≡ val (types_after q r) (values_after r v w) t
val_val r v q w (Const x T) = ap (Const x) (sym (after_ty q r T))
val_val r v q w (Free x T) = ap (Free x) (sym (after_ty q r T))
val_val r v q w (Unknown x i T) = refl
val_val r v q w (Bound n) = refl
val_val r v q w (Abs x T b) = λ i. Abs x (sym (after_ty q r T) i) (val_val r v q w b i)
val_val r v q w (App f a) = λ i. App (val_val r v q w f i) (val_val r v q w a i)

-- ---- typing
pub val_typed : (r : List TypeEntry) (v : Values) → AreFit r v → {G : List Ty} {t : Tm} {T : Ty} → Typed G t T → Typed (map (inst_ty r) G) (val r v t) (inst_ty r T)
val_typed r v h TConst = TConst
val_typed r v h TFree = TFree
val_typed r v h (TUnknown {G} {x} {i} {T}) = closed_anywhere (map (inst_ty r) G) (h x i T)
val_typed r v h (TBound {G} {n} {T} g) = TBound (get_inst r G n T g)
val_typed r v h (TAbs d) = TAbs (val_typed r v h d)
val_typed r v h (TApp d e) = TApp (val_typed r v h d) (val_typed r v h e)

pub after_fit : (r : List TypeEntry) (v : Values) (q : List TypeEntry) (w : Values) → AreFit r v → AreFit q w → AreFit (types_after q r) (values_after r v w)
after_fit r v q w h k x i T = subst (λ U. Typed [] (val r v (w x i T)) U) (sym (after_ty q r T)) (val_typed r v h (k x i T))

module _ (r : List TypeEntry) (v : Values) (fit : AreFit r v) where
  pub val_rename : (f : ℕ → ℕ) (t : Tm) → val r v (rename f t) ≡ rename f (val r v t)
  val_rename f (Const x T) = refl
  val_rename f (Free x T) = refl
  val_rename f (Unknown x i T) = sym (rename_closed (fit x i T) f (λ j lt. absurd (omega arith)))
  val_rename f (Bound n) = refl
  val_rename f (Abs x T b) = ap (Abs x (inst_ty r T)) (val_rename (up f) b)
  val_rename f (App g a) = λ i. App (val_rename f g i) (val_rename f a i)

  pub val_over : (n k : ℕ) (t : Tm) → val r v (over n k t) ≡ over n k (val r v t)
  val_over n k t = ap (val r v) (over_is n k t) ∙ val_rename (over_number n k) t ∙ sym (over_is n k (val r v t))

  raise_choice : (n k i : ℕ) (b : Bool) → val r v (cond b (Bound i) (Bound (i + n))) ≡ cond b (Bound i) (Bound (i + n))
  raise_choice n k i true = refl
  raise_choice n k i false = refl

  pub val_raise : (n k : ℕ) (t : Tm) → val r v (raise n k t) ≡ raise n k (val r v t)
  val_raise n k (Const x T) = refl
  val_raise n k (Free x T) = refl
  val_raise n k (Unknown x i T) = sym (raise_same (fit x i T) n k (omega arith))
  val_raise n k (Bound i) = raise_choice n k i (nat_lt i k)
  val_raise n k (Abs x T b) = ap (Abs x (inst_ty r T)) (val_raise n (k + 1) b)
  val_raise n k (App f a) = λ i. App (val_raise n k f i) (val_raise n k a i)

  put_choice : (a : Tm) (k i : ℕ) (b c : Bool) → val r v (cond b (raise k 0 a) (cond c (Bound (i - 1)) (Bound i))) ≡ cond b (raise k 0 (val r v a)) (cond c (Bound (i - 1)) (Bound i))
  put_choice a k i true c = val_raise k 0 a
  put_choice a k i false true = refl
  put_choice a k i false false = refl

  pub val_put : (a : Tm) (k : ℕ) (t : Tm) → val r v (put a k t) ≡ put (val r v a) k (val r v t)
  val_put a k (Const x T) = refl
  val_put a k (Free x T) = refl
  val_put a k (Unknown x i T) = sym (put_same (fit x i T) (val r v a) k (omega arith))
  val_put a k (Bound i) = put_choice a k i (nat_eq i k) (nat_lt k i)
  val_put a k (Abs x T b) = ap (Abs x (inst_ty r T)) (val_put a (k + 1) b)
  val_put a k (App f b) = λ i. App (val_put a k f i) (val_put a k b i)

  -- ---- conversion
  pub val_conv : {G : List Ty} {T : Ty} {t u : Tm} → Conv G T t u → Conv (map (inst_ty r) G) (inst_ty r T) (val r v t) (val r v u)
  val_conv (CRefl d) = CRefl (val_typed r v fit d)
  val_conv (CSym c) = CSym (val_conv c)
  val_conv (CTrans c d) = CTrans (val_conv c) (val_conv d)
  val_conv (CApp c d) = CApp (val_conv c) (val_conv d)
  val_conv (CAbs c) = CAbs (val_conv c)
  val_conv (CBeta {G} {x} {S} {T} {b} {a} d e) =
      subst (λ u. Conv (map (inst_ty r) G) (inst_ty r T) (App (Abs x (inst_ty r S) (val r v b)) (val r v a)) u) (sym (val_put a 0 b)) (CBeta (val_typed r v fit d) (val_typed r v fit e))
  val_conv (CEta {G} {x} {S} {T} {f} d) =
      subst (λ u. Conv (map (inst_ty r) G) (inst_ty r (function_of S T)) (Abs x (inst_ty r S) (App u (Bound 0))) (val r v f)) (sym (val_raise 1 0 f)) (CEta (val_typed r v fit d))

  -- the normal form first makes no difference
  pub val_norm : {G : List Ty} {t : Tm} {T : Ty} → Typed G t T → Conv (map (inst_ty r) G) (inst_ty r T) (val r v (norm t)) (val r v t)
  val_norm d = CSym (val_conv (norm_conv d))

  pub val_tower : (N : ℕ → List ℕ) (Y : ℕ → Ty) (ns : List ℕ) (t : Tm) → val r v (tower N Y ns t) ≡ tower N (inst_typs r Y) ns (val r v t)
  val_tower N Y [] t = refl
  val_tower N Y (n ∷ ns) t = ap (Abs (N n) (inst_ty r (Y n))) (val_over n 0 (tower N Y ns t) ∙ ap (over n 0) (val_tower N Y ns t))

pub val_on_bounds : (r : List TypeEntry) (v : Values) (f : Tm) (ns : List ℕ) → val r v (on_bounds f ns) ≡ on_bounds (val r v f) ns
val_on_bounds r v f [] = refl
val_on_bounds r v f (n ∷ ns) = val_on_bounds r v (App f (Bound n)) ns

-- ---- values that agree up to conversion
-- they agree on the unknowns of the term
abbrev pub AgreeOn : List TypeEntry → Values → Values → Tm → Type 0
AgreeOn r v w (Unknown x i T) = Conv [] (inst_ty r T) (v x i T) (w x i T)
AgreeOn r v w (Abs x T b) = AgreeOn r v w b
AgreeOn r v w (App f a) = AgreeOn r v w f × AgreeOn r v w a
AgreeOn r v w _ = Unit {0}

pub conv_anywhere : (G : List Ty) {T : Ty} {t u : Tm} → Conv [] T t u → Conv G T t u
conv_anywhere G {T} {t} {u} c = norm_same_conv (closed_anywhere G (left_typed c)) (closed_anywhere G (right_typed c)) (conv_norm c)

pub agree_conv : (r : List TypeEntry) (v w : Values) → AreFit r v → AreFit r w → {G : List Ty} {t : Tm} {T : Ty} → Typed G t T → AgreeOn r v w t → Conv (map (inst_ty r) G) (inst_ty r T) (val r v t) (val r w t)
agree_conv r v w h k TConst a = CRefl TConst
agree_conv r v w h k TFree a = CRefl TFree
agree_conv r v w h k (TUnknown {G}) a = conv_anywhere (map (inst_ty r) G) a
agree_conv r v w h k (TBound {G} {n} {T} g) a = CRefl (TBound (get_inst r G n T g))
agree_conv r v w h k (TAbs d) a = CAbs (agree_conv r v w h k d a)
agree_conv r v w h k (TApp d e) a = CApp (agree_conv r v w h k d a.0) (agree_conv r v w h k e a.1)

-- ---- heads and arguments
pub val_rigid : (r : List TypeEntry) (v : Values) (t : Tm) → IsRigid t → IsRigid (val r v t)
val_rigid r v (App f a) h = val_rigid r v f h
val_rigid r v (Const x T) h = tt
val_rigid r v (Free x T) h = tt
val_rigid r v (Bound k) h = tt
val_rigid r v (Unknown x i T) h = absurd h
val_rigid r v (Abs x T b) h = absurd h

pub head_val : (r : List TypeEntry) (v : Values) (t : Tm) → IsRigid t → head_of (val r v t) ≡ val r v (head_of t)
head_val r v (App f a) h = head_val r v f h
head_val r v (Const x T) h = refl
head_val r v (Free x T) h = refl
head_val r v (Bound k) h = refl
head_val r v (Unknown x i T) h = absurd h
head_val r v (Abs x T b) h = absurd h

map_append : (f : Tm → Tm) (ts us : List Tm) → map f (ts ++ us) ≡ map f ts ++ map f us
map_append f [] us = refl
map_append f (t ∷ ts) us = ap (λ vs. f t ∷ vs) (map_append f ts us)

pub args_val : (r : List TypeEntry) (v : Values) (t : Tm) → IsRigid t → args_of (val r v t) ≡ map (val r v) (args_of t)
args_val r v (App f a) h = ap (λ ts. ts ++ val r v a ∷ []) (args_val r v f h) ∙ sym (map_append (val r v) (args_of f) (a ∷ []))
args_val r v (Const x T) h = refl
args_val r v (Free x T) h = refl
args_val r v (Bound k) h = refl
args_val r v (Unknown x i T) h = absurd h
args_val r v (Abs x T b) h = absurd h
