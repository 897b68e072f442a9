-- Where an operation leaves a term as it is.
use Rattle.std.proofs.Common.{◌≡◌, ◌≢◌, ℕ, zero, suc, ◌+◌, ◌-◌, ◌<◌, ◌≤◌, List, Bool, true, false, cond, not, ◌&&◌, ◌||◌, nat_eq, nat_lt, Option, Some, None, unwrap_or, is_some, refl, ap, ◌∙◌, arith}
use Rattle.std.proofs.lemmas.Bool.Decides.{nat_tests}
use Rattle.isa_terms.specs.Types.{Ty, Tys, TyCon, TyFixed, TyUnknown, NoTys, MoreTys}
use Rattle.isa_terms.specs.Terms.{Tm, Const, Free, Unknown, Bound, Abs, App}
use Rattle.isa_terms.specs.declared.inst.TypeEntry.{TypeEntry}
use Rattle.isa_terms.specs.declared.inst.TermEntry.{TermEntry}
use Rattle.isa_terms.specs.Replace.{raise, put, replace}
use Rattle.isa_terms.specs.Norm.{loose, eta, put_normal, apply, levels, norm}
use Rattle.isa_terms.specs.Normal.{redex}
use Rattle.isa_terms.specs.Binding.{occurs, close_at}
use Rattle.isa_terms.specs.Instance.{find_type, inst_ty, inst_tys, inst_tm, in_ty, in_tys, in_tm}
use Rattle.isa_terms.specs.Generalize.{is_named, gen_ty, gen_tys, gen_tm, named_in_ty, named_in_tys, named_in_tm}
use Rattle.isa_terms.specs.Order.{head_of}
use Rattle.isa_terms.specs.Pattern.{is_unknown, is_pattern}
use Rattle.isa_terms.specs.Facts.{ty_open, tys_open, ty_named, tys_named, loose_end, has_unknown, tm_open, has_free, tm_named, is_abs, is_normal}

or_false : (a b : Bool) → (a || b) ≡ false → (a ≡ false) × (b ≡ false)
or_false true b e = cc
or_false false b e = (refl, e)

and_true : (a b : Bool) → (a && b) ≡ true → (a ≡ true) × (b ≡ true)
and_true true b e = (refl, e)
and_true false b e = cc

not_true : (a : Bool) → not a ≡ true → a ≡ false
not_true true e = cc
not_true false e = refl

below : (i k : ℕ) → i < k → nat_lt i k ≡ true
below i k h = grind (arith, nat_tests)

not_below : (i k : ℕ) → i ≤ k → nat_lt k i ≡ false
not_below i k h = grind (arith, nat_tests)

unequal : (i k : ℕ) → i ≢ k → nat_eq i k ≡ false
unequal i k h = grind (arith, nat_tests)

-- ---- numbers that are loose
pub raise_same : (n k : ℕ) (t : Tm) → loose_end t ≤ k → raise n k t ≡ t
raise_same n k (Const x T) h = refl
raise_same n k (Free x T) h = refl
raise_same n k (Unknown x i T) h = refl
raise_same n k (Bound i) h = ap (λ v. cond v (Bound i) (Bound (i + n))) (below i k (omega arith))
raise_same n k (Abs x T b) h = ap (Abs x T) (raise_same n (k + 1) b (omega arith))
raise_same n k (App f a) h = λ i. App (raise_same n k f (omega arith) i) (raise_same n k a (omega arith) i)

raise_zero_bound : (i : ℕ) (b : Bool) → cond b (Bound i) (Bound (i + 0)) ≡ Bound i
raise_zero_bound i true = refl
raise_zero_bound i false = let e : i + 0 ≡ i = omega arith in ap Bound e

pub zero_raised : (k : ℕ) (t : Tm) → raise 0 k t ≡ t
zero_raised k (Const x T) = refl
zero_raised k (Free x T) = refl
zero_raised k (Unknown x i T) = refl
zero_raised k (Bound i) = raise_zero_bound i (nat_lt i k)
zero_raised k (Abs x T b) = ap (Abs x T) (zero_raised (k + 1) b)
zero_raised k (App f a) = λ i. App (zero_raised k f i) (zero_raised k a i)

pub raise_zero : (n k : ℕ) (t : Tm) → n ≡ 0 → raise n k t ≡ t
raise_zero n k t e = ap (λ m. raise m k t) e ∙ zero_raised k t

put_bound_same : (a : Tm) (k i : ℕ) → i < k → cond (nat_eq i k) (raise k 0 a) (cond (nat_lt k i) (Bound (i - 1)) (Bound i)) ≡ Bound i
put_bound_same a k i h = rw (unequal i k (λ e. omega arith), not_below i k (omega arith)) refl

pub put_same : (a : Tm) (k : ℕ) (t : Tm) → loose_end t ≤ k → put a k t ≡ t
put_same a k (Const x T) h = refl
put_same a k (Free x T) h = refl
put_same a k (Unknown x i T) h = refl
put_same a k (Bound i) h = put_bound_same a k i (omega arith)
put_same a k (Abs x T b) h = ap (Abs x T) (put_same a (k + 1) b (omega arith))
put_same a k (App f b) h = λ i. App (put_same a k f (omega arith) i) (put_same a k b (omega arith) i)

pub loose_none : (k : ℕ) (t : Tm) → loose_end t ≤ k → loose k t ≡ false
loose_none k (Const x T) h = refl
loose_none k (Free x T) h = refl
loose_none k (Unknown x i T) h = refl
loose_none k (Bound i) h = unequal i k (λ e. omega arith)
loose_none k (Abs x T b) h = loose_none (k + 1) b (omega arith)
loose_none k (App f a) h = λ i. loose_none k f (omega arith) i || loose_none k a (omega arith) i

-- ---- free variables
pub occurs_none : (x : List ℕ) (S : Ty) (t : Tm) → has_free t ≡ false → occurs x S t ≡ false
occurs_none x S (Const y T) h = refl
occurs_none x S (Free y T) h = cc
occurs_none x S (Unknown y i T) h = refl
occurs_none x S (Bound i) h = refl
occurs_none x S (Abs y T b) h = occurs_none x S b h
occurs_none x S (App f a) h = let o = or_false (has_free f) (has_free a) h in λ i. occurs_none x S f o.0 i || occurs_none x S a o.1 i

pub close_same : (x : List ℕ) (S : Ty) (k : ℕ) (t : Tm) → has_free t ≡ false → close_at x S k t ≡ t
close_same x S k (Const y T) h = refl
close_same x S k (Free y T) h = cc
close_same x S k (Unknown y i T) h = refl
close_same x S k (Bound i) h = refl
close_same x S k (Abs y T b) h = ap (Abs y T) (close_same x S (k + 1) b h)
close_same x S k (App f a) h = let o = or_false (has_free f) (has_free a) h in λ i. App (close_same x S k f o.0 i) (close_same x S k a o.1 i)

-- ---- instances
mutual
  pub inst_ty_same : (es : List TypeEntry) (T : Ty) → ty_open T ≡ false → inst_ty es T ≡ T
  inst_ty_same es (TyCon x Ts) h = ap (TyCon x) (inst_tys_same es Ts h)
  inst_ty_same es (TyFixed x) h = refl
  inst_ty_same es (TyUnknown x i) h = cc

  inst_tys_same : (es : List TypeEntry) (Ts : Tys) → tys_open Ts ≡ false → inst_tys es Ts ≡ Ts
  inst_tys_same es NoTys h = refl
  inst_tys_same es (MoreTys T Ts) h = let o = or_false (ty_open T) (tys_open Ts) h in λ i. MoreTys (inst_ty_same es T o.0 i) (inst_tys_same es Ts o.1 i)

mutual
  pub in_ty_none : (es : List TypeEntry) (T : Ty) → ty_open T ≡ false → in_ty es T ≡ false
  in_ty_none es (TyCon x Ts) h = in_tys_none es Ts h
  in_ty_none es (TyFixed x) h = refl
  in_ty_none es (TyUnknown x i) h = cc

  in_tys_none : (es : List TypeEntry) (Ts : Tys) → tys_open Ts ≡ false → in_tys es Ts ≡ false
  in_tys_none es NoTys h = refl
  in_tys_none es (MoreTys T Ts) h = let o = or_false (ty_open T) (tys_open Ts) h in λ i. in_ty_none es T o.0 i || in_tys_none es Ts o.1 i

pub inst_tm_same : (es : List TypeEntry) (fs : List TermEntry) (t : Tm) → has_unknown t ≡ false → tm_open t ≡ false → inst_tm es fs t ≡ t
inst_tm_same es fs (Const x T) u h = ap (Const x) (inst_ty_same es T h)
inst_tm_same es fs (Free x T) u h = ap (Free x) (inst_ty_same es T h)
inst_tm_same es fs (Unknown x i T) u h = cc
inst_tm_same es fs (Bound i) u h = refl
inst_tm_same es fs (Abs x T b) u h = let o = or_false (ty_open T) (tm_open b) h in λ i. Abs x (inst_ty_same es T o.0 i) (inst_tm_same es fs b u o.1 i)
inst_tm_same es fs (App f a) u h =
    let v = or_false (has_unknown f) (has_unknown a) u in
    let o = or_false (tm_open f) (tm_open a) h in
    λ i. App (inst_tm_same es fs f v.0 o.0 i) (inst_tm_same es fs a v.1 o.1 i)

pub in_tm_none : (es : List TypeEntry) (fs : List TermEntry) (t : Tm) → has_unknown t ≡ false → tm_open t ≡ false → in_tm es fs t ≡ false
in_tm_none es fs (Const x T) u h = in_ty_none es T h
in_tm_none es fs (Free x T) u h = in_ty_none es T h
in_tm_none es fs (Unknown x i T) u h = cc
in_tm_none es fs (Bound i) u h = refl
in_tm_none es fs (Abs x T b) u h = let o = or_false (ty_open T) (tm_open b) h in λ i. in_ty_none es T o.0 i || in_tm_none es fs b u o.1 i
in_tm_none es fs (App f a) u h =
    let v = or_false (has_unknown f) (has_unknown a) u in
    let o = or_false (tm_open f) (tm_open a) h in
    λ i. in_tm_none es fs f v.0 o.0 i || in_tm_none es fs a v.1 o.1 i

-- ---- generalised names
mutual
  pub gen_ty_same : (ns : List (List ℕ)) (T : Ty) → ty_named T ≡ false → gen_ty ns T ≡ T
  gen_ty_same ns (TyCon x Ts) h = ap (TyCon x) (gen_tys_same ns Ts h)
  gen_ty_same ns (TyFixed x) h = cc
  gen_ty_same ns (TyUnknown x i) h = refl

  gen_tys_same : (ns : List (List ℕ)) (Ts : Tys) → tys_named Ts ≡ false → gen_tys ns Ts ≡ Ts
  gen_tys_same ns NoTys h = refl
  gen_tys_same ns (MoreTys T Ts) h = let o = or_false (ty_named T) (tys_named Ts) h in λ i. MoreTys (gen_ty_same ns T o.0 i) (gen_tys_same ns Ts o.1 i)

mutual
  pub named_in_ty_none : (ns : List (List ℕ)) (T : Ty) → ty_named T ≡ false → named_in_ty ns T ≡ false
  named_in_ty_none ns (TyCon x Ts) h = named_in_tys_none ns Ts h
  named_in_ty_none ns (TyFixed x) h = cc
  named_in_ty_none ns (TyUnknown x i) h = refl

  named_in_tys_none : (ns : List (List ℕ)) (Ts : Tys) → tys_named Ts ≡ false → named_in_tys ns Ts ≡ false
  named_in_tys_none ns NoTys h = refl
  named_in_tys_none ns (MoreTys T Ts) h = let o = or_false (ty_named T) (tys_named Ts) h in λ i. named_in_ty_none ns T o.0 i || named_in_tys_none ns Ts o.1 i

pub gen_tm_same : (ns : List (List ℕ)) (t : Tm) → has_free t ≡ false → tm_named t ≡ false → gen_tm ns t ≡ t
gen_tm_same ns (Const x T) u h = ap (Const x) (gen_ty_same ns T h)
gen_tm_same ns (Free x T) u h = cc
gen_tm_same ns (Unknown x i T) u h = ap (Unknown x i) (gen_ty_same ns T h)
gen_tm_same ns (Bound i) u h = refl
gen_tm_same ns (Abs x T b) u h = let o = or_false (ty_named T) (tm_named b) h in λ i. Abs x (gen_ty_same ns T o.0 i) (gen_tm_same ns b u o.1 i)
gen_tm_same ns (App f a) u h =
    let v = or_false (has_free f) (has_free a) u in
    let o = or_false (tm_named f) (tm_named a) h in
    λ i. App (gen_tm_same ns f v.0 o.0 i) (gen_tm_same ns a v.1 o.1 i)

pub named_in_tm_none : (ns : List (List ℕ)) (t : Tm) → has_free t ≡ false → tm_named t ≡ false → named_in_tm ns t ≡ false
named_in_tm_none ns (Const x T) u h = named_in_ty_none ns T h
named_in_tm_none ns (Free x T) u h = cc
named_in_tm_none ns (Unknown x i T) u h = named_in_ty_none ns T h
named_in_tm_none ns (Bound i) u h = refl
named_in_tm_none ns (Abs x T b) u h = let o = or_false (ty_named T) (tm_named b) h in λ i. named_in_ty_none ns T o.0 i || named_in_tm_none ns b u o.1 i
named_in_tm_none ns (App f a) u h =
    let v = or_false (has_free f) (has_free a) u in
    let o = or_false (tm_named f) (tm_named a) h in
    λ i. named_in_tm_none ns f v.0 o.0 i || named_in_tm_none ns a v.1 o.1 i

-- ---- normal forms
eta_last : (x : List ℕ) (S : Ty) (f : Tm) (i : ℕ) (b d : Bool) → (b && not d) ≡ false → cond b (cond d (Abs x S (App f (Bound i))) (replace f (Bound 0))) (Abs x S (App f (Bound i))) ≡ Abs x S (App f (Bound i))
eta_last x S f i true true h = refl
eta_last x S f i true false h = cc
eta_last x S f i false d h = refl

pub eta_short : (x : List ℕ) (S : Ty) (b : Tm) → redex b ≡ false → eta x S b ≡ Abs x S b
eta_short x S (App f (Bound i)) h = eta_last x S f i (nat_eq i 0) (loose 0 f) h
eta_short x S (App f (Const y T)) h = refl
eta_short x S (App f (Free y T)) h = refl
eta_short x S (App f (Unknown y i T)) h = refl
eta_short x S (App f (Abs y T b)) h = refl
eta_short x S (App f (App g a)) h = refl
eta_short x S (Const y T) h = refl
eta_short x S (Free y T) h = refl
eta_short x S (Unknown y i T) h = refl
eta_short x S (Bound i) h = refl
eta_short x S (Abs y T b) h = refl

pub apply_head : (n : ℕ) (f a : Tm) → is_abs f ≡ false → apply n f a ≡ App f a
apply_head zero f a h = refl
apply_head (suc n) (Const x T) a h = refl
apply_head (suc n) (Free x T) a h = refl
apply_head (suc n) (Unknown x i T) a h = refl
apply_head (suc n) (Bound i) a h = refl
apply_head (suc n) (Abs x T b) a h = cc
apply_head (suc n) (App f b) a h = refl

pub norm_stays : (t : Tm) → is_normal t ≡ true → norm t ≡ t
norm_stays (Const x T) h = refl
norm_stays (Free x T) h = refl
norm_stays (Unknown x i T) h = refl
norm_stays (Bound i) h = refl
norm_stays (Abs x T b) h = let p = and_true (is_normal b) (not (redex b)) h in ap (eta x T) (norm_stays b p.0) ∙ eta_short x T b (not_true (redex b) p.1)
norm_stays (App f a) h =
    let p = and_true (not (is_abs f)) (is_normal f && is_normal a) h in
    let q = and_true (is_normal f) (is_normal a) p.1 in
    (λ i. apply (levels (norm_stays f q.0 i)) (norm_stays f q.0 i) (norm_stays a q.1 i)) ∙ apply_head (levels f) f a (not_true (is_abs f) p.0)

pub put_normal_same : (n : ℕ) (a : Tm) (k : ℕ) (t : Tm) → is_normal t ≡ true → loose_end t ≤ k → put_normal (apply n) a k t ≡ t
put_normal_same n a k (Const x T) h l = refl
put_normal_same n a k (Free x T) h l = refl
put_normal_same n a k (Unknown x i T) h l = refl
put_normal_same n a k (Bound i) h l = put_bound_same a k i (omega arith)
put_normal_same n a k (Abs x T b) h l =
    let p = and_true (is_normal b) (not (redex b)) h in
    ap (eta x T) (put_normal_same n a (k + 1) b p.0 (omega arith)) ∙ eta_short x T b (not_true (redex b) p.1)
put_normal_same n a k (App f b) h l =
    let p = and_true (not (is_abs f)) (is_normal f && is_normal b) h in
    let q = and_true (is_normal f) (is_normal b) p.1 in
    (λ i. apply n (put_normal_same n a k f q.0 (omega arith) i) (put_normal_same n a k b q.1 (omega arith) i)) ∙ apply_head n f b (not_true (is_abs f) p.0)

-- ---- patterns
no_unknown_head : (t : Tm) → has_unknown t ≡ false → is_unknown (head_of t) ≡ false
no_unknown_head (Const x T) h = refl
no_unknown_head (Free x T) h = refl
no_unknown_head (Unknown x i T) h = cc
no_unknown_head (Bound i) h = refl
no_unknown_head (Abs x T b) h = refl
no_unknown_head (App f a) h = no_unknown_head f (or_false (has_unknown f) (has_unknown a) h).0

pub pattern_stays : (t : Tm) → has_unknown t ≡ false → is_pattern t ≡ true
pattern_stays (Const x T) h = refl
pattern_stays (Free x T) h = refl
pattern_stays (Unknown x i T) h = cc
pattern_stays (Bound i) h = refl
pattern_stays (Abs x T b) h = pattern_stays b h
pattern_stays (App f a) h =
    let o = or_false (has_unknown f) (has_unknown a) h in
    rw (no_unknown_head f o.0) (λ i. pattern_stays f o.0 i && pattern_stays a o.1 i)

-- ---- types without the unknowns or names in question
unfound : {A : Type 0} (o : Option A) (a : A) → is_some o ≡ false → unwrap_or o a ≡ a
unfound None a h = refl
unfound (Some b) a h = cc

mutual
  pub inst_ty_none : (es : List TypeEntry) (T : Ty) → in_ty es T ≡ false → inst_ty es T ≡ T
  inst_ty_none es (TyCon x Ts) h = ap (TyCon x) (inst_tys_none es Ts h)
  inst_ty_none es (TyFixed x) h = refl
  inst_ty_none es (TyUnknown x i) h = unfound (find_type x i es) (TyUnknown x i) h

  inst_tys_none : (es : List TypeEntry) (Ts : Tys) → in_tys es Ts ≡ false → inst_tys es Ts ≡ Ts
  inst_tys_none es NoTys h = refl
  inst_tys_none es (MoreTys T Ts) h = let o = or_false (in_ty es T) (in_tys es Ts) h in λ i. MoreTys (inst_ty_none es T o.0 i) (inst_tys_none es Ts o.1 i)

fixed_none : (x : List ℕ) (b : Bool) → b ≡ false → cond b (TyUnknown x 0) (TyFixed x) ≡ TyFixed x
fixed_none x true h = cc
fixed_none x false h = refl

mutual
  pub gen_ty_none : (ns : List (List ℕ)) (T : Ty) → named_in_ty ns T ≡ false → gen_ty ns T ≡ T
  gen_ty_none ns (TyCon x Ts) h = ap (TyCon x) (gen_tys_none ns Ts h)
  gen_ty_none ns (TyFixed x) h = fixed_none x (is_named ns x) h
  gen_ty_none ns (TyUnknown x i) h = refl

  gen_tys_none : (ns : List (List ℕ)) (Ts : Tys) → named_in_tys ns Ts ≡ false → gen_tys ns Ts ≡ Ts
  gen_tys_none ns NoTys h = refl
  gen_tys_none ns (MoreTys T Ts) h = let o = or_false (named_in_ty ns T) (named_in_tys ns Ts) h in λ i. MoreTys (gen_ty_none ns T o.0 i) (gen_tys_none ns Ts o.1 i)
