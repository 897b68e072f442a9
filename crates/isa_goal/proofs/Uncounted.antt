-- What comes of terms without free variables named `:` and digits has none either.
use Rattle.std.specs.Prelude.{codes}
use Rattle.std.proofs.Common.{◌≡◌, ℕ, zero, suc, ◌+◌, ◌-◌, List, [], ◌∷◌, ◌++◌, map, take, drop, Bool, true, false, cond, ◌||◌, ◌&&◌, nat_eq, nat_lt, Option, Some, None, unwrap_or, refl, sym, ap, ◌∙◌, subst}
use Rattle.isa_terms.specs.Types.{Ty}
use Rattle.isa_terms.specs.Terms.{Tm, Const, Free, Unknown, Bound, Abs, App}
use Rattle.isa_terms.specs.Equal.{name_eq, ty_eq}
use Rattle.isa_terms.specs.Order.{is_counted}
use Rattle.isa_terms.specs.Facts.{has_free}
use Rattle.isa_terms.specs.Replace.{raise, put, replace}
use Rattle.isa_terms.specs.Norm.{loose, eta_at, eta, put_normal, beta, apply, levels, norm}
use Rattle.isa_terms.specs.Instance.{Instance, find_term, inst_ty, inst_tm, instance_of, set_term, same_unknown}
use Rattle.isa_terms.specs.Instances.{Each}
use Rattle.isa_terms.specs.declared.inst.TypeEntry.{TypeEntry}
use Rattle.isa_terms.specs.declared.inst.TermEntry.{TermEntry}
use Rattle.isa_terms.proofs.Loose.{or_false}
use Rattle.isa_goal.specs.Counted.{has_counted, entries_have_counted}

-- no free variable of the term is named `:` and digits
abbrev pub Uncounted : Tm → Type 0
Uncounted (Free x T) = is_counted x ≡ false
Uncounted (Abs x T b) = Uncounted b
Uncounted (App f a) = Uncounted f × Uncounted a
Uncounted _ = Unit {0}

pub uncounted : (t : Tm) → has_counted t ≡ false → Uncounted t
uncounted (Const x T) h = tt
uncounted (Free x T) h = h
uncounted (Unknown x i T) h = tt
uncounted (Bound i) h = tt
uncounted (Abs x T b) h = uncounted b h
uncounted (App f a) h = let o = or_false (has_counted f) (has_counted a) h in (uncounted f o.0, uncounted a o.1)

pub counted_false : (t : Tm) → Uncounted t → has_counted t ≡ false
counted_false (Const x T) u = refl
counted_false (Free x T) u = u
counted_false (Unknown x i T) u = refl
counted_false (Bound i) u = refl
counted_false (Abs x T b) u = counted_false b u
counted_false (App f a) u = λ i. counted_false f u.0 i || counted_false a u.1 i

frees_counted : (t : Tm) → has_free t ≡ false → has_counted t ≡ false
frees_counted (Const x T) h = refl
frees_counted (Free x T) h = absurd (cc)
frees_counted (Unknown x i T) h = refl
frees_counted (Bound i) h = refl
frees_counted (Abs x T b) h = frees_counted b h
frees_counted (App f a) h = let o = or_false (has_free f) (has_free a) h in λ i. frees_counted f o.0 i || frees_counted a o.1 i

-- a term without free variables has none
pub none_counted : (t : Tm) → has_free t ≡ false → has_counted t ≡ false
none_counted t h = frees_counted t h

-- ---- lists of terms
abbrev pub AreUncounted : List Tm → Type 0
AreUncounted ts = Each Uncounted ts

pub all_uncounted : (ts : List Tm) → Each (λ t. has_counted t ≡ false) ts → AreUncounted ts
all_uncounted [] h = tt
all_uncounted (t ∷ ts) h = (uncounted t h.0, all_uncounted ts h.1)

pub all_false : (ts : List Tm) → AreUncounted ts → Each (λ t. has_counted t ≡ false) ts
all_false [] u = tt
all_false (t ∷ ts) u = (counted_false t u.0, all_false ts u.1)

pub join_uncounted : (ts us : List Tm) → AreUncounted ts → AreUncounted us → AreUncounted (ts ++ us)
join_uncounted [] us p q = q
join_uncounted (t ∷ ts) us p q = (p.0, join_uncounted ts us p.1 q)

pub left_uncounted : (ts us : List Tm) → AreUncounted (ts ++ us) → AreUncounted ts
left_uncounted [] us p = tt
left_uncounted (t ∷ ts) us p = (p.0, left_uncounted ts us p.1)

pub right_uncounted : (ts us : List Tm) → AreUncounted (ts ++ us) → AreUncounted us
right_uncounted [] us p = p
right_uncounted (t ∷ ts) us p = right_uncounted ts us p.1

pub map_uncounted : (f : Tm → Tm) (ts : List Tm) → ((t : Tm) → Uncounted t → Uncounted (f t)) → AreUncounted ts → AreUncounted (map f ts)
map_uncounted f [] h u = tt
map_uncounted f (t ∷ ts) h u = (h t u.0, map_uncounted f ts h u.1)

pub take_uncounted : (n : ℕ) (ts : List Tm) → AreUncounted ts → AreUncounted (take n ts)
take_uncounted zero ts u = tt
take_uncounted (suc n) [] u = tt
take_uncounted (suc n) (t ∷ ts) u = (u.0, take_uncounted n ts u.1)

pub drop_uncounted : (n : ℕ) (ts : List Tm) → AreUncounted ts → AreUncounted (drop n ts)
drop_uncounted zero ts u = u
drop_uncounted (suc n) [] u = tt
drop_uncounted (suc n) (t ∷ ts) u = drop_uncounted n ts u.1

-- ---- normal forms
pub either_uncounted : (b : Bool) (t u : Tm) → Uncounted t → Uncounted u → Uncounted (cond b t u)
either_uncounted true t u p q = p
either_uncounted false t u p q = q

pub raise_uncounted : (n k : ℕ) (t : Tm) → Uncounted t → Uncounted (raise n k t)
raise_uncounted n k (Const x T) u = tt
raise_uncounted n k (Free x T) u = u
raise_uncounted n k (Unknown x i T) u = tt
raise_uncounted n k (Bound i) u = either_uncounted (nat_lt i k) (Bound i) (Bound (i + n)) tt tt
raise_uncounted n k (Abs x T b) u = raise_uncounted n (k + 1) b u
raise_uncounted n k (App f a) u = (raise_uncounted n k f u.0, raise_uncounted n k a u.1)

bound_uncounted : (k i : ℕ) (a : Tm) → Uncounted a → Uncounted (cond (nat_eq i k) (raise k 0 a) (cond (nat_lt k i) (Bound (i - 1)) (Bound i)))
bound_uncounted k i a u = either_uncounted (nat_eq i k) (raise k 0 a) (cond (nat_lt k i) (Bound (i - 1)) (Bound i)) (raise_uncounted k 0 a u) (either_uncounted (nat_lt k i) (Bound (i - 1)) (Bound i) tt tt)

put_uncounted : (a : Tm) (k : ℕ) (t : Tm) → Uncounted a → Uncounted t → Uncounted (put a k t)
put_uncounted a k (Const x T) p u = tt
put_uncounted a k (Free x T) p u = u
put_uncounted a k (Unknown x i T) p u = tt
put_uncounted a k (Bound i) p u = bound_uncounted k i a p
put_uncounted a k (Abs x T b) p u = put_uncounted a (k + 1) b p u
put_uncounted a k (App f b) p u = (put_uncounted a k f p u.0, put_uncounted a k b p u.1)

eta_at_uncounted : (x : List ℕ) (T : Ty) (f a : Tm) → Uncounted f → Uncounted a → Uncounted (eta_at x T f a)
eta_at_uncounted x T f (Bound i) p q =
    either_uncounted (nat_eq i 0) (cond (loose 0 f) (Abs x T (App f (Bound i))) (replace f (Bound 0))) (Abs x T (App f (Bound i)))
    (either_uncounted (loose 0 f) (Abs x T (App f (Bound i))) (replace f (Bound 0)) (p, tt) (put_uncounted (Bound 0) 0 f tt p)) (p, tt)
eta_at_uncounted x T f (Const y S) p q = (p, q)
eta_at_uncounted x T f (Free y S) p q = (p, q)
eta_at_uncounted x T f (Unknown y i S) p q = (p, q)
eta_at_uncounted x T f (Abs y S b) p q = (p, q)
eta_at_uncounted x T f (App g b) p q = (p, q)

eta_uncounted : (x : List ℕ) (T : Ty) (b : Tm) → Uncounted b → Uncounted (eta x T b)
eta_uncounted x T (App f a) u = eta_at_uncounted x T f a u.0 u.1
eta_uncounted x T (Const y S) u = u
eta_uncounted x T (Free y S) u = u
eta_uncounted x T (Unknown y i S) u = u
eta_uncounted x T (Bound i) u = u
eta_uncounted x T (Abs y S b) u = u

put_normal_uncounted : (app : Tm → Tm → Tm) → ((f a : Tm) → Uncounted f → Uncounted a → Uncounted (app f a)) → (a : Tm) (k : ℕ) (t : Tm) → Uncounted a → Uncounted t → Uncounted (put_normal app a k t)
put_normal_uncounted app h a k (Const x T) p u = tt
put_normal_uncounted app h a k (Free x T) p u = u
put_normal_uncounted app h a k (Unknown x i T) p u = tt
put_normal_uncounted app h a k (Bound i) p u = bound_uncounted k i a p
put_normal_uncounted app h a k (Abs x T b) p u = eta_uncounted x T (put_normal app a (k + 1) b) (put_normal_uncounted app h a (k + 1) b p u)
put_normal_uncounted app h a k (App f b) p u = h (put_normal app a k f) (put_normal app a k b) (put_normal_uncounted app h a k f p u.0) (put_normal_uncounted app h a k b p u.1)

beta_uncounted : (app : Tm → Tm → Tm) → ((f a : Tm) → Uncounted f → Uncounted a → Uncounted (app f a)) → (f a : Tm) → Uncounted f → Uncounted a → Uncounted (beta app f a)
beta_uncounted app h (Abs x T b) a p q = put_normal_uncounted app h a 0 b q p
beta_uncounted app h (Const x T) a p q = (p, q)
beta_uncounted app h (Free x T) a p q = (p, q)
beta_uncounted app h (Unknown x i T) a p q = (p, q)
beta_uncounted app h (Bound i) a p q = (p, q)
beta_uncounted app h (App f b) a p q = (p, q)

apply_uncounted : (n : ℕ) (f a : Tm) → Uncounted f → Uncounted a → Uncounted (apply n f a)
apply_uncounted zero f a p q = (p, q)
apply_uncounted (suc n) f a p q = beta_uncounted (apply n) (apply_uncounted n) f a p q

pub norm_uncounted : (t : Tm) → Uncounted t → Uncounted (norm t)
norm_uncounted (Const x T) u = tt
norm_uncounted (Free x T) u = u
norm_uncounted (Unknown x i T) u = tt
norm_uncounted (Bound i) u = tt
norm_uncounted (Abs x T b) u = eta_uncounted x T (norm b) (norm_uncounted b u)
norm_uncounted (App f a) u = apply_uncounted (levels (norm f)) (norm f) (norm a) (norm_uncounted f u.0) (norm_uncounted a u.1)

-- ---- instances
-- no term of the entries has one
abbrev pub GiveUncounted : List TermEntry → Type 0
GiveUncounted [] = Unit {0}
GiveUncounted (f ∷ fs) = Uncounted f.term × GiveUncounted fs

pub give_uncounted : (fs : List TermEntry) → entries_have_counted fs ≡ false → GiveUncounted fs
give_uncounted [] h = tt
give_uncounted (f ∷ fs) h = let o = or_false (has_counted f.term) (entries_have_counted fs) h in (uncounted f.term o.0, give_uncounted fs o.1)

pub found_uncounted : (x : List ℕ) (i : ℕ) (T : Ty) (d : Tm) (fs : List TermEntry) → GiveUncounted fs → Uncounted d → Uncounted (unwrap_or (find_term x i T fs) d)
found_uncounted x i T d [] g u = u
found_uncounted x i T d (f ∷ fs) g u = choose (name_eq x f.name && (nat_eq i f.number && ty_eq T f.typ)) (found_uncounted x i T d fs g.1 u)
  where
    choose : (b : Bool) → Uncounted (unwrap_or (find_term x i T fs) d) → Uncounted (unwrap_or (cond b (Some f.term) (find_term x i T fs)) d)
    choose true r = g.0
    choose false r = r

pub inst_uncounted : (es : List TypeEntry) (fs : List TermEntry) (t : Tm) → GiveUncounted fs → Uncounted t → Uncounted (inst_tm es fs t)
inst_uncounted es fs (Const x T) g u = tt
inst_uncounted es fs (Free x T) g u = u
inst_uncounted es fs (Unknown x i T) g u = found_uncounted x i T (Unknown x i (inst_ty es T)) fs g tt
inst_uncounted es fs (Bound i) g u = tt
inst_uncounted es fs (Abs x T b) g u = inst_uncounted es fs b g u
inst_uncounted es fs (App f a) g u = (inst_uncounted es fs f g u.0, inst_uncounted es fs a g u.1)

pub instance_uncounted : (n : Instance) (t : Tm) → GiveUncounted n.terms → Uncounted t → Uncounted (instance_of n t)
instance_uncounted n t g u = norm_uncounted (inst_tm n.types n.terms t) (inst_uncounted n.types n.terms t g u)

-- entries put into a map
pub set_uncounted : (f : TermEntry) (fs : List TermEntry) → Uncounted f.term → GiveUncounted fs → GiveUncounted (set_term f fs)
set_uncounted f [] u g = (u, tt)
set_uncounted f (e ∷ es) u g = choose (same_unknown f e) (set_uncounted f es u g.1)
  where
    choose : (b : Bool) → GiveUncounted (set_term f es) → GiveUncounted (cond b (f ∷ es) (e ∷ set_term f es))
    choose true r = (u, g.1)
    choose false r = (g.0, r)

pub last_uncounted : (fs : List TermEntry) (f : TermEntry) → GiveUncounted fs → Uncounted f.term → GiveUncounted (fs ++ f ∷ [])
last_uncounted [] f g u = (u, tt)
last_uncounted (e ∷ es) f g u = (g.0, last_uncounted es f g.1 u)
