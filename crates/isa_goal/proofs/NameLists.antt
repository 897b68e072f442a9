-- Lists of names, and the numbers that are not taken.
use Rattle.std.proofs.Common.{◌≡◌, ℕ, zero, suc, ◌+◌, ◌-◌, ◌<◌, arith, List, [], ◌∷◌, ◌++◌, length, Bool, false, cond, refl, ap, ◌∙◌}
use Rattle.isa_terms.specs.Types.{Ty, Tys, TyCon, TyFixed, TyUnknown, NoTys, MoreTys}
use Rattle.isa_terms.specs.Terms.{Tm, Const, Free, Unknown, Bound, Abs, App}
use Rattle.isa_terms.specs.Facts.{ty_named, tys_named, has_free, tm_named}
use Rattle.isa_terms.proofs.Loose.{or_false}
use Rattle.isa_goal.specs.Names.{free_places, ty_fixed_places, tys_fixed_places, fixed_places, name_noted, names_noted, next_among}

pub names_append : (seen xs ys : List (List ℕ)) → names_noted seen (xs ++ ys) ≡ names_noted (names_noted seen xs) ys
names_append seen [] ys = refl
names_append seen (x ∷ xs) ys = names_append (name_noted seen x) xs ys

no_frees : (t : Tm) → has_free t ≡ false → free_places t ≡ []
no_frees (Const x T) h = refl
no_frees (Free x T) h = cc
no_frees (Unknown x i T) h = refl
no_frees (Bound i) h = refl
no_frees (Abs x T b) h = no_frees b h
no_frees (App f a) h = let o = or_false (has_free f) (has_free a) h in λ i. no_frees f o.0 i ++ no_frees a o.1 i

mutual
  no_type_fixed : (T : Ty) → ty_named T ≡ false → ty_fixed_places T ≡ []
  no_type_fixed (TyCon x Ts) h = no_types_fixed Ts h
  no_type_fixed (TyFixed x) h = cc
  no_type_fixed (TyUnknown x i) h = refl

  no_types_fixed : (Ts : Tys) → tys_named Ts ≡ false → tys_fixed_places Ts ≡ []
  no_types_fixed NoTys h = refl
  no_types_fixed (MoreTys T Ts) h = let o = or_false (ty_named T) (tys_named Ts) h in λ i. no_type_fixed T o.0 i ++ no_types_fixed Ts o.1 i

no_fixed : (t : Tm) → tm_named t ≡ false → fixed_places t ≡ []
no_fixed (Const x T) h = no_type_fixed T h
no_fixed (Free x T) h = no_type_fixed T h
no_fixed (Unknown x i T) h = no_type_fixed T h
no_fixed (Bound i) h = refl
no_fixed (Abs x T b) h = let o = or_false (ty_named T) (tm_named b) h in λ i. no_type_fixed T o.0 i ++ no_fixed b o.1 i
no_fixed (App f a) h = let o = or_false (tm_named f) (tm_named a) h in λ i. no_fixed f o.0 i ++ no_fixed a o.1 i

pub none_free : (seen : List (List ℕ)) (t : Tm) → has_free t ≡ false → names_noted seen (free_places t) ≡ seen
none_free seen t h = ap (names_noted seen) (no_frees t h)

pub none_fixed_type : (seen : List (List ℕ)) (T : Ty) → ty_named T ≡ false → names_noted seen (ty_fixed_places T) ≡ seen
none_fixed_type seen T h = ap (names_noted seen) (no_type_fixed T h)

pub none_fixed : (seen : List (List ℕ)) (t : Tm) → tm_named t ≡ false → names_noted seen (fixed_places t) ≡ seen
none_fixed seen t h = ap (names_noted seen) (no_fixed t h)

pub among_end : (k : ℕ) (taken : ℕ → Bool) (n : ℕ) → k ≡ 0 → next_among k taken n ≡ n
among_end k taken n e = ap (λ j. next_among j taken n) e

pub among_step : (k : ℕ) (taken : ℕ → Bool) (n : ℕ) → 0 < k → next_among k taken n ≡ cond (taken n) (next_among (k - 1) taken (n + 1)) n
among_step zero taken n l = absurd (omega (arith, l))
among_step (suc k) taken n l = let e : k ≡ suc k - 1 = omega arith in ap (λ j. cond (taken n) (next_among j taken (n + 1)) n) e
