-- Unknowns by first occurrence: one list after another, and terms that have none.
use Rattle.std.proofs.Common.{◌≡◌, List, [], ◌∷◌, ◌++◌, false, None, refl, ap}
use Rattle.isa_terms.specs.Types.{Ty, Tys, TyCon, TyFixed, TyUnknown, NoTys, MoreTys}
use Rattle.isa_terms.specs.Terms.{Tm, Const, Free, Unknown, Bound, Abs, App}
use Rattle.isa_terms.specs.Facts.{ty_open, tys_open, has_unknown, tm_open}
use Rattle.isa_terms.specs.Unknowns.{unknown_places, ty_unknown_places, tys_unknown_places, type_unknown_places, noted, all_noted, ty_noted, tys_noted, greater, ty_greatest_number, tys_greatest_number, greatest_number}
use Rattle.isa_terms.proofs.Loose.{or_false}

pub noted_append : (seen ts us : List Tm) → all_noted seen (ts ++ us) ≡ all_noted (all_noted seen ts) us
noted_append seen [] us = refl
noted_append seen (t ∷ ts) us = noted_append (noted seen t) ts us

pub tys_noted_append : (seen Ss Ts : List Ty) → tys_noted seen (Ss ++ Ts) ≡ tys_noted (tys_noted seen Ss) Ts
tys_noted_append seen [] Ts = refl
tys_noted_append seen (S ∷ Ss) Ts = tys_noted_append (ty_noted seen S) Ss Ts

-- ---- where there are none
no_places : (t : Tm) → has_unknown t ≡ false → unknown_places t ≡ []
no_places (Const x T) h = refl
no_places (Free x T) h = refl
no_places (Unknown x i T) h = cc
no_places (Bound i) h = refl
no_places (Abs x T b) h = no_places b h
no_places (App f a) h = let o = or_false (has_unknown f) (has_unknown a) h in λ i. no_places f o.0 i ++ no_places a o.1 i

mutual
  no_ty_places : (T : Ty) → ty_open T ≡ false → ty_unknown_places T ≡ []
  no_ty_places (TyCon x Ts) h = no_tys_places Ts h
  no_ty_places (TyFixed x) h = refl
  no_ty_places (TyUnknown x i) h = cc

  no_tys_places : (Ts : Tys) → tys_open Ts ≡ false → tys_unknown_places Ts ≡ []
  no_tys_places NoTys h = refl
  no_tys_places (MoreTys T Ts) h = let o = or_false (ty_open T) (tys_open Ts) h in λ i. no_ty_places T o.0 i ++ no_tys_places Ts o.1 i

no_type_places : (t : Tm) → tm_open t ≡ false → type_unknown_places t ≡ []
no_type_places (Const x T) h = no_ty_places T h
no_type_places (Free x T) h = no_ty_places T h
no_type_places (Unknown x i T) h = no_ty_places T h
no_type_places (Bound i) h = refl
no_type_places (Abs x T b) h = let o = or_false (ty_open T) (tm_open b) h in λ i. no_ty_places T o.0 i ++ no_type_places b o.1 i
no_type_places (App f a) h = let o = or_false (tm_open f) (tm_open a) h in λ i. no_type_places f o.0 i ++ no_type_places a o.1 i

pub none_noted : (seen : List Tm) (t : Tm) → has_unknown t ≡ false → all_noted seen (unknown_places t) ≡ seen
none_noted seen t h = ap (all_noted seen) (no_places t h)

pub no_type_noted : (seen : List Ty) (T : Ty) → ty_open T ≡ false → tys_noted seen (ty_unknown_places T) ≡ seen
no_type_noted seen T h = ap (tys_noted seen) (no_ty_places T h)

pub no_types_noted : (seen : List Ty) (t : Tm) → tm_open t ≡ false → tys_noted seen (type_unknown_places t) ≡ seen
no_types_noted seen t h = ap (tys_noted seen) (no_type_places t h)

mutual
  pub no_ty_number : (T : Ty) → ty_open T ≡ false → ty_greatest_number T ≡ None
  no_ty_number (TyCon x Ts) h = no_tys_number Ts h
  no_ty_number (TyFixed x) h = refl
  no_ty_number (TyUnknown x i) h = cc

  no_tys_number : (Ts : Tys) → tys_open Ts ≡ false → tys_greatest_number Ts ≡ None
  no_tys_number NoTys h = refl
  no_tys_number (MoreTys T Ts) h = let o = or_false (ty_open T) (tys_open Ts) h in λ i. greater (no_ty_number T o.0 i) (no_tys_number Ts o.1 i)

pub no_number : (t : Tm) → has_unknown t ≡ false → tm_open t ≡ false → greatest_number t ≡ None
no_number (Const x T) u h = no_ty_number T h
no_number (Free x T) u h = no_ty_number T h
no_number (Unknown x i T) u h = cc
no_number (Bound i) u h = refl
no_number (Abs x T b) u h = let o = or_false (ty_open T) (tm_open b) h in λ i. greater (no_ty_number T o.0 i) (no_number b u o.1 i)
no_number (App f a) u h =
    let v = or_false (has_unknown f) (has_unknown a) u in
    let o = or_false (tm_open f) (tm_open a) h in
    λ i. greater (no_number f v.0 o.0 i) (no_number a v.1 o.1 i)
