-- Parts that a walk need not enter, since their nodes know that nothing is to be found there.
use Rattle.std.proofs.Common.{◌≡◌, ℕ, ◌+◌, ◌-◌, ◌<◌, ◌≤◌, max, List, [], ◌∷◌, ◌++◌, Bool, true, false, cond, ◌||◌, nat_eq, nat_lt, Option, Some, None, refl, sym, ap, ◌∙◌, arith}
use Rattle.std.proofs.lemmas.Bool.Decides.{nat_tests}
use Rattle.isa_terms.specs.Types.{Ty, Tys, TyCon, TyFixed, TyUnknown, NoTys, MoreTys}
use Rattle.isa_terms.specs.Terms.{Tm, Const, Free, Unknown, Bound, Abs, App}
use Rattle.isa_terms.specs.Facts.{ty_open, tys_open, tm_open, has_unknown, loose_end}
use Rattle.isa_terms.specs.Instance.{Instance}
use Rattle.isa_terms.specs.declared.inst.TypeEntry.{TypeEntry}
use Rattle.isa_terms.specs.declared.inst.TermEntry.{TermEntry}
use Rattle.isa_unify.specs.Calls.{past}
use Rattle.isa_unify.specs.Matching as matching
use Rattle.isa_unify.specs.Spines.{head_of, args_of, is_flexible, has_number}
use Rattle.isa_unify.specs.TypeUnification.{ty_has, tys_have}
use Rattle.isa_unify.specs.Unification.{allowed, at_unknown, first_verdict, first_place, place_behind, moved, with_type_unknowns, with_all_type_unknowns, with_types, with_unknowns}
use Rattle.isa_unify.specs.declared.equation.Variable.{Variable}
use Rattle.isa_unify.specs.declared.progress.Verdict.{Verdict}
use Rattle.isa_unify.specs.declared.progress.Verdict.TheVariants.{Fine, Refused}
use Rattle.isa_unify.proofs.Tests.{and_true, both_true, neither_true}

-- ---- loose variables
pub closed_below : (k : ℕ) (t : Tm) → loose_end t ≤ k → matching.is_closed k t ≡ true
closed_below k (Const x T) h = refl
closed_below k (Free x T) h = refl
closed_below k (Unknown x i T) h = refl
closed_below k (Bound i) h = grind (arith, nat_tests)
closed_below k (Abs x T b) h = closed_below (k + 1) b (omega arith)
closed_below k (App f a) h = and_true (matching.is_closed k f) (matching.is_closed k a) (closed_below k f (omega arith)) (closed_below k a (omega arith))

end_below : (k : ℕ) (t : Tm) → matching.is_closed k t ≡ true → loose_end t ≤ k
end_below k (Const x T) h = omega arith
end_below k (Free x T) h = omega arith
end_below k (Unknown x i T) h = omega arith
end_below k (Bound i) h = grind (arith, nat_tests)
end_below k (Abs x T b) h = let e = end_below (k + 1) b h in omega (arith, e)
end_below k (App f a) h =
    let p = both_true (matching.is_closed k f) (matching.is_closed k a) h in
    let e = end_below k f p.0 in
    let d = end_below k a p.1 in
    omega (arith, e, d)

pub open_above : (k : ℕ) (t : Tm) → k < loose_end t → matching.is_closed k t ≡ false
open_above k t h = at (matching.is_closed k t) refl
  where
    at : (b : Bool) → matching.is_closed k t ≡ b → b ≡ false
    at true e = let d = end_below k t e in absurd (omega (arith, d))
    at false e = refl

bound_below : (k i : ℕ) (t : Tm) → i + 1 ≤ k → cond (nat_lt i k) (Bound i) t ≡ Bound i
bound_below k i t h = let e : nat_lt i k ≡ true = grind (arith, nat_tests) in ap (λ b. cond b (Bound i) t) e

pub over_same : (n k : ℕ) (t : Tm) → loose_end t ≤ k → matching.over n k t ≡ t
over_same n k (Const x T) h = refl
over_same n k (Free x T) h = refl
over_same n k (Unknown x i T) h = refl
over_same n k (Bound i) h = bound_below k i (cond (nat_eq i (n + k)) (Bound k) (Bound (i + 1))) h
over_same n k (Abs x T b) h = ap (Abs x T) (over_same n (k + 1) b (omega arith))
over_same n k (App f a) h = λ i. App (over_same n k f (omega arith) i) (over_same n k a (omega arith) i)

pub moved_same : (xs : List ℕ) (k : ℕ) (t : Tm) → loose_end t ≤ k → moved xs k t ≡ t
moved_same xs k (Const x T) h = refl
moved_same xs k (Free x T) h = refl
moved_same xs k (Unknown x i T) h = refl
moved_same xs k (Bound i) h = bound_below k i (Bound (k + place_behind xs (i - k))) h
moved_same xs k (Abs x T b) h = ap (Abs x T) (moved_same xs (k + 1) b (omega arith))
moved_same xs k (App f a) h = λ i. App (moved_same xs k f (omega arith) i) (moved_same xs k a (omega arith) i)

-- ---- the first place that decides
rigid : (t : Tm) → has_unknown t ≡ false → is_flexible t ≡ false
rigid (Const x T) h = refl
rigid (Free x T) h = refl
rigid (Unknown x i T) h = absurd (cc)
rigid (Bound i) h = refl
rigid (Abs x T b) h = refl
rigid (App f a) h = rigid f (neither_true (has_unknown f) (has_unknown a) h).0

-- no unknown at the head is to be solved
no_flexible : (t : Tm) → is_flexible t ≡ false → matching.flexible t ≡ None
no_flexible (Const x T) h = refl
no_flexible (Free x T) h = refl
no_flexible (Unknown x i T) h = absurd (cc)
no_flexible (Bound i) h = refl
no_flexible (Abs x T b) h = refl
no_flexible (App f a) h = ap (λ o. matching.applied o a) (no_flexible f h)

pub rigid_stays : (s : Instance) (t : Tm) → is_flexible t ≡ false → matching.to_solve s t ≡ None
rigid_stays s (Const x T) h = refl
rigid_stays s (Free x T) h = refl
rigid_stays s (Unknown x i T) h = absurd (cc)
rigid_stays s (Bound i) h = refl
rigid_stays s (Abs x T b) h = refl
rigid_stays s (App f a) h = ap (matching.unless_fixed s) (no_flexible (App f a) h)

allowed_below : (xs : List ℕ) (d i : ℕ) → i + 1 ≤ d → allowed xs d i ≡ true
allowed_below xs d i h = let e : nat_lt i d ≡ true = grind (arith, nat_tests) in ap (λ b. cond b true (has_number xs (i - d))) e

pub fine_within : (f : List ℕ) (k : ℕ) (xs : List ℕ) (d : ℕ) (bs : List Variable) (t : Tm) → has_unknown t ≡ false → loose_end t ≤ d → first_place f k xs d bs t ≡ Fine
fine_within f k xs d bs (Const x T) u h = refl
fine_within f k xs d bs (Free x T) u h = refl
fine_within f k xs d bs (Unknown x i T) u h = absurd (cc)
fine_within f k xs d bs (Bound i) u h = ap (λ b. cond b Fine Refused) (allowed_below xs d i h)
fine_within f k xs d bs (Abs x T b) u h = fine_within f k xs (d + 1) (record { name = x; typ = T } ∷ bs) b u (omega arith)
fine_within f k xs d bs (App g a) u h =
    let v = neither_true (has_unknown g) (has_unknown a) u in
    ap (λ b. cond b (at_unknown f k xs d bs (head_of g) (args_of g ++ a ∷ [])) (first_verdict (first_place f k xs d bs g) (first_place f k xs d bs a))) (rigid g v.0)
    ∙ (λ i. first_verdict (fine_within f k xs d bs g v.0 (omega arith) i) (fine_within f k xs d bs a v.1 (omega arith) i))

-- ---- unknowns and type unknowns
mutual
  pub ty_has_none : (x : List ℕ) (i : ℕ) (T : Ty) → ty_open T ≡ false → ty_has x i T ≡ false
  ty_has_none x i (TyCon c Ts) h = tys_have_none x i Ts h
  ty_has_none x i (TyFixed a) h = refl
  ty_has_none x i (TyUnknown y j) h = absurd (cc)

  tys_have_none : (x : List ℕ) (i : ℕ) (Ts : Tys) → tys_open Ts ≡ false → tys_have x i Ts ≡ false
  tys_have_none x i NoTys h = refl
  tys_have_none x i (MoreTys T Ts) h = let o = neither_true (ty_open T) (tys_open Ts) h in λ j. ty_has_none x i T o.0 j || tys_have_none x i Ts o.1 j

mutual
  pub no_type_asked : (es : List TypeEntry) (T : Ty) → ty_open T ≡ false → with_type_unknowns es T ≡ es
  no_type_asked es (TyCon c Ts) h = no_types_asked es Ts h
  no_type_asked es (TyFixed a) h = refl
  no_type_asked es (TyUnknown y j) h = absurd (cc)

  no_types_asked : (es : List TypeEntry) (Ts : Tys) → tys_open Ts ≡ false → with_all_type_unknowns es Ts ≡ es
  no_types_asked es NoTys h = refl
  no_types_asked es (MoreTys T Ts) h = let o = neither_true (ty_open T) (tys_open Ts) h in no_types_asked (with_type_unknowns es T) Ts o.1 ∙ no_type_asked es T o.0

pub none_asked : (es : List TypeEntry) (t : Tm) → tm_open t ≡ false → with_types es t ≡ es
none_asked es (Const x T) h = no_type_asked es T h
none_asked es (Free x T) h = no_type_asked es T h
none_asked es (Unknown x i T) h = no_type_asked es T h
none_asked es (Bound i) h = refl
none_asked es (Abs x T b) h = let o = neither_true (ty_open T) (tm_open b) h in none_asked (with_type_unknowns es T) b o.1 ∙ no_type_asked es T o.0
none_asked es (App f a) h = let o = neither_true (tm_open f) (tm_open a) h in none_asked (with_types es f) a o.1 ∙ none_asked es f o.0

pub no_term_asked : (es : List TermEntry) (t : Tm) → has_unknown t ≡ false → with_unknowns es t ≡ es
no_term_asked es (Const x T) h = refl
no_term_asked es (Free x T) h = refl
no_term_asked es (Unknown x i T) h = absurd (cc)
no_term_asked es (Bound i) h = refl
no_term_asked es (Abs x T b) h = no_term_asked es b h
no_term_asked es (App f a) h = let o = neither_true (has_unknown f) (has_unknown a) h in no_term_asked (with_unknowns es f) a o.1 ∙ no_term_asked es f o.0

pub past_none : (t : Tm) → has_unknown t ≡ false → past t ≡ 0
past_none (Const x T) h = refl
past_none (Free x T) h = refl
past_none (Unknown x i T) h = absurd (cc)
past_none (Bound i) h = refl
past_none (Abs x T b) h = past_none b h
past_none (App f a) h = let o = neither_true (has_unknown f) (has_unknown a) h in λ i. max (past_none f o.0 i) (past_none a o.1 i)
