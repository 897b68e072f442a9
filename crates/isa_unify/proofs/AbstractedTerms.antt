-- The terms that are put in for unknowns: their types, and what they give at the variables.
use Rattle.std.proofs.Common.{◌≡◌, ℕ, zero, suc, ◌+◌, ◌-◌, ◌≤◌, List, [], ◌∷◌, map, length, false, cond, nat_eq, nat_lt, Some, None, refl, sym, ap, ◌∙◌, subst, arith}
use Rattle.std.specs.Prelude.{unwrap_or}
use Rattle.std.specs.List.{slice_get}
use Rattle.isa_terms.specs.Types.{Ty, ty_depth}
use Rattle.isa_terms.specs.Terms.{Tm, Const, Free, Unknown, Bound, Abs, App}
use Rattle.isa_terms.specs.Typing.{function_of}
use Rattle.isa_terms.specs.Norm.{eta}
use Rattle.isa_terms.specs.Instance.{find_term, inst_ty, inst_tm}
use Rattle.isa_terms.specs.declared.inst.TermEntry.{TermEntry}
use Rattle.isa_terms.specs.Typed.{Typed, TUnknown, TBound}
use Rattle.isa_terms.specs.Conversion.{Conv, CSym, CTrans}
use Rattle.isa_terms.specs.Instances.{IsKept}
use Rattle.isa_terms.proofs.Typed.{type_of_typed}
use Rattle.isa_terms.proofs.Conv.{right_typed}
use Rattle.isa_terms.proofs.Unique.{app_typed, domain_same, range_same}
use Rattle.isa_terms.proofs.Abstracting as abstracting
use Rattle.isa_terms.proofs.Abstracting.{AreDistinct, Among, AreKnown, arrow, tower, tower_typed, tower_closed, tower_applied, tower_moved, eta_plain, eta_plain_conv, eta_moved_conv, on_bounds_typed, on_bounds_conv}
use Rattle.isa_terms.proofs.Pruning.{IsWithin, PairTypes}
use Rattle.isa_unify.specs.declared.equation.Variable.{Variable}
use Rattle.isa_unify.specs.Unification.{types_in, variable, bind_all, place_behind, moved, abstracted, arrows, range_behind, on_bounds, becomes}
use Rattle.isa_unify.proofs.TypeInstances.{inst_nothing}
use Rattle.isa_unify.proofs.Unknowns.{Key, key_eq, key_eq_self}
use Rattle.isa_unify.proofs.Deciding.{unknown}

-- ---- the variables of binders
abbrev pub names : List Variable → ℕ → List ℕ
names bs n = (variable bs n).name

abbrev pub typs : List Variable → ℕ → Ty
typs bs n = (variable bs n).typ

pub on_bounds_same : (f : Tm) (ns : List ℕ) → on_bounds f ns ≡ abstracting.on_bounds f ns
on_bounds_same f [] = refl
on_bounds_same f (n ∷ ns) = on_bounds_same (App f (Bound n)) ns

pub arrows_same : (bs : List Variable) (ns : List ℕ) (T : Ty) → arrows bs ns T ≡ arrow (names bs) (typs bs) ns T
arrows_same bs [] T = refl
arrows_same bs (n ∷ ns) T = ap (function_of (typs bs n)) (arrows_same bs ns T)

place_same : (xs : List ℕ) (n : ℕ) → place_behind xs n ≡ abstracting.place_behind xs n
place_same [] n = refl
place_same (x ∷ xs) n = ap (λ m. cond (nat_eq x n) (length xs) m) (place_same xs n)

moved_same : (xs : List ℕ) (k : ℕ) (t : Tm) → moved xs k t ≡ abstracting.moved xs k t
moved_same xs k (Const x T) = refl
moved_same xs k (Free x T) = refl
moved_same xs k (Unknown x i T) = refl
moved_same xs k (Bound n) = ap (λ m. cond (nat_lt n k) (Bound n) (Bound (k + m))) (place_same xs (n - k))
moved_same xs k (Abs x T b) = ap (Abs x T) (moved_same xs (k + 1) b)
moved_same xs k (App f a) = λ i. App (moved_same xs k f i) (moved_same xs k a i)

bind_same : (bs : List Variable) (ns : List ℕ) (b : Tm) → bind_all (map (variable bs) ns) b ≡ eta_plain (names bs) (typs bs) ns b
bind_same bs [] b = refl
bind_same bs (n ∷ ns) b = ap (λ c. eta (names bs n) (typs bs n) c) (bind_same bs ns b)

pub abstracted_same : (bs : List Variable) (xs : List ℕ) (t : Tm) → abstracted bs xs t ≡ eta_plain (names bs) (typs bs) xs (abstracting.moved xs 0 t)
abstracted_same bs xs t = bind_same bs xs (moved xs 0 t) ∙ ap (eta_plain (names bs) (typs bs) xs) (moved_same xs 0 t)

variable_typed : (bs : List Variable) (n : ℕ) (T : Ty) → slice_get (types_in bs) n ≡ Some T → T ≡ typs bs n
variable_typed [] n T e = absurd (cc)
variable_typed (b ∷ bs) zero T e = cc
variable_typed (b ∷ bs) (suc n) T e = variable_typed bs n T e

-- an application to variables, in its binders
pub bounds_known : (bs : List Variable) (h : Tm) (ys : List ℕ) {U : Ty} → Typed (types_in bs) (abstracting.on_bounds h ys) U → AreKnown (names bs) (typs bs) (types_in bs) ys × Typed (types_in bs) h (arrow (names bs) (typs bs) ys U)
bounds_known bs h [] d = (tt, d)
bounds_known bs h (y ∷ ys) {U} d =
    let p = bounds_known bs (App h (Bound y)) ys d in
    let q = app_typed p.1 in
    let g : slice_get (types_in bs) y ≡ Some q.0 = own q.2 in
    let s : q.0 ≡ typs bs y = variable_typed bs y q.0 g in
    ((g ∙ ap Some s, p.0), subst (λ S. Typed (types_in bs) h (function_of S (arrow (names bs) (typs bs) ys U))) s q.1)
  where
    own : {G : List Ty} {n : ℕ} {T : Ty} → Typed G (Bound n) T → slice_get G n ≡ Some T
    own (TBound g) = g

pub unknown_type : {G : List Ty} {x : List ℕ} {i : ℕ} {T U : Ty} → Typed G (Unknown x i T) U → T ≡ U
unknown_type TUnknown = refl

-- the range behind the variables
pub range_of_arrow : (N : ℕ → List ℕ) (Y : ℕ → Ty) (ns : List ℕ) (T : Ty) → range_behind ns (arrow N Y ns T) ≡ T
range_of_arrow N Y [] T = refl
range_of_arrow N Y (n ∷ ns) T = range_of_arrow N Y ns T

-- ---- terms abstracted over variables of the binders
pub record Abstracted (bs : List Variable) (xs : List ℕ) (t : Tm) (T : Ty) : Type 0 where
  pub closed : Typed [] (abstracted bs xs t) (arrow (names bs) (typs bs) xs T)
  pub is : Conv (types_in bs) (arrow (names bs) (typs bs) xs T) (tower (names bs) (typs bs) xs t) (abstracted bs xs t)

pub abstracts : (bs : List Variable) (xs : List ℕ) (t : Tm) (T : Ty) → AreKnown (names bs) (typs bs) (types_in bs) xs → AreDistinct xs → IsWithin xs t → Typed (types_in bs) t T → Abstracted bs xs t T
abstracts bs xs t T k a w d =
    let N = names bs in
    let Y = typs bs in
    let e = abstracted_same bs xs t in
    let p : Typed [] (abstracting.plain N Y xs (abstracting.moved xs 0 t)) (arrow N Y xs T) = subst (λ u. Typed [] u (arrow N Y xs T)) (tower_moved N Y xs t a w) (tower_closed N Y xs k d w) in
    let c : Typed [] (eta_plain N Y xs (abstracting.moved xs 0 t)) (arrow N Y xs T) = right_typed (eta_plain_conv N Y xs (abstracting.moved xs 0 t) p) in
    record {
      closed = subst (λ u. Typed [] u (arrow N Y xs T)) (sym e) c;
      is = subst (λ u. Conv (types_in bs) (arrow N Y xs T) (tower N Y xs t) u) (sym e) (eta_moved_conv N Y xs k a w d);
    }

-- at its variables the abstraction is the term again
pub abstracted_applied : (bs : List Variable) (xs : List ℕ) (t : Tm) (T : Ty) → AreKnown (names bs) (typs bs) (types_in bs) xs → Typed (types_in bs) t T → Abstracted bs xs t T → Conv (types_in bs) T (abstracting.on_bounds (abstracted bs xs t) xs) t
abstracted_applied bs xs t T k d a = CTrans (on_bounds_conv (names bs) (typs bs) xs k (CSym a.is)) (tower_applied (names bs) (typs bs) xs k d)

-- ---- one unknown becomes a term
abbrev pub hit : Key → Tm → List TermEntry
hit k A = becomes k.name k.number k.typ A ∷ []

pub find_hit : (k : Key) (A : Tm) → inst_tm [] (hit k A) (unknown k) ≡ A
find_hit k A = ap (λ b. unwrap_or (cond b (Some A) None) (Unknown k.name k.number (inst_ty [] k.typ))) (key_eq_self k)

pub find_missed : (k l : Key) (A : Tm) (s : List TermEntry) → key_eq l k ≡ false → inst_tm [] (becomes k.name k.number k.typ A ∷ s) (unknown l) ≡ inst_tm [] s (unknown l)
find_missed k l A s e = ap (λ b. unwrap_or (cond b (Some A) (find_term l.name l.number l.typ s)) (Unknown l.name l.number (inst_ty [] l.typ))) e

pub find_nothing : (l : Key) → inst_tm [] [] (unknown l) ≡ unknown l
find_nothing l = ap (Unknown l.name l.number) (inst_nothing l.typ)

pub hit_kept : (k : Key) (A : Tm) → Typed [] A k.typ → IsKept [] (hit k A)
hit_kept k A d = (type_of_typed (subst (λ U. Typed [] A U) (sym (inst_nothing k.typ)) d), tt)

-- ---- types that would hold themselves
depth_tail : (N : ℕ → List ℕ) (Y : ℕ → Ty) (ns : List ℕ) (T : Ty) → ty_depth T ≤ ty_depth (arrow N Y ns T)
depth_tail N Y [] T = omega arith
depth_tail N Y (n ∷ ns) T = let h = depth_tail N Y ns T in omega (arith, h)

pub arrows_pair : (N : ℕ → List ℕ) (Y : ℕ → Ty) (xs ys : List ℕ) (T : Ty) → arrow N Y xs T ≡ arrow N Y ys T → PairTypes Y xs ys
arrows_pair N Y [] [] T e = tt
arrows_pair N Y (x ∷ xs) (y ∷ ys) T e = (domain_same e, arrows_pair N Y xs ys T (range_same e))
arrows_pair N Y [] (y ∷ ys) T e = let h = depth_tail N Y ys T in let q = ap ty_depth e in omega (arith, h, q)
arrows_pair N Y (x ∷ xs) [] T e = let h = depth_tail N Y xs T in let q = ap ty_depth e in omega (arith, h, q)
