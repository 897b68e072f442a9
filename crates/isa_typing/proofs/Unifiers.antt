-- Unifiers as solutions: types for variables by a function, and by a list of entries.
use Rattle.std.proofs.Common.{◌≡◌, ℕ, ◌+◌, List, [], ◌∷◌, ◌++◌, map, Bool, true, false, cond, ◌&&◌, ◌||◌, nat_eq, Option, Some, None, refl, sym, ap, ◌∙◌, subst, unwrap_or}
use Rattle.isa_terms.specs.Types.{Ty, Tys, TyCon, TyFixed, TyUnknown, NoTys, MoreTys}
use Rattle.isa_terms.specs.Equal.{name_eq}
use Rattle.isa_terms.specs.Instance.{inst_ty, inst_tys, find_type}
use Rattle.isa_terms.specs.declared.inst.TypeEntry.{TypeEntry}
use Rattle.isa_unify.specs.TypeUnification.{Unifies, IsMostGeneral, ty_keys, tys_keys}
use Rattle.isa_unify.proofs.Tests.{key_self, key_true}
use Rattle.isa_typing.specs.Marks.{ty_with, tys_with}
use Rattle.isa_typing.specs.Typings.{instance_at}
use Rattle.isa_typing.proofs.Solutions.{Solution, Solves}

-- the types that the entries give
abbrev pub solution_of : List TypeEntry → Solution
solution_of q x i = inst_ty q (TyUnknown x i)

mutual
  pub inst_ty_at : (q : List TypeEntry) (T : Ty) → inst_ty q T ≡ instance_at (solution_of q) T
  inst_ty_at q (TyCon c Ts) = ap (TyCon c) (inst_tys_at q Ts)
  inst_ty_at q (TyFixed a) = refl
  inst_ty_at q (TyUnknown x i) = refl

  inst_tys_at : (q : List TypeEntry) (Ts : Tys) → inst_tys q Ts ≡ tys_with TyFixed (solution_of q) Ts
  inst_tys_at q NoTys = refl
  inst_tys_at q (MoreTys T Ts) = λ i. MoreTys (inst_ty_at q T i) (inst_tys_at q Ts i)

pub unifier_solves : (q : List TypeEntry) (es : List (Ty × Ty)) → Unifies q es → Solves (solution_of q) es
unifier_solves q [] u = tt
unifier_solves q (e ∷ es) u = (sym (inst_ty_at q e.0) ∙ (u.0 ∙ inst_ty_at q e.1), unifier_solves q es u.1)

-- the variables of a list, each with its type by the solution
abbrev Keys : Type 0
Keys = List (List ℕ × ℕ)

abbrev entries : Solution → Keys → List TypeEntry
entries r [] = []
entries r (k ∷ ks) = record { name = k.0; number = k.1; typ = r k.0 k.1 } ∷ entries r ks

abbrev stands : List ℕ → ℕ → Keys → Bool
stands x i [] = false
stands x i (k ∷ ks) = name_eq x k.0 && nat_eq i k.1 || stands x i ks

find_entry : (r : Solution) (x : List ℕ) (i : ℕ) (ks : Keys) → stands x i ks ≡ true → find_type x i (entries r ks) ≡ Some (r x i)
find_entry r x i [] h = absurd (cc)
find_entry r x i (k ∷ ks) h = at (λ w. find_entry r x i ks w) (name_eq x k.0 && nat_eq i k.1) refl h where
  at : (stands x i ks ≡ true → find_type x i (entries r ks) ≡ Some (r x i)) → (v : Bool) → (name_eq x k.0 && nat_eq i k.1) ≡ v → (v || stands x i ks) ≡ true → cond v (Some (r k.0 k.1)) (find_type x i (entries r ks)) ≡ Some (r x i)
  at ih true e w =
      let same = key_true x i k.0 k.1 e in
      λ j. Some (r (sym same.0 j) (sym same.1 j))
  at ih false e w = ih w

-- each variable of the type stands in the list
abbrev mutual
  Covered : Keys → Ty → Type 0
  Covered ks (TyCon c Ts) = AllCovered ks Ts
  Covered ks (TyFixed a) = Unit {0}
  Covered ks (TyUnknown x i) = stands x i ks ≡ true

  AllCovered : Keys → Tys → Type 0
  AllCovered ks NoTys = Unit {0}
  AllCovered ks (MoreTys T Ts) = Covered ks T × AllCovered ks Ts

mutual
  inst_entries : (r : Solution) (ks : Keys) (T : Ty) → Covered ks T → inst_ty (entries r ks) T ≡ instance_at r T
  inst_entries r ks (TyCon c Ts) h = ap (TyCon c) (insts_entries r ks Ts h)
  inst_entries r ks (TyFixed a) h = refl
  inst_entries r ks (TyUnknown x i) h = ap (λ o. unwrap_or o (TyUnknown x i)) (find_entry r x i ks h)

  insts_entries : (r : Solution) (ks : Keys) (Ts : Tys) → AllCovered ks Ts → inst_tys (entries r ks) Ts ≡ tys_with TyFixed r Ts
  insts_entries r ks NoTys h = refl
  insts_entries r ks (MoreTys T Ts) h = λ i. MoreTys (inst_entries r ks T h.0 i) (insts_entries r ks Ts h.1 i)

stands_left : (x : List ℕ) (i : ℕ) (ks ls : Keys) → stands x i ks ≡ true → stands x i (ks ++ ls) ≡ true
stands_left x i [] ls h = absurd (cc)
stands_left x i (k ∷ ks) ls h = at (λ w. stands_left x i ks ls w) (name_eq x k.0 && nat_eq i k.1) h where
  at : (stands x i ks ≡ true → stands x i (ks ++ ls) ≡ true) → (v : Bool) → (v || stands x i ks) ≡ true → (v || stands x i (ks ++ ls)) ≡ true
  at ih true w = refl
  at ih false w = ih w

stands_right : (x : List ℕ) (i : ℕ) (ks ls : Keys) → stands x i ls ≡ true → stands x i (ks ++ ls) ≡ true
stands_right x i [] ls h = h
stands_right x i (k ∷ ks) ls h = at (stands_right x i ks ls h) (name_eq x k.0 && nat_eq i k.1) where
  at : stands x i (ks ++ ls) ≡ true → (v : Bool) → (v || stands x i (ks ++ ls)) ≡ true
  at ih true = refl
  at ih false = ih

mutual
  covered_left : (ks ls : Keys) (T : Ty) → Covered ks T → Covered (ks ++ ls) T
  covered_left ks ls (TyCon c Ts) h = all_covered_left ks ls Ts h
  covered_left ks ls (TyFixed a) h = tt
  covered_left ks ls (TyUnknown x i) h = stands_left x i ks ls h

  all_covered_left : (ks ls : Keys) (Ts : Tys) → AllCovered ks Ts → AllCovered (ks ++ ls) Ts
  all_covered_left ks ls NoTys h = tt
  all_covered_left ks ls (MoreTys T Ts) h = (covered_left ks ls T h.0, all_covered_left ks ls Ts h.1)

mutual
  covered_right : (ks ls : Keys) (T : Ty) → Covered ls T → Covered (ks ++ ls) T
  covered_right ks ls (TyCon c Ts) h = all_covered_right ks ls Ts h
  covered_right ks ls (TyFixed a) h = tt
  covered_right ks ls (TyUnknown x i) h = stands_right x i ks ls h

  all_covered_right : (ks ls : Keys) (Ts : Tys) → AllCovered ls Ts → AllCovered (ks ++ ls) Ts
  all_covered_right ks ls NoTys h = tt
  all_covered_right ks ls (MoreTys T Ts) h = (covered_right ks ls T h.0, all_covered_right ks ls Ts h.1)

or_first : (a b : Bool) → a ≡ true → (a || b) ≡ true
or_first true b h = refl
or_first false b h = absurd (cc)

mutual
  own_keys : (T : Ty) → Covered (ty_keys T) T
  own_keys (TyCon c Ts) = own_all_keys Ts
  own_keys (TyFixed a) = tt
  own_keys (TyUnknown x i) = or_first (name_eq x x && nat_eq i i) false (key_self x i)

  own_all_keys : (Ts : Tys) → AllCovered (tys_keys Ts) Ts
  own_all_keys NoTys = tt
  own_all_keys (MoreTys T Ts) = (covered_left (ty_keys T) (tys_keys Ts) T (own_keys T), all_covered_right (ty_keys T) (tys_keys Ts) Ts (own_all_keys Ts))

-- the variables of the equations stand in the list
abbrev EquationsCovered : Keys → List (Ty × Ty) → Type 0
EquationsCovered ks [] = Unit {0}
EquationsCovered ks (e ∷ es) = Covered ks e.0 × (Covered ks e.1 × EquationsCovered ks es)

abbrev equation_keys : List (Ty × Ty) → Keys
equation_keys [] = []
equation_keys (e ∷ es) = ty_keys e.0 ++ (ty_keys e.1 ++ equation_keys es)

equations_covered_right : (ks ls : Keys) (es : List (Ty × Ty)) → EquationsCovered ls es → EquationsCovered (ks ++ ls) es
equations_covered_right ks ls [] h = tt
equations_covered_right ks ls (e ∷ es) h = (covered_right ks ls e.0 h.0, (covered_right ks ls e.1 h.1.0, equations_covered_right ks ls es h.1.1))

equations_covered_left : (ks ls : Keys) (es : List (Ty × Ty)) → EquationsCovered ks es → EquationsCovered (ks ++ ls) es
equations_covered_left ks ls [] h = tt
equations_covered_left ks ls (e ∷ es) h = (covered_left ks ls e.0 h.0, (covered_left ks ls e.1 h.1.0, equations_covered_left ks ls es h.1.1))

own_equation_keys : (es : List (Ty × Ty)) → EquationsCovered (equation_keys es) es
own_equation_keys [] = tt
own_equation_keys (e ∷ es) =
    let rest : Keys = equation_keys es in
    (covered_left (ty_keys e.0) (ty_keys e.1 ++ rest) e.0 (own_keys e.0), (covered_right (ty_keys e.0) (ty_keys e.1 ++ rest) e.1 (covered_left (ty_keys e.1) rest e.1 (own_keys e.1)), equations_covered_right (ty_keys e.0) (ty_keys e.1 ++ rest) es (equations_covered_right (ty_keys e.1) rest es (own_equation_keys es))))

solution_unifies : (r : Solution) (ks : Keys) (es : List (Ty × Ty)) → EquationsCovered ks es → Solves r es → Unifies (entries r ks) es
solution_unifies r ks [] h s = tt
solution_unifies r ks (e ∷ es) h s = (inst_entries r ks e.0 h.0 ∙ (s.0 ∙ sym (inst_entries r ks e.1 h.1.0)), solution_unifies r ks es h.1.1 s.1)

-- a most general unifier comes before each solution
pub most_general_at : (es : List (Ty × Ty)) (q : List TypeEntry) → IsMostGeneral es q → (r : Solution) → Solves r es → (T : Ty) → instance_at r (inst_ty q T) ≡ instance_at r T
most_general_at es q g r s T =
    let U : Ty = inst_ty q T in
    let own : Keys = ty_keys T ++ ty_keys U in
    let ks : Keys = own ++ equation_keys es in
    let t : Covered ks T = covered_left own (equation_keys es) T (covered_left (ty_keys T) (ty_keys U) T (own_keys T)) in
    let u : Covered ks U = covered_left own (equation_keys es) U (covered_right (ty_keys T) (ty_keys U) U (own_keys U)) in
    let unifies : Unifies (entries r ks) es = solution_unifies r ks es (equations_covered_right own (equation_keys es) es (own_equation_keys es)) s in
    sym (inst_entries r ks U u) ∙ (g.general (entries r ks) unifies T ∙ inst_entries r ks T t)

-- without a unifier there is no solution
pub no_solution : (es : List (Ty × Ty)) → ((q : List TypeEntry) → Unifies q es → ⊥) → (r : Solution) → Solves r es → ⊥
no_solution es none r s = none (entries r (equation_keys es)) (solution_unifies r (equation_keys es) es (own_equation_keys es) s)
