-- What is derived is a proposition.
use Rattle.std.proofs.Common.{◌≡◌, ℕ, zero, suc, ◌+◌, List, [], ◌∷◌, ◌++◌, length, Bool, true, false, cond, ◌&&◌, Some, refl, sym, ap, ◌∙◌, subst, arith, append-nil, nat_eq, unwrap_or}
use Rattle.std.specs.List.{slice_get}
use Rattle.isa_terms.specs.Types.{Ty}
use Rattle.isa_terms.specs.Terms.{Tm, Const, Free, Unknown, Bound, Abs, App}
use Rattle.isa_terms.specs.Equal.{name_eq, ty_eq}
use Rattle.isa_terms.specs.Typing.{function_of}
use Rattle.isa_terms.specs.Binding.{close_at}
use Rattle.isa_terms.specs.declared.inst.TypeEntry.{TypeEntry}
use Rattle.isa_terms.specs.declared.inst.TermEntry.{TermEntry}
use Rattle.isa_terms.specs.Instance.{find_term, inst_ty, inst_tm}
use Rattle.isa_terms.specs.Generalize.{is_named, gen_ty, gen_tm}
use Rattle.isa_terms.proofs.Equal.{ty_decides}
use Rattle.isa_terms.specs.Typing.{HasType}
use Rattle.isa_kernel.specs.Logic.{prop, imp, eq, all, IsProposition}
use Rattle.isa_kernel.specs.Derivation.{Tree, Axiom, Assumption, ImpliesIntro, ImpliesElim, ForallIntro, ForallElim, Reflexive, Symmetric, Transitive, Combination, Abstraction, Beta, Eta, EqualIntro, EqualElim, Instance, Generalisation, IsKept}
use Rattle.isa_terms.proofs.Typed.{Typed, TConst, TFree, TUnknown, TBound, TAbs, TApp, type_of_typed, typed_of_type, put_typed, raise_typed}
use Rattle.isa_kernel.proofs.Fill.{raise_closed}

-- ---- closing keeps types
pub get_first : (P Q : List Ty) (n : ℕ) (T : Ty) → slice_get P n ≡ Some T → slice_get (P ++ Q) n ≡ Some T
get_first [] Q n T e = cc
get_first (S ∷ P) Q zero T e = e
get_first (S ∷ P) Q (suc n) T e = get_first P Q n T e

pub get_last : (P : List Ty) (S : Ty) → slice_get (P ++ S ∷ []) (length P) ≡ Some S
get_last [] S = refl
get_last (T ∷ P) S = get_last P S

pub one_more : (n : ℕ) → suc n ≡ n + 1
one_more n = omega arith

pub and_true : (a b : Bool) → (a && b) ≡ true → (a ≡ true) × (b ≡ true)
and_true true b e = (refl, e)
and_true false b e = cc

pub close_free : (P : List Ty) (x y : List ℕ) (S T : Ty) (b : Bool) → (name_eq x y && ty_eq S T) ≡ b → Typed (P ++ S ∷ []) (cond b (Bound (length P)) (Free y T)) T
close_free P x y S T true e = let q = (ty_decides S T).0 (and_true (name_eq x y) (ty_eq S T) e).1 in TBound (get_last P S ∙ ap Some q)
close_free P x y S T false e = TFree

pub close_typed : (P : List Ty) (x : List ℕ) (S : Ty) {t : Tm} {T : Ty} → Typed P t T → Typed (P ++ S ∷ []) (close_at x S (length P) t) T
close_typed P x S TConst = TConst
close_typed P x S (TFree {G} {x = y} {T}) = close_free P x y S T (name_eq x y && ty_eq S T) refl
close_typed P x S TUnknown = TUnknown
close_typed P x S (TBound {G} {n} {T} h) = TBound (get_first P (S ∷ []) n T h)
close_typed P x S (TAbs {G} {x = y} {S = U} {T} {b} d) = TAbs (subst (λ k. Typed (U ∷ (P ++ S ∷ [])) (close_at x S k b) T) (one_more (length P)) (close_typed (U ∷ P) x S d))
close_typed P x S (TApp d e) = TApp (close_typed P x S d) (close_typed P x S e)

-- ---- the parts of propositions
module _ {G : List Ty} where
  pub imp_typed : {p q : Tm} → Typed G p prop → Typed G q prop → Typed G (imp p q) prop
  imp_typed d e = TApp (TApp TConst d) e

  pub eq_typed : {T : Ty} {t u : Tm} → Typed G t T → Typed G u T → Typed G (eq T t u) prop
  eq_typed d e = TApp (TApp TConst d) e

  pub all_typed : {x : List ℕ} {T : Ty} {b : Tm} → Typed (T ∷ G) b prop → Typed G (all x T b) prop
  all_typed d = TApp TConst (TAbs d)

pub app_typed : {G : List Ty} {f a : Tm} {T : Ty} → Typed G (App f a) T → (S : Ty) × Typed G f (function_of S T) × Typed G a S
app_typed (TApp {S} d e) = (S, d, e)

pub const_typed : {G : List Ty} {x : List ℕ} {T U : Ty} → Typed G (Const x T) U → T ≡ U
const_typed TConst = refl

pub abs_typed : {G : List Ty} {x : List ℕ} {S : Ty} {b : Tm} {U : Ty} → Typed G (Abs x S b) U → (T : Ty) × (U ≡ function_of S T) × Typed (S ∷ G) b T
abs_typed (TAbs {T} d) = (T, refl, d)

pub function_first : {A B C D : Ty} → function_of A B ≡ function_of C D → A ≡ C
function_first e = cc (e)

pub function_second : {A B C D : Ty} → function_of A B ≡ function_of C D → B ≡ D
function_second e = cc (e)

-- the two arguments of a constant of type `A => B => C`
pub binary_typed : {G : List Ty} {x : List ℕ} {A B C : Ty} {t u : Tm} {T : Ty} → Typed G (App (App (Const x (function_of A (function_of B C))) t) u) T → Typed G t A × Typed G u B
binary_typed {G} {x} {A} {B} {C} {t} {u} {T} d =
    let outer = app_typed d in
    let inner = app_typed outer.1 in
    let c : function_of A (function_of B C) ≡ function_of inner.0 (function_of outer.0 T) = const_typed inner.1 in
    (subst (λ S. Typed G t S) (sym (function_first c)) inner.2, subst (λ S. Typed G u S) (sym (function_first (function_second c))) outer.2)

pub imp_both : {p q : Tm} {T : Ty} → Typed [] (imp p q) T → Typed [] p prop × Typed [] q prop
imp_both d = binary_typed d

pub eq_both : {S : Ty} {t u : Tm} {T : Ty} → Typed [] (eq S t u) T → Typed [] t S × Typed [] u S
eq_both d = binary_typed d

pub all_body : {x : List ℕ} {S : Ty} {b : Tm} {T : Ty} → Typed [] (all x S b) T → Typed (S ∷ []) b prop
all_body {x} {S} {b} {T} d =
    let outer = app_typed d in
    let c : function_of (function_of S prop) prop ≡ function_of outer.0 T = const_typed outer.1 in
    let body = abs_typed outer.2 in
    let f : function_of S prop ≡ function_of S body.0 = function_first c ∙ body.1 in
    subst (λ U. Typed (S ∷ []) b U) (sym (function_second f)) body.2

pub is : {t : Tm} {T : Ty} → HasType t T → Typed [] t T
is {t} {T} h = typed_of_type [] t T h

-- ---- instances keep types
abbrev pub inst_all : List TypeEntry → List Ty → List Ty
inst_all es [] = []
inst_all es (T ∷ Ts) = inst_ty es T ∷ inst_all es Ts

pub get_inst : (es : List TypeEntry) (G : List Ty) (n : ℕ) (T : Ty) → slice_get G n ≡ Some T → slice_get (inst_all es G) n ≡ Some (inst_ty es T)
get_inst es [] n T e = cc
get_inst es (S ∷ G) zero T e = let q : S ≡ T = cc in ap (λ U. Some (inst_ty es U)) q
get_inst es (S ∷ G) (suc n) T e = get_inst es G n T e

-- a term without loose numbers has its type under any binders
pub closed_anywhere : {t : Tm} {T : Ty} (G : List Ty) → Typed [] t T → Typed G t T
closed_anywhere {t} {T} G d = subst (λ K. Typed K t T) (append-nil G) (subst (λ g. Typed (G ++ []) g T) (raise_closed (length G) d) (raise_typed [] G [] refl d))

pub unknown_typed : (es : List TypeEntry) (fs : List TermEntry) (G : List Ty) (x : List ℕ) (i : ℕ) (T : Ty) → IsKept es fs → Typed G (unwrap_or (find_term x i T fs) (Unknown x i (inst_ty es T))) (inst_ty es T)
unknown_typed es [] G x i T k = TUnknown
unknown_typed es (f ∷ fs) G x i T k = found (name_eq x f.name) (nat_eq i f.number) (ty_eq T f.typ) refl (unknown_typed es fs G x i T k.1)
  where
    found : (a b c : Bool) → ty_eq T f.typ ≡ c → Typed G (unwrap_or (find_term x i T fs) (Unknown x i (inst_ty es T))) (inst_ty es T) → Typed G (unwrap_or (cond (a && (b && c)) (Some f.term) (find_term x i T fs)) (Unknown x i (inst_ty es T))) (inst_ty es T)
    found true true true h r = subst (λ U. Typed G f.term (inst_ty es U)) (sym ((ty_decides T f.typ).0 h)) (closed_anywhere G (typed_of_type [] f.term (inst_ty es f.typ) k.0))
    found false b c h r = r
    found true false c h r = r
    found true true false h r = r

pub inst_typed : (es : List TypeEntry) (fs : List TermEntry) → IsKept es fs → {G : List Ty} {t : Tm} {T : Ty} → Typed G t T → Typed (inst_all es G) (inst_tm es fs t) (inst_ty es T)
inst_typed es fs k TConst = TConst
inst_typed es fs k TFree = TFree
inst_typed es fs k (TUnknown {G} {x} {i} {T}) = unknown_typed es fs (inst_all es G) x i T k
inst_typed es fs k (TBound {G} {n} {T} h) = TBound (get_inst es G n T h)
inst_typed es fs k (TAbs d) = TAbs (inst_typed es fs k d)
inst_typed es fs k (TApp d e) = TApp (inst_typed es fs k d) (inst_typed es fs k e)

-- ---- generalising keeps types
abbrev pub gen_all : List (List ℕ) → List Ty → List Ty
gen_all ns [] = []
gen_all ns (T ∷ Ts) = gen_ty ns T ∷ gen_all ns Ts

pub get_gen : (ns : List (List ℕ)) (G : List Ty) (n : ℕ) (T : Ty) → slice_get G n ≡ Some T → slice_get (gen_all ns G) n ≡ Some (gen_ty ns T)
get_gen ns [] n T e = cc
get_gen ns (S ∷ G) zero T e = let q : S ≡ T = cc in ap (λ U. Some (gen_ty ns U)) q
get_gen ns (S ∷ G) (suc n) T e = get_gen ns G n T e

pub free_gen : (G : List Ty) (x : List ℕ) (T : Ty) (b : Bool) → Typed G (cond b (Unknown x 0 T) (Free x T)) T
free_gen G x T true = TUnknown
free_gen G x T false = TFree

pub gen_typed : (ns : List (List ℕ)) → {G : List Ty} {t : Tm} {T : Ty} → Typed G t T → Typed (gen_all ns G) (gen_tm ns t) (gen_ty ns T)
gen_typed ns TConst = TConst
gen_typed ns (TFree {G} {x} {T}) = free_gen (gen_all ns G) x (gen_ty ns T) (is_named ns x)
gen_typed ns TUnknown = TUnknown
gen_typed ns (TBound {G} {n} {T} h) = TBound (get_gen ns G n T h)
gen_typed ns (TAbs d) = TAbs (gen_typed ns d)
gen_typed ns (TApp d e) = TApp (gen_typed ns d) (gen_typed ns e)

-- each proposition that is derived is well typed, and has no loose bound variables
pub derived_typed : {ax H : List Tm} {p : Tm} → Tree ax H p → Typed [] p prop
derived_typed (Axiom m h) = is h
derived_typed (Assumption h) = is h
derived_typed (ImpliesIntro h d) = imp_typed (is h) (derived_typed d)
derived_typed (ImpliesElim d e) = (imp_both (derived_typed d)).1
derived_typed (ForallIntro x T n d) = all_typed (close_typed [] x T (derived_typed d))
derived_typed (ForallElim {H} {T} {b} t h d) = put_typed [] [] T t refl (is h) (all_body (derived_typed d))
derived_typed (Reflexive h) = eq_typed (is h) (is h)
derived_typed (Symmetric d) = let p = eq_both (derived_typed d) in eq_typed p.1 p.0
derived_typed (Transitive d e) = eq_typed (eq_both (derived_typed d)).0 (eq_both (derived_typed e)).1
derived_typed (Combination d e) =
    let f = eq_both (derived_typed d) in
    let a = eq_both (derived_typed e) in
    eq_typed (TApp f.0 a.0) (TApp f.1 a.1)
derived_typed (Abstraction x S n d) =
    let p = eq_both (derived_typed d) in
    eq_typed (TAbs (close_typed [] x S p.0)) (TAbs (close_typed [] x S p.1))
derived_typed (Beta {S} {T} {b} {a} h) =
    let outer = app_typed (is h) in
    let fun = abs_typed {x = []} outer.1 in
    let a_typed : Typed [] a S = subst (λ U. Typed [] a U) (function_first fun.1) outer.2 in
    let b_typed : Typed (S ∷ []) b T = subst (λ U. Typed (S ∷ []) b U) (sym (function_second fun.1)) fun.2 in
    eq_typed (is h) (put_typed [] [] S a refl a_typed b_typed)
derived_typed (Eta {S} {T} {f} h) =
    let f_typed : Typed [] f (function_of S T) = is h in
    let under : Typed (S ∷ []) f (function_of S T) = subst (λ g. Typed (S ∷ []) g (function_of S T)) (raise_closed 1 f_typed) (raise_typed [] (S ∷ []) [] refl f_typed) in
    eq_typed (TAbs (TApp under (TBound refl))) f_typed
derived_typed (EqualIntro d e) = let p = imp_both (derived_typed d) in eq_typed p.0 p.1
derived_typed (Instance es fs k n d) = inst_typed es fs k (derived_typed d)
derived_typed (Generalisation names n d) = gen_typed names (derived_typed d)
derived_typed (EqualElim d e) = (eq_both (derived_typed d)).1

pub derived_proposition : {ax H : List Tm} {p : Tm} → Tree ax H p → IsProposition p
derived_proposition d = type_of_typed (derived_typed d)
