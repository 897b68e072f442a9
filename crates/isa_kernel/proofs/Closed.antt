-- A conversion of closed terms is a derivation.
use Rattle.std.proofs.Common.{◌≡◌, ℕ, ◌+◌, ◌<◌, List, [], ◌∷◌, length, replicate, refl, sym, ap, ◌∙◌, subst, arith, cond, nat_lt, true, false}
use Rattle.std.proofs.lemmas.List.{length-replicate}
use Rattle.isa_terms.specs.Types.{Ty}
use Rattle.isa_terms.specs.Terms.{Tm, Const, Free, Unknown, Bound, Abs, App, bare}
use Rattle.isa_terms.specs.Typing.{function_of}
use Rattle.isa_terms.specs.Replace.{raise, replace}
use Rattle.isa_terms.proofs.Bare.{put_bare, raise_bare}
use Rattle.isa_terms.specs.Norm.{norm}
use Rattle.isa_terms.specs.Typing.{HasType}
use Rattle.isa_kernel.specs.Logic.{eq}
use Rattle.isa_kernel.specs.Derivation.{Tree, Reflexive, Symmetric, Transitive, Combination, Abstraction, Beta, Eta}
use Rattle.isa_terms.proofs.Typed.{Typed, TAbs, TApp, type_of_typed, typed_of_type}
use Rattle.isa_terms.proofs.Conv.{Conv, CRefl, CSym, CTrans, CApp, CAbs, CBeta, CEta, norm_conv}
use Rattle.isa_kernel.proofs.Fill.{Var, types, fill, fill_put, fill_raise, fill_typed, bare_typed, raise_closed, close_fill, longest, longest_of, occurs_longer, new_longer}

-- the term with variables for its binders, without names
abbrev pub shut : List Var → Tm → Tm
shut vs t = fill vs 0 (bare t)

pub shut_typed : (vs : List Var) {G : List Ty} {t : Tm} {T : Ty} → types vs ≡ G → Typed G t T → Typed [] (shut vs t) T
shut_typed vs e d = fill_typed [] vs (sym e) (bare_typed d)

-- a name that is longer than those of two terms and of the variables
pub new_name : Tm → Tm → List Var → List ℕ
new_name t u vs = replicate (longest t + longest u + longest_of vs + 1) 0

pub new_length : (t u : Tm) (vs : List Var) → length (new_name t u vs) ≡ longest t + longest u + longest_of vs + 1
unfolding new_name
new_length t u vs = length-replicate (longest t + longest u + longest_of vs + 1) 0

pub has_type : {t : Tm} {T : Ty} → Typed [] t T → HasType t T
has_type d = type_of_typed d

abbrev pub EqTree : Ty → Tm → Tm → Type 0
EqTree T t u = Tree [] [] (eq T t u)

pub abs_tree : (vs : List Var) (S T : Ty) (b c : Tm) (z : List ℕ) → longest b + longest c + longest_of vs < length z → EqTree T (fill ((z, S) ∷ vs) 0 b) (fill ((z, S) ∷ vs) 0 c) → EqTree (function_of S T) (Abs [] S (fill vs 1 b)) (Abs [] S (fill vs 1 c))
abs_tree vs S T b c z l d =
    let new = new_longer z S vs (omega arith) in
    let at_b = close_fill z S vs 0 b (occurs_longer z S b (omega arith)) new in
    let at_c = close_fill z S vs 0 c (occurs_longer z S c (omega arith)) new in
    subst (λ p. Tree [] [] p) (λ i. eq (function_of S T) (Abs [] S (at_b i)) (Abs [] S (at_c i))) (Abstraction z S refl d)

pub closed_tree : {G : List Ty} {T : Ty} {t u : Tm} → Conv G T t u → (vs : List Var) → types vs ≡ G → EqTree T (shut vs t) (shut vs u)
closed_tree (CRefl d) vs e = Reflexive (has_type (shut_typed vs e d))
closed_tree (CSym c) vs e = Symmetric (closed_tree c vs e)
closed_tree (CTrans c d) vs e = Transitive (closed_tree c vs e) (closed_tree d vs e)
closed_tree (CApp c d) vs e = Combination (closed_tree c vs e) (closed_tree d vs e)
closed_tree (CAbs {G} {x} {S} {T} {b} {c} r) vs e =
    let z = new_name (bare b) (bare c) vs in
    abs_tree vs S T (bare b) (bare c) z (omega (arith, new_length (bare b) (bare c) vs)) (closed_tree r ((z, S) ∷ vs) (ap (λ K. S ∷ K) e))
closed_tree (CBeta {G} {x} {S} {T} {b} {a} d f) vs e =
    let a_typed = shut_typed vs e f in
    let b_typed : Typed (S ∷ []) (fill vs 1 (bare b)) T = fill_typed (S ∷ []) vs (ap (λ K. S ∷ K) (sym e)) (bare_typed d) in
    let result : fill vs 0 (bare (replace b a)) ≡ replace (fill vs 1 (bare b)) (shut vs a) = ap (fill vs 0) (put_bare a 0 b) ∙ fill_put vs (bare a) 0 (bare b) in
    subst (λ r. EqTree T (App (Abs [] S (fill vs 1 (bare b))) (shut vs a)) r) (sym result) (Beta (has_type (TApp (TAbs {x = []} b_typed) a_typed)))
closed_tree (CEta {G} {x} {S} {T} {f} d) vs e =
    let f_typed = shut_typed vs e d in
    let raised : fill vs 1 (bare (raise 1 0 f)) ≡ shut vs f = ap (fill vs 1) (raise_bare 1 0 f) ∙ fill_raise vs 1 0 (bare f) ∙ raise_closed 1 f_typed in
    subst (λ g. EqTree (function_of S T) (Abs [] S (App g (Bound 0))) (shut vs f)) (sym raised) (Eta (has_type f_typed))

pub fill_none : (k : ℕ) (t : Tm) → fill [] k t ≡ t
fill_none k (Const x T) = refl
fill_none k (Free x T) = refl
fill_none k (Unknown x i T) = refl
fill_none k (Bound i) = elim (nat_lt i k) as (λ v. cond v (Bound i) (Bound i) ≡ Bound i) [ true ↦ refl | false ↦ refl ]
fill_none k (Abs x T b) = ap (Abs x T) (fill_none (k + 1) b)
fill_none k (App f a) = λ i. App (fill_none k f i) (fill_none k a i)

-- a well-typed term has a derivation that it equals its normal form
pub norm_tree : (t : Tm) (T : Ty) → HasType t T → Tree [] [] (eq T (bare t) (bare (norm t)))
norm_tree t T h = subst (λ p. Tree [] [] p) (λ i. eq T (fill_none 0 (bare t) i) (fill_none 0 (bare (norm t)) i)) (closed_tree (norm_conv (typed_of_type [] t T h)) [] refl)
