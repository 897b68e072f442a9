-- From `!!` over a predicate, the predicate at a term.
use Rattle.std.proofs.Common.{◌≡◌, ℕ, suc, ◌+◌, ◌-◌, ◌<◌, List, [], length, false, cond, nat_eq, nat_lt, Some, refl, sym, ap, ◌∙◌, subst, arith, codes}
use Rattle.std.proofs.lemmas.Bool.Decides.{nat_tests}
use Rattle.isa_terms.specs.Types.{Ty}
use Rattle.isa_terms.specs.Terms.{Tm, Const, Free, Unknown, Bound, Abs, App, bare}
use Rattle.isa_terms.specs.Typing.{function_of, HasType}
use Rattle.isa_terms.specs.Replace.{raise, put, replace}
use Rattle.isa_terms.proofs.Bare.{put_bare, type_at_bare}
use Rattle.isa_terms.proofs.Functions.{bind_some}
use Rattle.isa_terms.proofs.Typed.{Typed, TConst, TFree, TUnknown, TBound, TAbs, TApp, typed_of_type, type_of_typed}
use Rattle.isa_kernel.specs.Logic.{prop}
use Rattle.isa_kernel.specs.Forms.{app_parts, const_type, predicate_of, quantifier_parts, at}
use Rattle.isa_kernel.specs.Derivation.{Tree, Reflexive, Symmetric, Combination, Eta, EqualElim, ForallElim}
use Rattle.isa_kernel.proofs.Parts.{app_made, const_made, predicate_made}
use Rattle.isa_kernel.proofs.Preserved.{derived_typed, app_typed, const_typed, abs_typed, function_first}
use Rattle.isa_kernel.proofs.Fill.{raise_closed, within_length}

-- the constant `!!` over predicates of T
abbrev pub quantifier : Ty → Tm
quantifier T = Const (codes "Pure.all") (function_of (function_of T prop) prop)

pub quantifier_made : (s : Tm) (p : Ty × Tm) → quantifier_parts s ≡ Some p → s ≡ App (quantifier p.0) p.1
quantifier_made s p e =
    let outer = bind_some (app_parts s) _ e in
    let F = bind_some (const_type (codes "Pure.all") outer.0.0) _ outer.2 in
    let P = bind_some (predicate_of F.0) _ F.2 in
    let T = bind_some (predicate_of P.0) _ P.2 in
    let q : (T.0, outer.0.1) ≡ p = cc (T.2) in
    let f = predicate_made F.0 P.0 P.1 ∙ ap (λ X. function_of X prop) (predicate_made P.0 T.0 T.1) in
    let c = const_made (codes "Pure.all") outer.0.0 F.0 F.1 ∙ ap (Const (codes "Pure.all")) f in
    app_made s outer.0 outer.1 ∙ (λ i. App (c i) outer.0.1) ∙ (λ i. App (quantifier ((q i).0)) ((q i).1))

one_more : (n : ℕ) → suc n ≡ n + 1
one_more n = omega arith

-- a term without loose numbers stays where another one is put into it
pub put_closed : (a : Tm) {P : List Ty} {t : Tm} {T : Ty} → Typed P t T → put a (length P) t ≡ t
put_closed a TConst = refl
put_closed a TFree = refl
put_closed a TUnknown = refl
put_closed a (TBound {G} {n} {T} h) =
    let below : n < length G = within_length G n T h in
    let e : nat_eq n (length G) ≡ false = grind (arith, nat_tests) in
    let l : nat_lt (length G) n ≡ false = grind (arith, nat_tests) in
    ap (λ v. cond v (raise (length G) 0 a) (cond (nat_lt (length G) n) (Bound (n - 1)) (Bound n))) e ∙ ap (λ v. cond v (Bound (n - 1)) (Bound n)) l
put_closed a (TAbs {G} {x} {S} {T} {b} d) = ap (Abs x S) (ap (λ k. put a k b) (sym (one_more (length G))) ∙ put_closed a d)
put_closed a (TApp d e) = λ i. App (put_closed a d i) (put_closed a e i)

-- the types of the parts of a proposition that is `!!` over a predicate
predicate_typed : {T U : Ty} {P : Tm} → Typed [] (App (quantifier T) P) U → Typed [] P (function_of T prop)
predicate_typed {T} {U} {P} d =
    let a = app_typed d in
    subst (λ S. Typed [] P S) (sym (function_first (const_typed a.1))) a.2

module _ {ax H : List Tm} where
  -- for an abstraction
  at_abstraction : (T S : Ty) (b t : Tm) → HasType t T → Tree ax H (App (quantifier T) (Abs [] S b)) → Tree ax H (replace b t)
  at_abstraction T S b t h d =
      let a = abs_typed (predicate_typed (derived_typed d)) in
      let same : T ≡ S = function_first a.1 in
      ForallElim t h (subst (λ U. Tree ax H (App (quantifier T) (Abs [] U b))) (sym same) d)

  -- for any other predicate, which equals an abstraction
  at_other : (T : Ty) (P t : Tm) → HasType t T → Tree ax H (App (quantifier T) P) → Tree ax H (App P t)
  at_other T P t h d =
      let typed = predicate_typed (derived_typed d) in
      let longer = Symmetric (Eta {S = T} {T = prop} {f = P} (type_of_typed typed)) in
      let both = Combination (Reflexive {T = function_of (function_of T prop) prop} {t = quantifier T} refl) longer in
      let opened : Tree ax H (replace (App P (Bound 0)) t) = ForallElim {b = App P (Bound 0)} t h (EqualElim both d) in
      subst (λ r. Tree ax H r) (λ i. App (put_closed t typed i) (raise_closed 0 (typed_of_type [] t T h) i)) opened

  pub at_tree : (T : Ty) (P t : Tm) → HasType t T → Tree ax H (App (quantifier T) (bare P)) → Tree ax H (bare (at P t))
  at_tree T (Const x S) t h d = at_other T (Const x S) (bare t) (type_at_bare [] t ∙ h) d
  at_tree T (Free x S) t h d = at_other T (Free x S) (bare t) (type_at_bare [] t ∙ h) d
  at_tree T (Unknown x i S) t h d = at_other T (Unknown x i S) (bare t) (type_at_bare [] t ∙ h) d
  at_tree T (Bound i) t h d = at_other T (Bound i) (bare t) (type_at_bare [] t ∙ h) d
  at_tree T (App f a) t h d = at_other T (App (bare f) (bare a)) (bare t) (type_at_bare [] t ∙ h) d
  at_tree T (Abs x S b) t h d = subst (λ r. Tree ax H r) (sym (put_bare t 0 b)) (at_abstraction T S (bare b) (bare t) (type_at_bare [] t ∙ h) d)
