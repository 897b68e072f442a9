-- Each typing comes from a solution of the equations.
use Rattle.std.proofs.Common.{◌≡◌, ℕ, zero, suc, ◌+◌, ◌<◌, ◌≤◌, List, [], ◌∷◌, ◌++◌, Bool, true, false, cond, nat_eq, Option, Some, None, refl, sym, ap, ◌∙◌, subst, arith}
use Rattle.std.specs.Prelude.{option_map, IfSome}
use Rattle.std.proofs.lemmas.Bool.Decides.{nat_tests}
use Rattle.isa_terms.specs.Types.{Ty, Tys, TyCon, TyFixed, TyUnknown, NoTys, MoreTys}
use Rattle.isa_terms.specs.Terms.{Tm, Const, Free, Unknown, Bound, Abs, App}
use Rattle.isa_terms.specs.Typing.{function_of}
use Rattle.isa_terms.specs.Equal.{name_eq}
use Rattle.isa_typing.specs.Marks.{ty_with, tys_with, retyped, spelled, kept, kept_variable, kept_unknown, constant_unknown, constant_type_at, node_type, free_type, named, numbered}
use Rattle.isa_typing.specs.Typings.{Variables, instance_at, IsTyped, IsBound, IsConstant, IsFree, IsUnknown, IsNotation, IsAnnotated, IsAbstraction, IsApplication}
use Rattle.isa_raw.specs.RawTerms.{Raw, RawName, RawUnknown, RawConst, RawTyped, RawAbs, RawApp, raw_size}
use Rattle.isa_typing.specs.Scopes.{Declared, Scope, bound_at}
use Rattle.isa_typing.specs.Inference.{Inferred, atom, constant_inferred, notation_inferred, global_inferred, name_inferred, binder_type, annotated, abstracted, applied, inferred}
use Rattle.isa_typing.proofs.Replacing.{instance_kept, named-spelled, numbered-spelled}
use Rattle.isa_typing.proofs.Solutions.{Solution, Solves, solves_both, AgreeBelow, SameScope, SameOf, below_less, binder_same, inferred_same, wanted}

-- the solution with other types for the variables of the node n
abbrev at_node : ℕ → (List ℕ → Ty) → Solution → Solution
at_node n g r y k = cond (nat_eq k n) (g y) (r y k)

at_node_there : (n : ℕ) (g : List ℕ → Ty) (r : Solution) (y : List ℕ) → at_node n g r y n ≡ g y
at_node_there n g r y =
    let e : nat_eq n n ≡ true = grind (arith, nat_tests) in
    ap (λ v. cond v (g y) (r y n)) e

at_node_below : (n : ℕ) (g : List ℕ → Ty) (r : Solution) → AgreeBelow n r (at_node n g r)
at_node_below n g r y k lt =
    let e : nat_eq k n ≡ false = grind (arith, nat_tests) in
    sym (ap (λ v. cond v (g y) (r y k)) e)

agree_trans : (m n : ℕ) (r s t : Solution) → m ≤ n → AgreeBelow m r s → AgreeBelow n s t → AgreeBelow m r t
agree_trans m n r s t le p q y k lt = p y k lt ∙ q y k (omega arith)

-- the scope H of inference stands under the solution for the scope G of a typing
data Fits (r : Solution) : Scope → Scope → Type 0 where
  FitsOutermost : Fits r [] []
  FitsUnder : {x : List ℕ} {S U : Ty} {G H : Scope} → instance_at r U ≡ kept S → Fits r G H → Fits r ((x, S) ∷ G) ((x, U) ∷ H)

refit : {r s : Solution} {G H : Scope} → Fits r G H → SameScope r s H → Fits s G H
refit FitsOutermost h = FitsOutermost
refit (FitsUnder e f) h = FitsUnder (sym h.0 ∙ e) (refit f h.1)

abbrev BothBound : Solution → Option (ℕ × Ty) → Option (ℕ × Ty) → Type 0
BothBound r None None = Unit {0}
BothBound r None (Some q) = ⊥
BothBound r (Some p) None = ⊥
BothBound r (Some p) (Some q) = (q.0 ≡ p.0) × (instance_at r q.1 ≡ kept p.1)

abbrev one_more : ℕ × Ty → ℕ × Ty
one_more p = (p.0 + 1, p.1)

one_more_bound : (r : Solution) (o q : Option (ℕ × Ty)) → BothBound r o q → BothBound r (option_map one_more o) (option_map one_more q)
one_more_bound r None None h = tt
one_more_bound r None (Some q) h = h
one_more_bound r (Some p) None h = h
one_more_bound r (Some p) (Some q) h = (ap (λ k. k + 1) h.0, h.1)

both_bound : (r : Solution) (x : List ℕ) {G H : Scope} → Fits r G H → BothBound r (bound_at x G) (bound_at x H)
both_bound r x FitsOutermost = tt
both_bound r x (FitsUnder {x = y} {S = S} {U = U} {G = G} {H = H} e f) = at (both_bound r x f) (name_eq x y) where
  at : BothBound r (bound_at x G) (bound_at x H) → (v : Bool) → BothBound r (cond v (Some (0, S)) (option_map one_more (bound_at x G))) (cond v (Some (0, U)) (option_map one_more (bound_at x H)))
  at ih true = (refl, e)
  at ih false = one_more_bound r (bound_at x G) (bound_at x H) ih

-- the solution gives the types of the free variables and unknowns
record HasVariables (v : Variables) (r : Solution) : Type 0 where
  free : (x : List ℕ) → r (0 ∷ x) 0 ≡ kept (v.free x)
  unknown : (x : List ℕ) → r (1 ∷ x) 0 ≡ kept (v.unknown x)

variables_same : (v : Variables) (n : ℕ) (r s : Solution) → 0 < n → AgreeBelow n r s → HasVariables v r → HasVariables v s
variables_same v n r s lt h f = record { free = λ x. sym (h (0 ∷ x) 0 lt) ∙ f.free x; unknown = λ x. sym (h (1 ∷ x) 0 lt) ∙ f.unknown x }

-- the types in scope have variables of numbers below n only
abbrev Settled : ℕ → Scope → Type 0
Settled n H = (r s : Solution) → AgreeBelow n r s → SameScope r s H

settled_on : (m n : ℕ) (H : Scope) → m ≤ n → Settled m H → Settled n H
settled_on m n H le h r s a = h r s (below_less m n r s le a)

-- a solution that differs at variables of numbers from n on and gives the term t of type T
record Completed (r : Solution) (n : ℕ) (p : Inferred) (t : Tm) (T : Ty) : Type 0 where
  solution : Solution
  agrees : AgreeBelow n r solution
  solves : Solves solution p.equations
  term : retyped (instance_at solution) p.term ≡ retyped kept t
  typ : instance_at solution p.typ ≡ kept T

as_it_is : (r : Solution) (n : ℕ) (p : Inferred) (t : Tm) (T : Ty) → Solves r p.equations → retyped (instance_at r) p.term ≡ retyped kept t → instance_at r p.typ ≡ kept T → Completed r n p t T
as_it_is r n p t T s e f = record { solution = r; agrees = λ y k lt. refl; solves = s; term = e; typ = f }

-- the types that a constant's variables get
abbrev choice : (List ℕ → ℕ → Ty) → List ℕ → Ty
choice s [] = TyFixed []
choice s (c ∷ y) = kept (s (named y) (numbered y))

mutual
  constant_chosen : (s : List ℕ → ℕ → Ty) (r : Solution) (n : ℕ) (D : Ty) → instance_at (at_node n (choice s) r) (constant_type_at n D) ≡ kept (instance_at s D)
  constant_chosen s r n (TyCon c Ts) = ap (TyCon c) (constants_chosen s r n Ts)
  constant_chosen s r n (TyFixed a) = refl
  constant_chosen s r n (TyUnknown x i) = at_node_there n (choice s) r (2 ∷ spelled i x) ∙ (λ j. kept (s (named-spelled i x j) (numbered-spelled i x j)))

  constants_chosen : (s : List ℕ → ℕ → Ty) (r : Solution) (n : ℕ) (Ts : Tys) → tys_with TyFixed (at_node n (choice s) r) (tys_with kept_variable (constant_unknown n) Ts) ≡ tys_with kept_variable kept_unknown (tys_with TyFixed s Ts)
  constants_chosen s r n NoTys = refl
  constants_chosen s r n (MoreTys T Ts) = λ i. MoreTys (constant_chosen s r n T i) (constants_chosen s r n Ts i)

constant_completed : (s : List ℕ → ℕ → Ty) (r : Solution) (n : ℕ) (c : List ℕ) (D : Ty) → Completed r n (constant_inferred n c D) (Const c (instance_at s D)) (instance_at s D)
constant_completed s r n c D = record {
  solution = at_node n (choice s) r;
  agrees = at_node_below n (choice s) r;
  solves = tt;
  term = ap (Const c) (constant_chosen s r n D);
  typ = constant_chosen s r n D;
}

bound_completed : (r : Solution) (n : ℕ) (x : List ℕ) (k : ℕ) (T : Ty) (o : Option (ℕ × Ty)) (d : Option Ty) → BothBound r (Some (k, T)) o → Completed r n (name_inferred n x o d) (Bound k) T
bound_completed r n x k T None d h = absurd h
bound_completed r n x k T (Some q) d h = as_it_is r n (atom (Bound q.0) q.1) (Bound k) T tt (ap Bound h.0) h.1

named_constant_completed : (s : List ℕ → ℕ → Ty) (r : Solution) (n : ℕ) (x : List ℕ) (D : Ty) (o : Option (ℕ × Ty)) (d : Option Ty) → BothBound r None o → d ≡ Some D → Completed r n (name_inferred n x o d) (Const x (instance_at s D)) (instance_at s D)
named_constant_completed s r n x D (Some q) d h e = absurd h
named_constant_completed s r n x D None d h e = subst (λ w. Completed r n (name_inferred n x None w) (Const x (instance_at s D)) (instance_at s D)) (sym e) (constant_completed s r n x D)

free_completed : (v : Variables) (r : Solution) (n : ℕ) (x : List ℕ) (o : Option (ℕ × Ty)) (d : Option Ty) → HasVariables v r → BothBound r None o → d ≡ None → Completed r n (name_inferred n x o d) (Free x (v.free x)) (v.free x)
free_completed v r n x (Some q) d f h e = absurd h
free_completed v r n x None d f h e =
    subst (λ w. Completed r n (name_inferred n x None w) (Free x (v.free x)) (v.free x)) (sym e) (as_it_is r n (atom (Free x (free_type x)) (free_type x)) (Free x (v.free x)) (v.free x) tt (ap (Free x) (f.free x)) (f.free x))

notation_completed : (s : List ℕ → ℕ → Ty) (r : Solution) (n : ℕ) (c : List ℕ) (D : Ty) (d : Option Ty) → d ≡ Some D → Completed r n (notation_inferred n c d) (Const c (instance_at s D)) (instance_at s D)
notation_completed s r n c D d e = subst (λ w. Completed r n (notation_inferred n c w) (Const c (instance_at s D)) (instance_at s D)) (sym e) (constant_completed s r n c D)

annotated_completed : (r : Solution) (n : ℕ) (p : Inferred) (t : Tm) (T : Ty) → Completed r (n + 1) p t T → Completed r n (annotated p T) t T
annotated_completed r n p t T c = record {
  solution = c.solution;
  agrees = below_less n (n + 1) r c.solution (omega arith) c.agrees;
  solves = solves_both c.solution p.equations ((p.typ, kept T) ∷ []) c.solves (c.typ ∙ sym (instance_kept c.solution T), tt);
  term = c.term;
  typ = instance_kept c.solution T;
}

binder_chosen : (r : Solution) (n : ℕ) (o : Option Ty) (S : Ty) → IfSome o (λ A. A ≡ S) → instance_at (at_node n (λ y. kept S) r) (binder_type n o) ≡ kept S
binder_chosen r n None S h = at_node_there n (λ y. kept S) r []
binder_chosen r n (Some A) S h = instance_kept (at_node n (λ y. kept S) r) A ∙ ap kept h

binder_settled : (n : ℕ) (x : List ℕ) (o : Option Ty) (H : Scope) → Settled n H → Settled (n + 1) ((x, binder_type n o) ∷ H)
binder_settled n x o H h r s a = (binder_same r s n (λ y. a y n (omega arith)) o, h r s (below_less n (n + 1) r s (omega arith) a))

abstracted_completed : (r : Solution) (n : ℕ) (x : List ℕ) (o : Option Ty) (p : Inferred) (t : Tm) (S T : Ty) → IfSome o (λ A. A ≡ S) → Completed (at_node n (λ y. kept S) r) (n + 1) p t T → Completed r n (abstracted x (binder_type n o) p) (Abs x S t) (function_of S T)
abstracted_completed r n x o p t S T h c =
    let q : Solution = at_node n (λ y. kept S) r in
    let e : instance_at c.solution (binder_type n o) ≡ kept S = sym (binder_same q c.solution n (λ y. c.agrees y n (omega arith)) o) ∙ binder_chosen r n o S h in
    record {
      solution = c.solution;
      agrees = agree_trans n (n + 1) r q c.solution (omega arith) (at_node_below n (λ y. kept S) r) c.agrees;
      solves = c.solves;
      term = λ i. Abs x (e i) (c.term i);
      typ = λ i. function_of (e i) (c.typ i);
    }

applied_completed : (r : Solution) (n m : ℕ) (p q : Inferred) (t u : Tm) (S T : Ty) → n + 1 ≤ m → (c : Completed (at_node n (λ y. kept T) r) (n + 1) p t (function_of S T)) → (d : Completed c.solution m q u S) → SameOf c.solution d.solution p → Completed r n (applied n p q) (App t u) T
applied_completed r n m p q t u S T le c d same =
    let z : Solution = at_node n (λ y. kept T) r in
    let here : d.solution [] n ≡ kept T = sym (d.agrees [] n (omega arith)) ∙ (sym (c.agrees [] n (omega arith)) ∙ at_node_there n (λ y. kept T) r []) in
    let has : instance_at d.solution p.typ ≡ function_of (kept S) (kept T) = sym same.typ ∙ c.typ in
    let wants : function_of (instance_at d.solution q.typ) (d.solution [] n) ≡ function_of (kept S) (kept T) = (λ i. function_of (d.typ i) (here i)) in
    record {
      solution = d.solution;
      agrees = agree_trans n m r c.solution d.solution (omega arith) (agree_trans n (n + 1) r z c.solution (omega arith) (at_node_below n (λ y. kept T) r) c.agrees) d.agrees;
      solves = solves_both d.solution (p.equations ++ q.equations) (wanted n p q ∷ []) (solves_both d.solution p.equations q.equations (same.equations c.solves) d.solves) (has ∙ sym wants, tt);
      term = λ i. App ((sym same.term ∙ c.term) i) (d.term i);
      typ = here;
    }

-- each typing is what the inferred term becomes under some solution of the equations
completed : (declared : Declared) (v : Variables) {G : Scope} {u : Raw} {t : Tm} {T : Ty} → IsTyped declared v G u t T → (H : Scope) (n : ℕ) (r : Solution) → 0 < n → HasVariables v r → Settled n H → Fits r G H → Completed r n (inferred declared H n u) t T
completed declared v {G} {u} {t} {T} (IsBound {x = x} {k = k} e) H n r lt f s g =
    bound_completed r n x k T (bound_at x H) (declared x) (subst (λ o. BothBound r o (bound_at x H)) e (both_bound r x g))
completed declared v {G} {u} {t} {T} (IsConstant {x = x} {D = D} c e d) H n r lt f s g =
    named_constant_completed c r n x D (bound_at x H) (declared x) (subst (λ o. BothBound r o (bound_at x H)) e (both_bound r x g)) d
completed declared v {G} {u} {t} {T} (IsFree {x = x} e d) H n r lt f s g =
    free_completed v r n x (bound_at x H) (declared x) f (subst (λ o. BothBound r o (bound_at x H)) e (both_bound r x g)) d
completed declared v {G} {u} {t} {T} (IsUnknown {x = x}) H n r lt f s g =
    as_it_is r n (inferred declared H n (RawUnknown x)) (Unknown x 0 (v.unknown x)) (v.unknown x) tt (ap (Unknown x 0) (f.unknown x)) (f.unknown x)
completed declared v {G} {u} {t} {T} (IsNotation {c = x} {D = D} c d) H n r lt f s g = notation_completed c r n x D (declared x) d
completed declared v {G} {u} {t} {T} (IsAnnotated {r = w} d) H n r lt f s g =
    annotated_completed r n (inferred declared H (n + 1) w) t T (completed declared v d H (n + 1) r (omega arith) f (settled_on n (n + 1) H (omega arith) s) g)
completed declared v {G} {u} {t} {T} (IsAbstraction {x = x} {o = o} {r = w} {t = b} {S = S} {T = B} h d) H n r lt f s g =
    let q : Solution = at_node n (λ y. kept S) r in
    let below : AgreeBelow n r q = at_node_below n (λ y. kept S) r in
    abstracted_completed r n x o (inferred declared ((x, binder_type n o) ∷ H) (n + 1) w) b S B h (completed declared v d ((x, binder_type n o) ∷ H) (n + 1) q (omega arith) (variables_same v n r q lt below f) (binder_settled n x o H s) (FitsUnder (binder_chosen r n o S h) (refit g (s r q below))))
completed declared v {G} {u} {t} {T} (IsApplication {f = w} {a = a} {t = b} {u = c} {S = S} d e) H n r lt f s g =
    let q : Solution = at_node n (λ y. kept T) r in
    let m : ℕ = n + 1 + raw_size w in
    let below : AgreeBelow n r q = at_node_below n (λ y. kept T) r in
    let cf : Completed q (n + 1) (inferred declared H (n + 1) w) b (function_of S T) = completed declared v d H (n + 1) q (omega arith) (variables_same v n r q lt below f) (settled_on n (n + 1) H (omega arith) s) (refit g (s r q below)) in
    let on : AgreeBelow n r cf.solution = agree_trans n (n + 1) r q cf.solution (omega arith) below cf.agrees in
    let ca : Completed cf.solution m (inferred declared H m a) c S = completed declared v e H m cf.solution (omega arith) (variables_same v n r cf.solution lt on f) (settled_on n m H (omega arith) s) (refit g (s r cf.solution on)) in
    applied_completed r n m (inferred declared H (n + 1) w) (inferred declared H m a) b c S T (omega arith) cf ca (inferred_same declared w H (n + 1) cf.solution ca.solution ca.agrees (s cf.solution ca.solution (below_less n m cf.solution ca.solution (omega arith) ca.agrees)))

-- the types of the free variables and unknowns alone
abbrev start : Variables → Solution
start v [] k = TyFixed []
start v (zero ∷ x) k = kept (v.free x)
start v (suc c ∷ x) k = kept (v.unknown x)

pub record EachSolution (p : Inferred) (t : Tm) : Type 0 where
  pub solution : Solution
  pub solves : Solves solution p.equations
  pub term : retyped (instance_at solution) p.term ≡ retyped kept t

pub each_solution : (declared : Declared) (v : Variables) (u : Raw) (t : Tm) (T : Ty) → IsTyped declared v [] u t T → EachSolution (inferred declared [] 1 u) t
each_solution declared v u t T d =
    let c = completed declared v d [] 1 (start v) (omega arith) (record { free = λ x. refl; unknown = λ x. refl }) (λ r s a. tt) FitsOutermost in
    record { solution = c.solution; solves = c.solves; term = c.term }
