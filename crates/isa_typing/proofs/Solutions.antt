-- Types for inference's variables.
use Rattle.std.proofs.Common.{◌≡◌, ℕ, zero, suc, ◌+◌, ◌<◌, ◌≤◌, List, [], ◌∷◌, ◌++◌, map, Bool, true, false, cond, nat_eq, Option, Some, None, refl, sym, ap, ◌∙◌, subst, arith}
use Rattle.isa_terms.specs.Types.{Ty, Tys, TyCon, TyFixed, TyUnknown, NoTys, MoreTys}
use Rattle.isa_terms.specs.Terms.{Tm, Const, Free, Unknown, Bound, Abs, App}
use Rattle.isa_terms.specs.Typing.{function_of}
use Rattle.isa_terms.specs.Equal.{name_eq}
use Rattle.std.specs.Prelude.{option_map}
use Rattle.isa_typing.specs.Marks.{ty_with, tys_with, retyped, spelled, kept, kept_variable, kept_unknown, constant_unknown, constant_type_at, node_type, free_type, unknown_type}
use Rattle.isa_typing.specs.Typings.{instance_at}
use Rattle.isa_raw.specs.RawTerms.{Raw, RawName, RawUnknown, RawConst, RawTyped, RawAbs, RawApp, raw_size}
use Rattle.isa_typing.specs.Scopes.{Declared, Scope, bound_at}
use Rattle.isa_typing.specs.Inference.{Inferred, atom, constant_inferred, impossible, undeclared, notation_inferred, global_inferred, name_inferred, binder_type, annotated, abstracted, applied, inferred}
use Rattle.isa_typing.proofs.Replacing.{instance_kept}

abbrev pub Solution : Type 0
Solution = List ℕ → ℕ → Ty

-- the solution makes the sides of each equation equal
abbrev pub Solves : Solution → List (Ty × Ty) → Type 0
Solves r [] = Unit {0}
Solves r (e ∷ es) = (instance_at r e.0 ≡ instance_at r e.1) × Solves r es

pub solves_both : (r : Solution) (ds es : List (Ty × Ty)) → Solves r ds → Solves r es → Solves r (ds ++ es)
solves_both r [] es p q = q
solves_both r (d ∷ ds) es p q = (p.0, solves_both r ds es p.1 q)

pub solves_left : (r : Solution) (ds es : List (Ty × Ty)) → Solves r (ds ++ es) → Solves r ds
solves_left r [] es p = tt
solves_left r (d ∷ ds) es p = (p.0, solves_left r ds es p.1)

pub solves_right : (r : Solution) (ds es : List (Ty × Ty)) → Solves r (ds ++ es) → Solves r es
solves_right r [] es p = p
solves_right r (d ∷ ds) es p = solves_right r ds es p.1

-- the solutions give the same for all variables of numbers below n
abbrev pub AgreeBelow : ℕ → Solution → Solution → Type 0
AgreeBelow n r s = (y : List ℕ) (k : ℕ) → k < n → r y k ≡ s y k

-- the solutions make the same of it
pub record SameOf (r s : Solution) (p : Inferred) : Type 0 where
  pub term : retyped (instance_at r) p.term ≡ retyped (instance_at s) p.term
  pub typ : instance_at r p.typ ≡ instance_at s p.typ
  pub equations : Solves r p.equations → Solves s p.equations

abbrev pub SameScope : Solution → Solution → Scope → Type 0
SameScope r s [] = Unit {0}
SameScope r s (b ∷ bs) = (instance_at r b.1 ≡ instance_at s b.1) × SameScope r s bs

-- the types in scope are the same at a bound variable
pub bound_same : (r s : Solution) (x : List ℕ) (G : Scope) → SameScope r s G → (p : ℕ × Ty) → bound_at x G ≡ Some p → instance_at r p.1 ≡ instance_at s p.1
bound_same r s x [] h p e = absurd (cc)
bound_same r s x (b ∷ bs) h p e = at (λ q w. bound_same r s x bs h.1 q w) (name_eq x b.0) e where
  inner : ((q : ℕ × Ty) → bound_at x bs ≡ Some q → instance_at r q.1 ≡ instance_at s q.1) → (o : Option (ℕ × Ty)) → bound_at x bs ≡ o → option_map (λ (q : ℕ × Ty). (q.0 + 1, q.1)) o ≡ Some p → instance_at r p.1 ≡ instance_at s p.1
  inner ih None w e = absurd (cc)
  inner ih (Some q) w e =
      let c : (q.0 + 1, q.1) ≡ p = cc in
      subst (λ (z : ℕ × Ty). instance_at r z.1 ≡ instance_at s z.1) c (ih q w)

  at : ((q : ℕ × Ty) → bound_at x bs ≡ Some q → instance_at r q.1 ≡ instance_at s q.1) → (v : Bool) → cond v (Some (0, b.1)) (option_map (λ (q : ℕ × Ty). (q.0 + 1, q.1)) (bound_at x bs)) ≡ Some p → instance_at r p.1 ≡ instance_at s p.1
  at ih true e =
      let c : (0, b.1) ≡ p = cc in
      subst (λ (z : ℕ × Ty). instance_at r z.1 ≡ instance_at s z.1) c h.0
  at ih false e = inner ih (bound_at x bs) refl e

-- the declared type of a constant at the node n has variables of that node only
mutual
  pub constant_same : (r s : Solution) (n : ℕ) → ((y : List ℕ) → r y n ≡ s y n) → (D : Ty) → instance_at r (constant_type_at n D) ≡ instance_at s (constant_type_at n D)
  constant_same r s n h (TyCon c Ts) = ap (TyCon c) (constants_same r s n h Ts)
  constant_same r s n h (TyFixed a) = refl
  constant_same r s n h (TyUnknown x i) = h (2 ∷ spelled i x)

  pub constants_same : (r s : Solution) (n : ℕ) → ((y : List ℕ) → r y n ≡ s y n) → (Ts : Tys) → tys_with TyFixed r (tys_with kept_variable (constant_unknown n) Ts) ≡ tys_with TyFixed s (tys_with kept_variable (constant_unknown n) Ts)
  constants_same r s n h NoTys = refl
  constants_same r s n h (MoreTys T Ts) = λ i. MoreTys (constant_same r s n h T i) (constants_same r s n h Ts i)

kept_same : (r s : Solution) (T : Ty) → instance_at r (kept T) ≡ instance_at s (kept T)
kept_same r s T = instance_kept r T ∙ sym (instance_kept s T)

atom_same : (r s : Solution) (t : Tm) (T : Ty) → retyped (instance_at r) t ≡ retyped (instance_at s) t → instance_at r T ≡ instance_at s T → SameOf r s (atom t T)
atom_same r s t T e f = record { term = e; typ = f; equations = λ h. h }

constant_inferred_same : (r s : Solution) (n : ℕ) (c : List ℕ) (D : Ty) → ((y : List ℕ) → r y n ≡ s y n) → SameOf r s (constant_inferred n c D)
constant_inferred_same r s n c D h =
    let e : instance_at r (constant_type_at n D) ≡ instance_at s (constant_type_at n D) = constant_same r s n h D in
    atom_same r s (Const c (constant_type_at n D)) (constant_type_at n D) (ap (Const c) e) e

name_same : (r s : Solution) (n : ℕ) (x : List ℕ) → ((y : List ℕ) → r y n ≡ s y n) → ((y : List ℕ) → r y 0 ≡ s y 0) → (o : Option (ℕ × Ty)) → ((p : ℕ × Ty) → o ≡ Some p → instance_at r p.1 ≡ instance_at s p.1) → (d : Option Ty) → SameOf r s (name_inferred n x o d)
name_same r s n x h z (Some p) b d = atom_same r s (Bound p.0) p.1 refl (b p refl)
name_same r s n x h z None b None = atom_same r s (Free x (free_type x)) (free_type x) (ap (Free x) (z (0 ∷ x))) (z (0 ∷ x))
name_same r s n x h z None b (Some D) = constant_inferred_same r s n x D h

notation_same : (r s : Solution) (n : ℕ) (c : List ℕ) → ((y : List ℕ) → r y n ≡ s y n) → (d : Option Ty) → SameOf r s (notation_inferred n c d)
notation_same r s n c h None = record { term = ap (Const c) (h []); typ = h []; equations = λ p. p }
notation_same r s n c h (Some D) = constant_inferred_same r s n c D h

pub binder_same : (r s : Solution) (n : ℕ) → ((y : List ℕ) → r y n ≡ s y n) → (o : Option Ty) → instance_at r (binder_type n o) ≡ instance_at s (binder_type n o)
binder_same r s n h None = h []
binder_same r s n h (Some T) = kept_same r s T

annotated_same : (r s : Solution) (p : Inferred) (T : Ty) → SameOf r s p → SameOf r s (annotated p T)
annotated_same r s p T h = record {
  term = h.term;
  typ = kept_same r s T;
  equations = λ w. solves_both s p.equations ((p.typ, kept T) ∷ []) (h.equations (solves_left r p.equations ((p.typ, kept T) ∷ []) w)) (sym h.typ ∙ (solves_right r p.equations ((p.typ, kept T) ∷ []) w).0 ∙ kept_same r s T, tt);
}

abstracted_same : (r s : Solution) (x : List ℕ) (S : Ty) (p : Inferred) → instance_at r S ≡ instance_at s S → SameOf r s p → SameOf r s (abstracted x S p)
abstracted_same r s x S p e h = record {
  term = λ i. Abs x (e i) (h.term i);
  typ = λ i. function_of (e i) (h.typ i);
  equations = h.equations;
}

abbrev pub wanted : ℕ → Inferred → Inferred → Ty × Ty
wanted n p q = (p.typ, function_of q.typ (node_type n))

applied_same : (r s : Solution) (n : ℕ) (p q : Inferred) → r [] n ≡ s [] n → SameOf r s p → SameOf r s q → SameOf r s (applied n p q)
applied_same r s n p q e f a = record {
  term = λ i. App (f.term i) (a.term i);
  typ = e;
  equations = λ w.
      let both = solves_left r (p.equations ++ q.equations) (wanted n p q ∷ []) w in
      let last = solves_right r (p.equations ++ q.equations) (wanted n p q ∷ []) w in
      solves_both s (p.equations ++ q.equations) (wanted n p q ∷ []) (solves_both s p.equations q.equations (f.equations (solves_left r p.equations q.equations both)) (a.equations (solves_right r p.equations q.equations both))) (sym f.typ ∙ last.0 ∙ (λ i. function_of (a.typ i) (e i)), tt);
}

pub below_less : (m n : ℕ) (r s : Solution) → m ≤ n → AgreeBelow n r s → AgreeBelow m r s
below_less m n r s le h y k lt = h y k (omega arith)

pub size_positive : (r : Raw) → 0 < raw_size r
size_positive (RawName x) = omega arith
size_positive (RawUnknown x) = omega arith
size_positive (RawConst x) = omega arith
size_positive (RawTyped r T) = omega arith
size_positive (RawAbs x o r) = omega arith
size_positive (RawApp f a) = omega arith

-- what is inferred of the nodes from n on has only variables of numbers below the next node
pub inferred_same : (declared : Declared) (u : Raw) (G : Scope) (n : ℕ) (r s : Solution) → AgreeBelow (n + raw_size u) r s → SameScope r s G → SameOf r s (inferred declared G n u)
inferred_same declared (RawName x) G n r s h g = name_same r s n x (λ y. h y n (omega arith)) (λ y. h y 0 (omega arith)) (bound_at x G) (bound_same r s x G g) (declared x)
inferred_same declared (RawUnknown x) G n r s h g = atom_same r s (Unknown x 0 (unknown_type x)) (unknown_type x) (ap (Unknown x 0) (h (1 ∷ x) 0 (omega arith))) (h (1 ∷ x) 0 (omega arith))
inferred_same declared (RawConst c) G n r s h g = notation_same r s n c (λ y. h y n (omega arith)) (declared c)
inferred_same declared (RawTyped u T) G n r s h g =
    annotated_same r s (inferred declared G (n + 1) u) T (inferred_same declared u G (n + 1) r s (below_less (n + 1 + raw_size u) (n + (raw_size u + 1)) r s (omega arith) h) g)
inferred_same declared (RawAbs x o u) G n r s h g =
    let e : instance_at r (binder_type n o) ≡ instance_at s (binder_type n o) = binder_same r s n (λ y. h y n (omega arith)) o in
    abstracted_same r s x (binder_type n o) (inferred declared ((x, binder_type n o) ∷ G) (n + 1) u) e (inferred_same declared u ((x, binder_type n o) ∷ G) (n + 1) r s (below_less (n + 1 + raw_size u) (n + (raw_size u + 1)) r s (omega arith) h) (e, g))
inferred_same declared (RawApp f a) G n r s h g =
    applied_same r s n (inferred declared G (n + 1) f) (inferred declared G (n + 1 + raw_size f) a) (h [] n (omega arith)) (inferred_same declared f G (n + 1) r s (below_less (n + 1 + raw_size f) (n + (raw_size f + raw_size a + 1)) r s (omega arith) h) g) (inferred_same declared a G (n + 1 + raw_size f) r s (below_less (n + 1 + raw_size f + raw_size a) (n + (raw_size f + raw_size a + 1)) r s (omega arith) h) g)
