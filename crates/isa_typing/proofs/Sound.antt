-- Each solution of the equations gives a typing.
use Rattle.std.proofs.Common.{◌≡◌, ℕ, zero, suc, ◌+◌, List, [], ◌∷◌, ◌++◌, Bool, true, false, cond, Option, Some, None, refl, sym, ap, ◌∙◌, subst}
use Rattle.std.specs.Prelude.{option_map, IfSome}
use Rattle.isa_terms.specs.Types.{Ty, Tys, TyCon, TyFixed, TyUnknown, NoTys, MoreTys}
use Rattle.isa_terms.specs.Terms.{Tm, Const, Free, Unknown, Bound, Abs, App}
use Rattle.isa_terms.specs.Typing.{function_of}
use Rattle.isa_terms.specs.Equal.{name_eq}
use Rattle.isa_typing.specs.Marks.{ty_with, tys_with, retyped, spelled, kept, kept_variable, constant_unknown, constant_type_at, node_type, thawed}
use Rattle.isa_typing.specs.Typings.{Variables, instance_at, IsTyped, IsBound, IsConstant, IsFree, IsUnknown, IsNotation, IsAnnotated, IsAbstraction, IsApplication}
use Rattle.isa_raw.specs.RawTerms.{Raw, RawName, RawUnknown, RawConst, RawTyped, RawAbs, RawApp, raw_size}
use Rattle.isa_typing.specs.Scopes.{Declared, Scope, bound_at}
use Rattle.isa_typing.specs.Inference.{Inferred, atom, constant_inferred, impossible, undeclared, notation_inferred, global_inferred, name_inferred, binder_type, annotated, abstracted, applied, inferred}
use Rattle.isa_typing.proofs.Replacing.{instance_kept, thawed-kept}
use Rattle.isa_typing.proofs.Solutions.{Solution, Solves, solves_left, solves_right, wanted}

-- the type that a solution gives
abbrev pub found : Solution → Ty → Ty
found r T = thawed (instance_at r T)

abbrev pub variables_of : Solution → Variables
variables_of r = record { free = λ x. thawed (r (0 ∷ x) 0); unknown = λ x. thawed (r (1 ∷ x) 0) }

abbrev pub scope_under : Solution → Scope → Scope
scope_under r [] = []
scope_under r (b ∷ bs) = (b.0, found r b.1) ∷ scope_under r bs

abbrev one_more : ℕ × Ty → ℕ × Ty
one_more p = (p.0 + 1, p.1)

abbrev found_at : Solution → ℕ × Ty → ℕ × Ty
found_at r p = (p.0, found r p.1)

one_more_found : (r : Solution) (o : Option (ℕ × Ty)) → option_map one_more (option_map (found_at r) o) ≡ option_map (found_at r) (option_map one_more o)
one_more_found r None = refl
one_more_found r (Some p) = refl

bound_under : (r : Solution) (x : List ℕ) (G : Scope) → bound_at x (scope_under r G) ≡ option_map (found_at r) (bound_at x G)
bound_under r x [] = refl
bound_under r x (b ∷ bs) = at (bound_under r x bs) (name_eq x b.0) where
  at : bound_at x (scope_under r bs) ≡ option_map (found_at r) (bound_at x bs) → (v : Bool) → cond v (Some (0, found r b.1)) (option_map one_more (bound_at x (scope_under r bs))) ≡ option_map (found_at r) (cond v (Some (0, b.1)) (option_map one_more (bound_at x bs)))
  at ih true = refl
  at ih false = ap (option_map one_more) ih ∙ one_more_found r (bound_at x bs)

abbrev pub Means : Declared → Solution → Scope → Raw → Inferred → Type 0
Means declared r G u p = IsTyped declared (variables_of r) (scope_under r G) u (retyped (found r) p.term) (found r p.typ)

-- the types that the constant at the node n has for the type unknowns of its declared type
abbrev constant_found : Solution → ℕ → List ℕ → ℕ → Ty
constant_found r n x i = thawed (r (2 ∷ spelled i x) n)

mutual
  found-constant_type : (r : Solution) (n : ℕ) (D : Ty) → found r (constant_type_at n D) ≡ instance_at (constant_found r n) D
  found-constant_type r n (TyCon c Ts) = ap (TyCon c) (found-constant_types r n Ts)
  found-constant_type r n (TyFixed a) = refl
  found-constant_type r n (TyUnknown x i) = refl

  found-constant_types : (r : Solution) (n : ℕ) (Ts : Tys) → tys_with (λ a. thawed (TyFixed a)) TyUnknown (tys_with TyFixed r (tys_with kept_variable (constant_unknown n) Ts)) ≡ tys_with TyFixed (constant_found r n) Ts
  found-constant_types r n NoTys = refl
  found-constant_types r n (MoreTys T Ts) = λ i. MoreTys (found-constant_type r n T i) (found-constant_types r n Ts i)

constant_means : (declared : Declared) (r : Solution) (G : Scope) (n : ℕ) (x : List ℕ) (D : Ty) → bound_at x G ≡ None → declared x ≡ Some D → Means declared r G (RawName x) (constant_inferred n x D)
constant_means declared r G n x D e d =
    subst (λ T. IsTyped declared (variables_of r) (scope_under r G) (RawName x) (Const x T) T) (sym (found-constant_type r n D)) (IsConstant (constant_found r n) (bound_under r x G ∙ ap (option_map (found_at r)) e) d)

notation_means : (declared : Declared) (r : Solution) (G : Scope) (n : ℕ) (c : List ℕ) (o : Option Ty) → declared c ≡ o → Solves r (notation_inferred n c o).equations → Means declared r G (RawConst c) (notation_inferred n c o)
notation_means declared r G n c None d s = let e : TyFixed [] ≡ TyCon [] NoTys = s.0 in absurd (cc)
notation_means declared r G n c (Some D) d s =
    subst (λ T. IsTyped declared (variables_of r) (scope_under r G) (RawConst c) (Const c T) T) (sym (found-constant_type r n D)) (IsNotation (constant_found r n) d)

name_means : (declared : Declared) (r : Solution) (G : Scope) (n : ℕ) (x : List ℕ) (o : Option (ℕ × Ty)) → bound_at x G ≡ o → (d : Option Ty) → declared x ≡ d → Means declared r G (RawName x) (name_inferred n x o d)
name_means declared r G n x (Some p) e d w = IsBound (bound_under r x G ∙ ap (option_map (found_at r)) e)
name_means declared r G n x None e None w = IsFree (bound_under r x G ∙ ap (option_map (found_at r)) e) w
name_means declared r G n x None e (Some D) w = constant_means declared r G n x D e w

found-kept : (r : Solution) (T : Ty) → found r (kept T) ≡ T
found-kept r T = ap thawed (instance_kept r T) ∙ thawed-kept T

given : (r : Solution) (n : ℕ) (o : Option Ty) → IfSome o (λ A. A ≡ found r (binder_type n o))
given r n None = tt
given r n (Some A) = sym (found-kept r A)

annotated_means : (declared : Declared) (r : Solution) (G : Scope) (u : Raw) (T : Ty) (p : Inferred) → Solves r (annotated p T).equations → Means declared r G u p → Means declared r G (RawTyped u T) (annotated p T)
annotated_means declared r G u T p s h =
    let e : instance_at r p.typ ≡ instance_at r (kept T) = (solves_right r p.equations ((p.typ, kept T) ∷ []) s).0 in
    let f : found r p.typ ≡ T = ap thawed e ∙ found-kept r T in
    subst (λ S. IsTyped declared (variables_of r) (scope_under r G) (RawTyped u T) (retyped (found r) p.term) S) (sym (found-kept r T)) (IsAnnotated (subst (λ S. IsTyped declared (variables_of r) (scope_under r G) u (retyped (found r) p.term) S) f h))

applied_means : (declared : Declared) (r : Solution) (G : Scope) (f a : Raw) (n : ℕ) (p q : Inferred) → Solves r (applied n p q).equations → Means declared r G f p → Means declared r G a q → Means declared r G (RawApp f a) (applied n p q)
applied_means declared r G f a n p q s hf ha =
    let e : instance_at r p.typ ≡ instance_at r (function_of q.typ (node_type n)) = (solves_right r (p.equations ++ q.equations) (wanted n p q ∷ []) s).0 in
    IsApplication (subst (λ S. IsTyped declared (variables_of r) (scope_under r G) f (retyped (found r) p.term) S) (ap thawed e) hf) ha

-- a solution of the equations makes the inferred term a typing
pub solution_means : (declared : Declared) (r : Solution) (u : Raw) (G : Scope) (n : ℕ) → Solves r (inferred declared G n u).equations → Means declared r G u (inferred declared G n u)
solution_means declared r (RawName x) G n s = name_means declared r G n x (bound_at x G) refl (declared x) refl
solution_means declared r (RawUnknown x) G n s = IsUnknown
solution_means declared r (RawConst c) G n s = notation_means declared r G n c (declared c) refl s
solution_means declared r (RawTyped u T) G n s =
    let p = inferred declared G (n + 1) u in
    annotated_means declared r G u T p s (solution_means declared r u G (n + 1) (solves_left r p.equations ((p.typ, kept T) ∷ []) s))
solution_means declared r (RawAbs x o u) G n s =
    IsAbstraction (given r n o) (solution_means declared r u ((x, binder_type n o) ∷ G) (n + 1) s)
solution_means declared r (RawApp f a) G n s =
    let p = inferred declared G (n + 1) f in
    let q = inferred declared G (n + 1 + raw_size f) a in
    let both = solves_left r (p.equations ++ q.equations) (wanted n p q ∷ []) s in
    applied_means declared r G f a n p q s (solution_means declared r f G (n + 1) (solves_left r p.equations q.equations both)) (solution_means declared r a G (n + 1 + raw_size f) (solves_right r p.equations q.equations both))
