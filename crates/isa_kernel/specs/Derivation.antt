-- Derivations of the pure logic, over terms without the names of binders. The cases are the primitive inferences of Isabelle/Pure (The Isabelle/Isar Implementation Manual, "Primitive logic").
use Rattle.std.specs.Prelude.{◌≡◌, ℕ, List, [], ◌∷◌, ◌++◌, false}
use Rattle.std.proofs.Common.{◌⊎◌}
use Rattle.isa_terms.specs.Types.{Ty}
use Rattle.isa_terms.specs.Terms.{Tm, Bound, Abs, App}
use Rattle.isa_terms.specs.Typing.{function_of}
use Rattle.isa_terms.specs.Replace.{replace}
use Rattle.isa_terms.specs.Binding.{occurs_in, close}
use Rattle.isa_terms.specs.Sets.{without}
use Rattle.isa_terms.specs.Generalize.{gen_tm, named_in}
use Rattle.isa_terms.specs.declared.inst.TypeEntry.{TypeEntry}
use Rattle.isa_terms.specs.declared.inst.TermEntry.{TermEntry}
use Rattle.isa_terms.specs.Instance.{inst_ty, inst_tm, in_tms}
use Rattle.isa_terms.specs.Typing.{HasType}
use Rattle.isa_kernel.specs.Logic.{prop, imp, eq, all, IsProposition}

abbrev pub Member : Tm → List Tm → Type 0
Member p [] = ⊥
Member p (q ∷ qs) = (p ≡ q) ⊎ Member p qs

-- each of the first terms is among the second
abbrev pub Within : List Tm → List Tm → Type 0
Within ps qs = (p : Tm) → Member p ps → Member p qs

-- each term has the instance of the type of its unknown, and no loose bound variables
abbrev pub IsKept : List TypeEntry → List TermEntry → Type 0
IsKept es [] = Unit {0}
IsKept es (f ∷ fs) = HasType f.term (inst_ty es f.typ) × IsKept es fs

-- a derivation from the axioms `ax`, with the hypotheses that it uses and its conclusion
pub data Tree (ax : List Tm) : List Tm → Tm → Type 0 where
  -- an axiom is derived from nothing
  Axiom : {p : Tm} → Member p ax → IsProposition p → Tree ax [] p
  -- a proposition is derived under itself
  Assumption : {p : Tm} → IsProposition p → Tree ax (p ∷ []) p
  -- from B under H, `A ==> B` under H without A
  ImpliesIntro : {H : List Tm} {p q : Tm} → IsProposition p → Tree ax H q → Tree ax (without p H) (imp p q)
  -- from `A ==> B` and A, B
  ImpliesElim : {G H : List Tm} {p q : Tm} → Tree ax G (imp p q) → Tree ax H p → Tree ax (G ++ H) q
  -- from B under H, `!!x. B` under H, where x is not free in H
  ForallIntro : {H : List Tm} {p : Tm} (x : List ℕ) (T : Ty) → occurs_in x T H ≡ false → Tree ax H p → Tree ax H (all [] T (close x T p))
  -- from `!!x. B`, B at t, for a t of the type of x
  ForallElim : {H : List Tm} {T : Ty} {b : Tm} (t : Tm) → HasType t T → Tree ax H (all [] T b) → Tree ax H (replace b t)
  -- `t == t`
  Reflexive : {T : Ty} {t : Tm} → HasType t T → Tree ax [] (eq T t t)
  -- from `t == u`, `u == t`
  Symmetric : {H : List Tm} {T : Ty} {t u : Tm} → Tree ax H (eq T t u) → Tree ax H (eq T u t)
  -- from `t == u` and `u == v`, `t == v`
  Transitive : {G H : List Tm} {T : Ty} {t u v : Tm} → Tree ax G (eq T t u) → Tree ax H (eq T u v) → Tree ax (G ++ H) (eq T t v)
  -- from `f == g` and `a == b`, `f a == g b`, where the types fit
  Combination : {G H : List Tm} {S T : Ty} {f g a b : Tm} → Tree ax G (eq (function_of S T) f g) → Tree ax H (eq S a b) → Tree ax (G ++ H) (eq T (App f a) (App g b))
  -- from `t == u` under H, `(%x. t) == (%x. u)` under H, where x is not free in H
  Abstraction : {H : List Tm} {T : Ty} {t u : Tm} (x : List ℕ) (S : Ty) → occurs_in x S H ≡ false → Tree ax H (eq T t u) → Tree ax H (eq (function_of S T) (Abs [] S (close x S t)) (Abs [] S (close x S u)))
  -- `(%x. b) a == b[a]`
  Beta : {S T : Ty} {b a : Tm} → HasType (App (Abs [] S b) a) T → Tree ax [] (eq T (App (Abs [] S b) a) (replace b a))
  -- `(%x. f x) == f`, where x is not free in f
  Eta : {S T : Ty} {f : Tm} → HasType f (function_of S T) → Tree ax [] (eq (function_of S T) (Abs [] S (App f (Bound 0))) f)
  -- from `A ==> B` and `B ==> A`, `A == B`
  EqualIntro : {G H : List Tm} {p q : Tm} → Tree ax G (imp p q) → Tree ax H (imp q p) → Tree ax (G ++ H) (eq prop p q)
  -- from `A == B` and A, B
  EqualElim : {G H : List Tm} {p q : Tm} → Tree ax G (eq prop p q) → Tree ax H p → Tree ax (G ++ H) q
  -- types for type unknowns and terms for unknowns, where none of them is in H and types are kept
  Instance : {H : List Tm} {p : Tm} (es : List TypeEntry) (fs : List TermEntry) → IsKept es fs → in_tms es fs H ≡ false → Tree ax H p → Tree ax H (inst_tm es fs p)
  -- unknowns for free variables and type variables, where none of them is in H
  Generalisation : {H : List Tm} {p : Tm} (names : List (List ℕ)) → named_in names H ≡ false → Tree ax H p → Tree ax H (gen_tm names p)

-- p has a derivation whose hypotheses are all among H
pub record Derives (ax H : List Tm) (p : Tm) : Type 0 where
  pub used : List Tm
  pub tree : Tree ax used p
  pub within : Within used H
