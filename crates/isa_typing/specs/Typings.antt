-- The well-typed terms that a text may mean.
-- Source: simply typed terms with polymorphic constants (The Isabelle/Isar Implementation Manual, "Terms"; Damas and Milner, "Principal type-schemes for functional programs", 1982).
use Rattle.std.specs.Prelude.{◌≡◌, ℕ, List, ◌∷◌, Option, Some, None, IfSome}
use Rattle.isa_terms.specs.Types.{Ty}
use Rattle.isa_terms.specs.Terms.{Tm, Const, Free, Unknown, Bound, Abs, App}
use Rattle.isa_terms.specs.Typing.{function_of}
use Rattle.isa_typing.specs.Marks.{ty_with}
use Rattle.isa_terms.specs.Types.{TyFixed}
use Rattle.isa_raw.specs.RawTerms.{Raw, RawName, RawUnknown, RawConst, RawTyped, RawAbs, RawApp}
use Rattle.isa_typing.specs.Scopes.{Declared, Scope, bound_at}

-- one type for each free variable and one for each unknown of the text
pub record Variables : Type 0 where
  pub free : List ℕ → Ty
  pub unknown : List ℕ → Ty

-- the general type D with types for its type unknowns
abbrev pub instance_at : (List ℕ → ℕ → Ty) → Ty → Ty
instance_at s D = ty_with TyFixed s D

-- In that scope the text may mean the term t of type T. A name is a bound variable, else a constant, else a free
-- variable; each occurrence of a constant has an instance of its own of the declared type; types in the text hold.
pub data IsTyped (declared : Declared) (v : Variables) : Scope → Raw → Tm → Ty → Type 0 where
  IsBound : {G : Scope} {x : List ℕ} {k : ℕ} {T : Ty} → bound_at x G ≡ Some (k, T) → IsTyped declared v G (RawName x) (Bound k) T
  IsConstant : {G : Scope} {x : List ℕ} {D : Ty} (s : List ℕ → ℕ → Ty) → bound_at x G ≡ None → declared x ≡ Some D → IsTyped declared v G (RawName x) (Const x (instance_at s D)) (instance_at s D)
  IsFree : {G : Scope} {x : List ℕ} → bound_at x G ≡ None → declared x ≡ None → IsTyped declared v G (RawName x) (Free x (v.free x)) (v.free x)
  IsUnknown : {G : Scope} {x : List ℕ} → IsTyped declared v G (RawUnknown x) (Unknown x 0 (v.unknown x)) (v.unknown x)
  IsNotation : {G : Scope} {c : List ℕ} {D : Ty} (s : List ℕ → ℕ → Ty) → declared c ≡ Some D → IsTyped declared v G (RawConst c) (Const c (instance_at s D)) (instance_at s D)
  IsAnnotated : {G : Scope} {r : Raw} {t : Tm} {T : Ty} → IsTyped declared v G r t T → IsTyped declared v G (RawTyped r T) t T
  IsAbstraction : {G : Scope} {x : List ℕ} {o : Option Ty} {r : Raw} {t : Tm} {S T : Ty} → IfSome o (λ A. A ≡ S) → IsTyped declared v ((x, S) ∷ G) r t T → IsTyped declared v G (RawAbs x o r) (Abs x S t) (function_of S T)
  IsApplication : {G : Scope} {f a : Raw} {t u : Tm} {S T : Ty} → IsTyped declared v G f t (function_of S T) → IsTyped declared v G a u S → IsTyped declared v G (RawApp f a) (App t u) T
