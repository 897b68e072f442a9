-- What a text says of types: a term over variables for types, its type, and the equations that make it well typed.
-- Source: type inference by equations (Wand, "A simple algorithm and proof for type inference", 1987).
use Rattle.std.specs.Prelude.{ℕ, ◌+◌, List, [], ◌∷◌, ◌++◌, Option, Some, None}
use Rattle.isa_terms.specs.Types.{Ty, TyCon, TyFixed, NoTys}
use Rattle.isa_terms.specs.Terms.{Tm, Const, Free, Unknown, Bound, Abs, App}
use Rattle.isa_terms.specs.Typing.{function_of}
use Rattle.isa_raw.specs.RawTerms.{Raw, RawName, RawUnknown, RawConst, RawTyped, RawAbs, RawApp, raw_size}
use Rattle.isa_typing.specs.Scopes.{Declared, Scope, bound_at}
use Rattle.isa_typing.specs.Marks.{kept, node_type, free_type, unknown_type, constant_type_at}

pub record Inferred : Type 0 where
  pub term : Tm
  pub typ : Ty
  pub equations : List (Ty × Ty)

abbrev pub atom : Tm → Ty → Inferred
atom t T = record { term = t; typ = T; equations = [] }

-- the constant at the node n
abbrev pub constant_inferred : ℕ → List ℕ → Ty → Inferred
constant_inferred n c D = atom (Const c (constant_type_at n D)) (constant_type_at n D)

-- an equation that nothing solves
abbrev pub impossible : Ty × Ty
impossible = (TyFixed [], TyCon [] NoTys)

-- a constant that is not declared has no type
abbrev pub undeclared : ℕ → List ℕ → Inferred
undeclared n c = record { term = Const c (node_type n); typ = node_type n; equations = impossible ∷ [] }

abbrev pub notation_inferred : ℕ → List ℕ → Option Ty → Inferred
notation_inferred n c None = undeclared n c
notation_inferred n c (Some D) = constant_inferred n c D

-- a name that is not bound
abbrev pub global_inferred : ℕ → List ℕ → Option Ty → Inferred
global_inferred n x None = atom (Free x (free_type x)) (free_type x)
global_inferred n x (Some D) = constant_inferred n x D

abbrev pub name_inferred : ℕ → List ℕ → Option (ℕ × Ty) → Option Ty → Inferred
name_inferred n x None o = global_inferred n x o
name_inferred n x (Some p) o = atom (Bound p.0) p.1

-- the type of a binder's variable: the given one, or the node's
abbrev pub binder_type : ℕ → Option Ty → Ty
binder_type n None = node_type n
binder_type n (Some T) = kept T

abbrev pub annotated : Inferred → Ty → Inferred
annotated p T = record { term = p.term; typ = kept T; equations = p.equations ++ ((p.typ, kept T) ∷ []) }

abbrev pub abstracted : List ℕ → Ty → Inferred → Inferred
abstracted x S p = record { term = Abs x S p.term; typ = function_of S p.typ; equations = p.equations }

abbrev pub applied : ℕ → Inferred → Inferred → Inferred
applied n p q = record { term = App p.term q.term; typ = node_type n; equations = p.equations ++ q.equations ++ ((p.typ, function_of q.typ (node_type n)) ∷ []) }

-- the nodes are numbered from n in preorder
abbrev pub inferred : Declared → Scope → ℕ → Raw → Inferred
inferred declared G n (RawName x) = name_inferred n x (bound_at x G) (declared x)
inferred declared G n (RawUnknown x) = atom (Unknown x 0 (unknown_type x)) (unknown_type x)
inferred declared G n (RawConst c) = notation_inferred n c (declared c)
inferred declared G n (RawTyped r T) = annotated (inferred declared G (n + 1) r) T
inferred declared G n (RawAbs x o r) = abstracted x (binder_type n o) (inferred declared ((x, binder_type n o) ∷ G) (n + 1) r)
inferred declared G n (RawApp f a) = applied n (inferred declared G (n + 1) f) (inferred declared G (n + 1 + raw_size f) a)

-- the term of a whole text, and its equations
abbrev pub term_of : Declared → Raw → Tm
term_of declared u = (inferred declared [] 1 u).term

abbrev pub equations_of : Declared → Raw → List (Ty × Ty)
equations_of declared u = (inferred declared [] 1 u).equations
