-- The propositions of the pure logic, as terms.
-- Source: the connectives of Isabelle/Pure (The Isabelle/Isar Implementation Manual, "Primitive logic", "Theorems").
use Rattle.std.specs.Prelude.{ℕ, List, codes}
use Rattle.isa_terms.specs.Types.{Ty, TyCon, NoTys}
use Rattle.isa_terms.specs.Terms.{Tm, Const, Abs, App}
use Rattle.isa_terms.specs.Typing.{function_of, HasType}

-- the type of propositions
abbrev pub prop : Ty
prop = TyCon (codes "prop") NoTys

-- `A ==> B`
abbrev pub imp : Tm → Tm → Tm
imp A B = App (App (Const (codes "Pure.imp") (function_of prop (function_of prop prop))) A) B

-- `t == u` at the type T
abbrev pub eq : Ty → Tm → Tm → Tm
eq T t u = App (App (Const (codes "Pure.eq") (function_of T (function_of T prop))) t) u

-- `!!x. B` for a name x, a type T and the body B of a binder
abbrev pub all : List ℕ → Ty → Tm → Tm
all x T B = App (Const (codes "Pure.all") (function_of (function_of T prop) prop)) (Abs x T B)

abbrev pub IsProposition : Tm → Type 0
IsProposition t = HasType t prop
