-- Constants, variables and unknowns of worked examples.
use Rattle.std.specs.Prelude.{ℕ, List, codes}
use Rattle.isa_terms.specs.Types.{Ty, TyCon, TyUnknown, NoTys}
use Rattle.isa_terms.specs.Terms.{Tm, Const, Free, Unknown}
use Rattle.isa_terms.specs.Typing.{function_of}
use Rattle.isa_terms.specs.declared.inst.TypeEntry.{TypeEntry}
use Rattle.isa_terms.specs.declared.inst.TermEntry.{TermEntry}
use Rattle.isa_unify.specs.declared.progress.Answer.{Answer}
use Rattle.isa_unify.specs.Calls.{equation}
use Rattle.isa_unify.specs.Unification.{becomes, unify}

infixr 30 ◌⇒◌
abbrev pub ◌⇒◌ : Ty → Ty → Ty
S ⇒ T = function_of S T

-- two types without arguments, and two type unknowns
abbrev pub i : Ty
i = TyCon (codes "i") NoTys

abbrev pub o : Ty
o = TyCon (codes "o") NoTys

abbrev pub ta : Ty
ta = TyUnknown (codes "'a") 0

abbrev pub tb : Ty
tb = TyUnknown (codes "'b") 0

-- constants
abbrev pub c : Tm
c = Const (codes "c") i

abbrev pub d : Tm
d = Const (codes "d") i

abbrev pub e : Tm
e = Const (codes "e") i

abbrev pub g : Tm
g = Const (codes "g") (i ⇒ i)

abbrev pub h : Tm
h = Const (codes "h") (i ⇒ i ⇒ i)

abbrev pub Q : Tm
Q = Const (codes "Q") (i ⇒ o)

abbrev pub R : Tm
R = Const (codes "R") (o ⇒ i ⇒ o)

abbrev pub All : Tm
All = Const (codes "All") ((i ⇒ o) ⇒ o)

abbrev pub K : Tm
K = Const (codes "K") ((i ⇒ i) ⇒ i)

-- free variables
abbrev pub a : Tm
a = Free (codes "a") i

abbrev pub b : Tm
b = Free (codes "b") i

-- unknowns
abbrev pub un : List ℕ → ℕ → Ty → Tm
un x n T = Unknown x n T

abbrev pub x : Tm
x = Unknown (codes "x") 0 i

abbrev pub y : Tm
y = Unknown (codes "y") 0 i

abbrev pub F : Tm
F = Unknown (codes "F") 0 (i ⇒ i)

abbrev pub F2 : Tm
F2 = Unknown (codes "F") 0 (i ⇒ i ⇒ i)

abbrev pub G : Tm
G = Unknown (codes "G") 0 (i ⇒ i)

abbrev pub G2 : Tm
G2 = Unknown (codes "G") 0 (i ⇒ i ⇒ i)

abbrev pub P : Tm
P = Unknown (codes "P") 0 (i ⇒ o)

abbrev pub P2 : Tm
P2 = Unknown (codes "P") 0 (i ⇒ i ⇒ o)

-- x becomes t
abbrev pub put : List ℕ → Ty → Tm → TermEntry
put n T t = becomes n 0 T t

abbrev pub put_type : List ℕ → Ty → TypeEntry
put_type n T = record { name = n; number = 0; typ = T }

-- two terms, new unknowns being numbered from 1
abbrev pub unify_two : Tm → Tm → Answer
unify_two t u = unify (equation t u) 1
