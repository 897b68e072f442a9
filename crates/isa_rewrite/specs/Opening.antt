-- Bodies of binders, opened with a variable that no text holds.
-- Source: opening and closing of binders over locally named variables (Gordon, "Five axioms of alpha-conversion", 1996); the names are this project's.
use Rattle.std.specs.Prelude.{ℕ, ◌+◌, List, [], ◌∷◌, ◌++◌, codes}
use Rattle.std.specs.Fmt.{decimal}
use Rattle.isa_terms.specs.Types.{Ty}
use Rattle.isa_terms.specs.Terms.{Tm, Free, Abs}
use Rattle.isa_terms.specs.Replace.{replace}
use Rattle.isa_terms.specs.Binding.{close}
use Rattle.isa_terms.specs.Norm.{norm}
use Rattle.isa_subgoal.specs.declared.lift.Parameter.{Parameter}

-- the name `:k`
abbrev pub fresh : ℕ → List ℕ
fresh k = codes ":" ++ decimal k

-- the body of a binder, opened with the variable `:k`
abbrev pub opened : ℕ → Ty → Tm → Tm
opened k T b = replace b (Free (fresh k) T)

-- the abstraction over a result of such a body, normalised
abbrev pub closed : ℕ → List ℕ → Ty → Tm → Tm
closed k x T b = norm (Abs x T (close (fresh k) T b))

-- a term under the binders of the variables, the first of them being the outermost, opened from `:k` on
abbrev pub opened_all : ℕ → List Parameter → Tm → Tm
opened_all k [] t = t
opened_all k (z ∷ zs) t = opened k z.typ (opened_all (k + 1) zs t)

abbrev pub closed_all : ℕ → List Parameter → Tm → Tm
closed_all k [] t = t
closed_all k (z ∷ zs) t = closed k z.name z.typ (closed_all (k + 1) zs t)

-- the variables with the names of the abstractions that stand at the front of the term
abbrev pub named_as : Tm → List Parameter → List Parameter
named_as t [] = []
named_as (Abs x T b) (z ∷ zs) = record z { name = x } ∷ named_as b zs
named_as t (z ∷ zs) = z ∷ zs
