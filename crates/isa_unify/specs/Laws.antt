-- Laws of unification.
use Rattle.std.specs.Prelude.{ℕ, List}
use Rattle.isa_unify.specs.Descent.{Ends}
use Rattle.isa_unify.specs.declared.equation.Equation.{Equation}
use Rattle.isa_unify.specs.declared.progress.State.{State}
use Rattle.isa_unify.specs.Unification.{clash_step, clashes, unify_step, unified}

-- from each state the steps end, with what the definition says: no bound in it is met
abbrev pub UnificationEnds : Type 0
UnificationEnds = (st : State) → (n : ℕ) × Ends unify_step (unified st) st n

-- likewise the walk that looks for clashes
abbrev pub ClashesEnd : Type 0
ClashesEnd = (es : List Equation) → (n : ℕ) × Ends clash_step (clashes es) es n
