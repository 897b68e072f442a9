-- What a step of a machine leads to, as the code holds it.
use Rattle.std.specs.Prelude.{ℕ, Bool, List}
use Rattle.isa_terms.specs.Types.{Ty}
use Rattle.isa_unify.specs.Descent.{Step, Done, Lighter, Solved}
use Rattle.isa_unify.specs.declared.equation.Equation.{Equation}
use Rattle.isa_unify.specs.declared.progress.Progress.{Progress}
use Rattle.isa_unify.specs.declared.progress.Progress.TheVariants.{Going, Ended}
use Rattle.isa_unify.specs.declared.progress.Walk.{Walk}
use Rattle.isa_unify.specs.declared.progress.Walk.TheVariants.{Goes, Ends}
use Rattle.isa_unify.specs.declared.equation.Variable.{Variable}
use Rattle.isa_unify.specs.declared.progress.State.{State}
use Rattle.isa_unify.specs.Unification.{UnifyStep, with_new, with_first, renewed}

abbrev pub taken : UnifyStep → Progress
taken (Done a) = Ended a
taken (Lighter st) = Going st
taken (Solved st) = Going st

abbrev pub walked : Step (List Equation) Bool → Walk
walked (Done b) = Ends b
walked (Lighter es) = Goes es
walked (Solved es) = Goes es

-- an unknown of the term loses variables, and the equation e comes again
abbrev pub prune : State → Equation → List Variable → List ℕ → ℕ → Ty → List ℕ → List ℕ → UnifyStep
prune st e bs x i T ys kept = with_new st (λ new st'. Solved (renewed (with_first e st') bs x i T ys new kept))
