use Rattle.std.proofs.Common.{◌≡◌}
use Rattle.isa_unify.specs.Unification.{unified}
use Rattle.isa_unify.proofs.Adequacy.{steps_left}
use Rattle.isa_unify.proofs.steps.unified.Given as goal

-- what is left ends as all does
abbrev pub invariant-steps : goal.invariant-steps
invariant-steps l = unified l.state ≡ unified l.fn.start

-- the steps that are left
abbrev pub decreases-steps : goal.decreases-steps
decreases-steps l = steps_left l.state
