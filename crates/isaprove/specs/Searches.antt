-- What a search that passes over results answers. A reader need not believe it: the contracts of private functions cite it.
use Rattle.std.specs.Prelude.{ℕ, zero, suc, ◌+◌, ◌-◌, ◌^◌, min, List, [], ◌∷◌}
use Rattle.isa_goal.specs.Goals.{Goals}
use Rattle.isa_goal.specs.declared.found.Found.{Found}
use Rattle.isa_goal.specs.declared.found.Found.TheVariants as found
use Rattle.isa_seq.specs.declared.event.Answer.{Answer}
use Rattle.isa_seq.specs.declared.event.Answer.TheVariants.{State}
use Rattle.isa_seq.specs.Asking.{at_end}

-- what stands behind k results of those, after so many that were outside of patterns
abbrev pub found_after : ℕ → ℕ → List Found → Answer Goals
found_after k outside [] = at_end outside
found_after k outside (found.Outside ∷ fs) = found_after k (min (outside + 1) (2 ^ 64 - 1)) fs
found_after zero outside (found.Res s ∷ fs) = State s
found_after (suc k) outside (found.Res s ∷ fs) = found_after k outside fs
