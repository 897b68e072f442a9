use Rattle.isa_typing.specs.Found.{found_in, nothing, Leads}
use Rattle.isa_typing.proofs.solving.solution_of.Given as goal

abbrev pub invariant-loop-step : goal.invariant-loop-step
invariant-loop-step l = Leads l.initial.work.items nothing l.work.items (found_in l.found.entries)
