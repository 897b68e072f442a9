use Rattle.isa_typing.specs.Found.{found_in, FindsSame, EqualUnder}
use Rattle.isa_typing.proofs.solving.followed.Given as goal

abbrev pub invariant-loop-step : goal.invariant-loop-step
invariant-loop-step l = record {
  same : FindsSame (found_in l.fn.found.entries) (found_in l.found.entries);
  equal : EqualUnder (found_in l.fn.found.entries) l.at l.typ;
}
