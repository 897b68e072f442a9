use Rattle.std.proofs.Common.{◌≡◌}
use Rattle.std.specs.Map.{values_of}
use Rattle.isa_seq.specs.Searches.{has_same}
use Rattle.isa_seq.specs.Queues.{waiting, of_measure}
use Rattle.isa_seq.proofs.queue.holds.Given as goal

abbrev pub invariant-loop-other : goal.invariant-loop-other
invariant-loop-other g l =
    has_same (g.R.Prims.meaning l.prims).primitives.same l.state (of_measure l.measure (waiting l.queue.states.entries)) ≡ has_same (g.R.Prims.meaning l.prims).primitives.same l.state (values_of l.other-iterator)
