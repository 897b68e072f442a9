use Rattle.std.proofs.Common.{drop}
use Rattle.isa_check.specs.Run.{told_all}
use Rattle.isa_check.specs.Does.{sinks}
use Rattle.isa_check.proofs.Printing.{SoFar}
use Rattle.isa_check.proofs.output.print_all.Given as goal

abbrev pub invariant-loop-accepted : goal.invariant-loop-accepted
invariant-loop-accepted g l =
    SoFar
    (told_all l.list).pieces
    (told_all (drop l.accepted-index l.list)).pieces
    (sinks (g.O.Sink.seen l.initial.out) (g.E.Sink.seen l.initial.err))
    (sinks (g.O.Sink.seen l.out) (g.E.Sink.seen l.err))
