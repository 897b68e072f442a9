use Rattle.isaprove.specs.Sinks.{sinks_of, IsSame}
use Rattle.isaprove.proofs.Turning.{CommandsSoFar}
use Rattle.isaprove.proofs.progress.run_commands.Given as goal

abbrev pub invariant-loop-command : goal.invariant-loop-command
invariant-loop-command g l =
    IsSame l.initial.console l.console
    × CommandsSoFar
    l.file
    l.initial.progress
    l.commands
    l.command-index
    l.progress
    (sinks_of g.O.Sink.seen g.E.Sink.seen l.initial.console)
    (sinks_of g.O.Sink.seen g.E.Sink.seen l.console)
