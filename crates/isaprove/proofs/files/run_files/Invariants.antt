use Rattle.isaprove.specs.Sinks.{sinks_of, IsSame}
use Rattle.isaprove.specs.Run.{names}
use Rattle.isaprove.proofs.InputLemmas.{FilesSoFar}
use Rattle.isaprove.proofs.files.run_files.Given as goal

abbrev pub invariant-loop-word : goal.invariant-loop-word
invariant-loop-word g l =
    IsSame l.initial.console l.console
    × FilesSoFar
    (names l.words)
    (g.F.Files.seen l.initial.files)
    (g.F.Files.seen l.files)
    l.word-index
    l.initial.progress
    l.progress
    (sinks_of g.O.Sink.seen g.E.Sink.seen l.initial.console)
    (sinks_of g.O.Sink.seen g.E.Sink.seen l.console)
