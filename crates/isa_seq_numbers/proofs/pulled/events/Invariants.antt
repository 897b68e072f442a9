use Rattle.std.proofs.Common.{◌≡◌, length}
use Rattle.isa_seq.specs.Tactics.{trace}
use Rattle.isa_seq.specs.Machines.{rest_of_frames, FramesFit}
use Rattle.isa_seq.specs.Asking.{prepend}
use Rattle.isa_seq_numbers.specs.Numbers.{steps, numbers}
use Rattle.isa_seq_numbers.proofs.pulled.events.Given as goal

abbrev pub invariant-loop-pulled : goal.invariant-loop-pulled
invariant-loop-pulled l =
    (length l.events.items ≡ l._pulled)
    × (trace steps l.fn.tac.node.value l.fn.state 1 ≡ prepend l.events.items (rest_of_frames numbers l.machine.frames))
    × FramesFit numbers l.machine.frames
