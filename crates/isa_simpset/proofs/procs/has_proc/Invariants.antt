use Rattle.std.proofs.Common.{◌≡◌, drop}
use Rattle.isa_simpset.specs.Lists.{has_proc}
use Rattle.isa_simpset.proofs.procs.has_proc.Given as goal

abbrev pub invariant-loop-other : goal.invariant-loop-other
invariant-loop-other l = has_proc l.proc l.prop (drop l.other-index l.procs) ≡ has_proc l.proc l.prop l.procs
