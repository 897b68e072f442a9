-- The two sinks of a run.
use Rattle.std.specs.Prelude.{◌≡◌}
use Rattle.isa_io.specs.SinkSeen.{SinkSeen}
use Rattle.isaprove.specs.declared.console.Console.{Console}

-- the two sinks
pub record Sinks : Type 0 where
  pub out : SinkSeen
  pub err : SinkSeen

abbrev pub sinks : SinkSeen → SinkSeen → Sinks
sinks out err = record { out = out; err = err }

-- what is seen of the sinks of a console
abbrev pub sinks_of : {O E : Type 0} → (O → SinkSeen) → (E → SinkSeen) → Console O E → Sinks
sinks_of seen_out seen_err console = sinks (seen_out console.out.now) (seen_err console.err.now)

-- it is a console of the same two sinks
pub record IsSame {O E : Type 0} (before now : Console O E) : Type 0 where
  pub out : now.out.ghost_name ≡ before.out.ghost_name
  pub err : now.err.ghost_name ≡ before.err.ghost_name
