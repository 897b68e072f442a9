-- What a function that does a run returned and wrote.
use Rattle.std.specs.Prelude.{◌≡◌, ℕ, Result, Ok, Err}
use Rattle.isa_io.specs.SinkSeen.{SinkSeen}
use Rattle.isa_check.specs.Run.{Run}
use Rattle.isa_check.specs.Written.{Sinks, All, Front, CutShort}
use Rattle.isa_check.specs.declared.status.Status.{Status}
use Rattle.isa_check.specs.declared.status.Status.TheVariants as status
use Rattle.isa_check.specs.declared.status.Stop.{Stop}
use Rattle.isa_check.specs.declared.status.Stop.TheVariants as stops

abbrev pub sinks : SinkSeen → SinkSeen → Sinks
sinks out err = record { out = out; err = err }

-- the number that tells a status, and a stop
abbrev pub code_of : Status → ℕ
code_of status.Refused = 1
code_of status.TooLong = 3
code_of status.ReadFault = 4
code_of status.Usage = 64

abbrev pub stop_code : Stop → ℕ
stop_code (stops.Ended s) = code_of s
stop_code stops.Memory = 6
stop_code stops.Write = 5

-- the run was done up to this stop
abbrev pub StopsAt : Run → Stop → Sinks → Sinks → Type 0
StopsAt run (stops.Ended s) before now = (run.status ≡ code_of s) × All before now run.pieces
StopsAt run stops.Memory before now = Front before now run.pieces
StopsAt run stops.Write before now = CutShort before now run.pieces

-- the function that does the run returned this
abbrev pub Does : {T : Type 0} → Run → Result T Stop → Sinks → Sinks → Type 0
Does run (Ok done) before now = (run.status ≡ 0) × All before now run.pieces
Does run (Err stop) before now = StopsAt run stop before now
