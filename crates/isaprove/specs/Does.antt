-- What a function that runs a part of the input does. A reader need not believe it: the contracts of private functions cite it.
use Rattle.std.specs.Prelude.{◌≡◌, ℕ, true, false, List, [], ◌∷◌, Option, Some, None, Ok, Err, Vec}
use Rattle.std.specs.declared.alloc.Global.{Global}
use Rattle.std.specs.declared.result.Result.{Result}
use Rattle.isa_outer.specs.declared.command.Command.{Command}
use Rattle.isaprove.specs.Sinks.{Sinks}
use Rattle.isaprove.specs.Shown.{Piece, Shown, ToOut, ToErr, shown_text}
use Rattle.isaprove.specs.Run.{State, Opens, Takes, Stopped, Reaches, Given, Input, code_of, EndsWith, skipping, failure_line}
use Rattle.isaprove.specs.Printed.{Writes, CutShort}
use Rattle.isaprove.specs.declared.progress.Progress.{Progress}
use Rattle.isaprove.specs.declared.failure.Failure.{Failure}
use Rattle.isaprove.specs.declared.status.Status.{Status}
use Rattle.isaprove.specs.declared.status.Status.TheVariants as status
use Rattle.isaprove.specs.declared.status.Stop.{Stop}
use Rattle.isaprove.specs.declared.status.Stop.TheVariants as stops

-- no count of faults changed
pub record NoFault (before after : Sinks) : Type 0 where
  pub out : after.out.faults ≡ before.out.faults
  pub err : after.err.faults ≡ before.err.faults

-- all of the pieces were written
pub record All (before after : Sinks) (pieces : List Piece) : Type 0 where
  pub no_fault : NoFault before after
  pub writes : Writes before after pieces

-- the run went from one state to another, and its pieces were written
pub record Passes (from to : State) (before after : Sinks) : Type 0 where
  pub pieces : List Piece
  pub reaches : Reaches from pieces to
  pub all : All before after pieces

-- it went to some state
pub record Leaves (from : State) (before after : Sinks) : Type 0 where
  pub to : State
  pub passes : Passes from to before after

-- it went to some state, and its last piece was cut short
pub record IsCut (from : State) (before after : Sinks) : Type 0 where
  pub pieces : List Piece
  pub to : State
  pub reaches : Reaches from pieces to
  pub cut : CutShort before after pieces

-- nothing was written
abbrev pub IsQuiet : Sinks → Sinks → Type 0
IsQuiet before now = All before now []

-- the run from this state stopped
abbrev pub StopsAt : State → Stop → Sinks → Sinks → Type 0
StopsAt from (stops.Ended s) before now = Passes from (Stopped s) before now
StopsAt from stops.Memory before now = Leaves from before now
StopsAt from stops.Write before now = IsCut from before now

-- the function returned this, where it was to run from one state to another
abbrev pub Does : {T : Type 0} → State → Result T Stop → State → Sinks → Sinks → Type 0
Does from (Ok x) to before now = Passes from to before now
Does from (Err stop) to before now = StopsAt from stop before now

-- a command was run, whatever stands behind it
abbrev pub DoesCommand : {T : Type 0} → List ℕ → Progress → Command → Result T Stop → Progress → Sinks → Sinks → Type 0
DoesCommand file p k result q before now = (ks : List Command) (more : List Input) → Does (Takes p file (k ∷ ks) more) result (Takes q file ks more) before now

-- commands were run
abbrev pub DoesCommands : {T : Type 0} → List ℕ → Progress → List Command → Result T Stop → Progress → Sinks → Sinks → Type 0
DoesCommands file p ks result q before now = (more : List Input) → Does (Takes p file ks more) result (Takes q file [] more) before now

-- the commands of a file were run to its end
abbrev pub DoesWhole : {T : Type 0} → List ℕ → Progress → List Command → Result T Stop → Progress → Sinks → Sinks → Type 0
DoesWhole file p ks result q before now = (more : List Input) → Does (Takes p file ks more) result (Opens q more) before now

-- the end of a file was run
abbrev pub Finishes : {T : Type 0} → List ℕ → Progress → Result T Stop → Sinks → Sinks → Type 0
Finishes file p result before now = (more : List Input) → Does (Takes p file [] more) result (Opens p more) before now

-- a method's failure was told: the run stopped, or goes on behind the proof
abbrev pub Fails : {T : Type 0} → List ℕ → ℕ → Failure → Progress → Result T Stop → Progress → Sinks → Sinks → Type 0
Fails file line failure p (Ok x) q before now = (p.keeps_on ≡ true) × (q ≡ skipping p failure) × All before now (ToErr (failure_line file line failure) ∷ [])
Fails file line failure p (Err (stops.Ended s)) q before now = (p.keeps_on ≡ false) × (s ≡ status.Failed failure) × All before now (ToErr (failure_line file line failure) ∷ [])
Fails file line failure p (Err stops.Memory) q before now = IsQuiet before now
Fails file line failure p (Err stops.Write) q before now = CutShort before now (ToErr (failure_line file line failure) ∷ [])

-- what the files gave for a name was run
abbrev pub DoesFile : {T : Type 0} → List ℕ → Progress → Given → Result T Stop → Progress → Sinks → Sinks → Type 0
DoesFile name p given result q before now = (more : List Input) → Does (Opens p (record { name = name; given = given } ∷ more)) result (Opens q more) before now

-- the words were run, and the answer tells the end
abbrev pub Ends : State → Result ℕ Stop → Sinks → Sinks → Type 0
Ends from (Ok code) before now = (l : Leaves from before now) × EndsWith l.to code
Ends from (Err stop) before now = StopsAt from stop before now

-- the piece was written
abbrev pub Puts : {T : Type 0} → Piece → Result T Stop → Sinks → Sinks → Type 0
Puts piece (Ok x) before now = All before now (piece ∷ [])
Puts piece (Err (stops.Ended s)) before now = ⊥
Puts piece (Err stops.Memory) before now = IsQuiet before now
Puts piece (Err stops.Write) before now = CutShort before now (piece ∷ [])

-- the bytes were printed to out, whatever they show
abbrev pub Shows : {T : Type 0} → List ℕ → Result T Stop → Sinks → Sinks → Type 0
Shows bytes result before now = (shows : Shown) → shown_text shows ≡ bytes → Puts (ToOut shows) result before now

-- the text was printed to out, if there is one
abbrev pub ShowsIfSome : {T : Type 0} → Option (Vec ℕ Global) → Result T Stop → Sinks → Sinks → Type 0
ShowsIfSome None (Ok x) before now = now ≡ before
ShowsIfSome None (Err stop) before now = ⊥
ShowsIfSome (Some text) result before now = Shows text.items result before now

-- the line was told to err
abbrev pub Tells : {T : Type 0} → List ℕ → Result T Stop → Sinks → Sinks → Type 0
Tells line result before now = Puts (ToErr line) result before now

-- the line was told to err, and the run stopped with this status
abbrev pub StopsWith : {T : Type 0} → Status → List ℕ → Result T Stop → Sinks → Sinks → Type 0
StopsWith st line (Ok x) before now = ⊥
StopsWith st line (Err (stops.Ended s)) before now = (s ≡ st) × All before now (ToErr line ∷ [])
StopsWith st line (Err stops.Memory) before now = IsQuiet before now
StopsWith st line (Err stops.Write) before now = CutShort before now (ToErr line ∷ [])

-- the number that tells a stop
abbrev pub stop_code : Stop → ℕ
stop_code (stops.Ended s) = code_of s
stop_code stops.Memory = 6
stop_code stops.Write = 5
