-- What was written of a list of pieces.
-- Source: writes that may fail, as Rust's `std::io::Write` has them.
use Rattle.std.specs.Prelude.{◌≡◌, ◌≢◌, ◌↔◌, ◌⊎◌, ℕ, ◌<◌, List, [], ◌∷◌, ◌++◌, take}
use Rattle.std.specs.Io.KnownBytes.{Appends}
use Rattle.isaprove.specs.Sinks.{Sinks}
use Rattle.isaprove.specs.Shown.{Piece, piece_out, piece_err, out_of, err_of}
use Rattle.isaprove.specs.Run.{State, Reaches, EndsWith}
use Rattle.isaprove.specs.Sound.{AreSound}

-- these bytes were written, and nothing else
pub record WritesBytes (before after : Sinks) (to_out to_err : List ℕ) : Type 0 where
  pub out : Appends before.out.written after.out.written to_out
  pub err : Appends before.err.written after.err.written to_err

-- these pieces were written, and nothing else
abbrev pub Writes : Sinks → Sinks → List Piece → Type 0
Writes before after pieces = WritesBytes before after (out_of pieces) (err_of pieces)

-- a count of faults rose
abbrev pub Rose : Sinks → Sinks → Type 0
Rose before after = (before.out.faults < after.out.faults) ⊎ (before.err.faults < after.err.faults)

-- a fault came: the pieces but the last were written whole, and some first bytes of the last
pub record CutShort (before after : Sinks) (pieces : List Piece) : Type 0 where
  pub rose : Rose before after
  pub front : List Piece
  pub piece : Piece
  pub count : ℕ
  pub split : pieces ≡ front ++ piece ∷ []
  pub writes : WritesBytes before after (out_of front ++ take count (piece_out piece)) (err_of front ++ take count (piece_err piece))

-- The run from this state came to another one, its pieces were written, and what they show is sound. It came to its end, which the answer
-- tells, unless it was left for want of memory, which is 6, or for a fault of a sink, which is 5; then the last piece was cut short.
pub record Answers (from : State) (answer : ℕ) (before after : Sinks) : Type 0 where
  pub pieces : List Piece
  pub to : State
  pub reaches : Reaches from pieces to
  pub sound : AreSound pieces
  pub write_fault : (answer ≡ 5) ↔ Rose before after
  pub cut : answer ≡ 5 → CutShort before after pieces
  pub whole : answer ≢ 5 → Writes before after pieces
  pub ends : answer ≢ 5 → answer ≢ 6 → EndsWith to answer
