-- What was written of a list of pieces.
-- Source: writes that may fail, as Rust's `std::io::Write` has them.
use Rattle.std.specs.Prelude.{◌≡◌, ◌≢◌, ◌↔◌, ◌⊎◌, ℕ, ◌<◌, List, [], ◌∷◌, ◌++◌, take}
use Rattle.std.specs.Io.KnownBytes.{Appends}
use Rattle.isa_io.specs.SinkSeen.{SinkSeen}
use Rattle.isa_check.specs.Run.{Piece, ToOut, ToErr, Run}

-- the bytes for out, in order
abbrev pub out_of : List Piece → List ℕ
out_of [] = []
out_of (ToOut bytes ∷ pieces) = bytes ++ out_of pieces
out_of (ToErr bytes ∷ pieces) = out_of pieces

-- the bytes for err, in order
abbrev pub err_of : List Piece → List ℕ
err_of [] = []
err_of (ToOut bytes ∷ pieces) = err_of pieces
err_of (ToErr bytes ∷ pieces) = bytes ++ err_of pieces

-- the first bytes of a piece
abbrev pub clip : ℕ → Piece → Piece
clip count (ToOut bytes) = ToOut (take count bytes)
clip count (ToErr bytes) = ToErr (take count bytes)

-- the two sinks
pub record Sinks : Type 0 where
  pub out : SinkSeen
  pub err : SinkSeen

-- these pieces were written, and nothing else
pub record Writes (before after : Sinks) (pieces : List Piece) : Type 0 where
  pub out : Appends before.out.written after.out.written (out_of pieces)
  pub err : Appends before.err.written after.err.written (err_of pieces)

-- a count of faults rose
abbrev pub Rose : Sinks → Sinks → Type 0
Rose before after = (before.out.faults < after.out.faults) ⊎ (before.err.faults < after.err.faults)

-- no count of faults changed
pub record NoFault (before after : Sinks) : Type 0 where
  pub out : after.out.faults ≡ before.out.faults
  pub err : after.err.faults ≡ before.err.faults

-- all of the pieces were written
pub record All (before after : Sinks) (pieces : List Piece) : Type 0 where
  pub no_fault : NoFault before after
  pub writes : Writes before after pieces

-- some first pieces were written whole
pub record Front (before after : Sinks) (pieces : List Piece) : Type 0 where
  pub no_fault : NoFault before after
  pub front : List Piece
  pub rest : List Piece
  pub split : pieces ≡ front ++ rest
  pub writes : Writes before after front

-- a fault came, after some first pieces were written whole and some first bytes of the next one
pub record CutShort (before after : Sinks) (pieces : List Piece) : Type 0 where
  pub rose : Rose before after
  pub front : List Piece
  pub piece : Piece
  pub count : ℕ
  pub rest : List Piece
  pub split : pieces ≡ front ++ piece ∷ rest
  pub writes : Writes before after (front ++ clip count piece ∷ [])

-- the answer and what was written are those of a run
pub record Answers (run : Run) (answer : ℕ) (before after : Sinks) : Type 0 where
  pub write_fault : (answer ≡ 5) ↔ Rose before after
  pub cut : answer ≡ 5 → CutShort before after run.pieces
  pub memory : answer ≡ 6 → Front before after run.pieces
  pub status : answer ≢ 5 → answer ≢ 6 → answer ≡ run.status
  pub whole : answer ≢ 5 → answer ≢ 6 → Writes before after run.pieces
