-- What a run prints: pieces, each for one of the two sinks.
-- Source: this project.
use Rattle.std.specs.Prelude.{ℕ, List, [], ◌∷◌, ◌++◌, take, Option}
use Rattle.isa_terms.specs.Terms.{Tm}
use Rattle.isa_goal.specs.Goals.{Goals}
use Rattle.isa_theory.specs.Contexts.{ContextSeen, judgment_name}
use Rattle.isa_print.specs.Text.{state_text, theorem_text}
use Rattle.isaprove.specs.declared.session.Tried.{Tried}

-- what a command shows
pub data Shown : Type 0 where
  -- the state that stands behind `rank` others in what was tried on the state before
  ShownState : (context : ContextSeen) (tried : Tried) (before : Goals) (rank : ℕ) (after : Goals) → Shown
  -- a theorem that was proved, under its name where it has one
  ShownTheorem : (context : ContextSeen) (name : Option (List ℕ)) (prop : Tm) → Shown

-- its text
abbrev pub shown_text : Shown → List ℕ
shown_text (ShownState c tried before rank after) = state_text (judgment_name c) after.subgoals
shown_text (ShownTheorem c name p) = theorem_text (judgment_name c) name p

pub data Piece : Type 0 where
  ToOut : (shows : Shown) → Piece
  ToErr : (bytes : List ℕ) → Piece

abbrev pub piece_out : Piece → List ℕ
piece_out (ToOut shows) = shown_text shows
piece_out (ToErr bytes) = []

abbrev pub piece_err : Piece → List ℕ
piece_err (ToOut shows) = []
piece_err (ToErr bytes) = bytes

-- the bytes for out, in order
abbrev pub out_of : List Piece → List ℕ
out_of [] = []
out_of (p ∷ ps) = piece_out p ++ out_of ps

-- the bytes for err, in order
abbrev pub err_of : List Piece → List ℕ
err_of [] = []
err_of (p ∷ ps) = piece_err p ++ err_of ps
