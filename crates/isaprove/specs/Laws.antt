-- Laws about the definition of a run: what it shows is sound, there is one at most, and when it answers 64 and 4.
-- Source: this project; 64 is `EX_USAGE` of BSD's sysexits.
use Rattle.std.specs.Prelude.{◌≡◌, ◌≢◌, ◌⊎◌, ℕ, ◌<◌, false, List, [], ◌∷◌, ◌++◌, None, IsSomeAnd}
use Rattle.isa_io.specs.FilesSeen.{FilesSeen, Texts, text_of}
use Rattle.isaprove.specs.Sinks.{Sinks}
use Rattle.isaprove.specs.Shown.{Piece}
use Rattle.isaprove.specs.Inputs.{AnswersAny}
use Rattle.isaprove.specs.Sound.{AreSound}
use Rattle.isaprove.specs.Run.{Input, State, Starts, Reaches, EndsWith, is_reading, file_words}

-- What a run of any words shows, whatever the files gave and however far it went, is sound.
abbrev pub RunsAreSound : Type 0
RunsAreSound = (words : List (List ℕ)) (inputs : List Input) (pieces : List Piece) (to : State) → Reaches (Starts words inputs) pieces to → AreSound pieces

-- a run that was left has the first pieces of one that came to its end
pub record IsBeginning (pieces all : List Piece) : Type 0 where
  pub rest : List Piece
  pub split : all ≡ pieces ++ rest

-- One run at most comes to its end, with one answer, and another one is the beginning of it.
pub record OneRun : Type 0 where
  pub begins : (from s t : State) (ps qs : List Piece) (answer : ℕ) → Reaches from ps s → Reaches from qs t → EndsWith t answer → IsBeginning ps qs
  pub answers : (from s t : State) (ps qs : List Piece) (a b : ℕ) → Reaches from ps s → EndsWith s a → Reaches from qs t → EndsWith t b → (ps ≡ qs) × (a ≡ b)

-- The answer 64 comes exactly where the words have no reading. Faults of the sinks and want of memory have their own answers.
pub record IsUsage (words : List (List ℕ)) (answer : ℕ) : Type 0 where
  pub only : answer ≡ 64 → is_reading words ≡ false
  pub always : is_reading words ≡ false → answer ≢ 5 → answer ≢ 6 → answer ≡ 64

-- no text has the name of one of these
abbrev pub SomeAbsent : Texts → List (List ℕ) → Type 0
SomeAbsent texts [] = ⊥
SomeAbsent texts (name ∷ names) = (text_of texts name ≡ None) ⊎ SomeAbsent texts names

-- the answer 4 comes only where the files' count of faults rose, or where the texts are told and none has the name of a word
abbrev pub IsReadFault : List (List ℕ) → FilesSeen → FilesSeen → ℕ → Type 0
IsReadFault words before now answer =
    answer ≡ 4 → (before.faults < now.faults) ⊎ IsSomeAnd before.texts (λ texts. SomeAbsent texts (file_words words))

-- each answer over any files has these causes
abbrev pub AnswersHaveCauses : Type 0
AnswersHaveCauses = (words : List (List ℕ)) (before now : FilesSeen) (answer : ℕ) (a b : Sinks) → AnswersAny words before now answer a b → IsUsage words answer × IsReadFault words before now answer
