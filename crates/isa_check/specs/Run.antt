-- What a run of the checker writes, and its status.
-- Source: this project.
use Rattle.std.specs.Prelude.{ℕ, ◌==◌, List, [], ◌∷◌, ◌++◌, map, count_by, take, codes, decimal, Result, Ok, Err, string_bytes}
use Rattle.std.specs.Prelude.{String}
use Rattle.std.specs.declared.alloc.Global.{Global}
use Rattle.isa_kernel.specs.declared.axioms.NamedProp.{NamedProp}
use Rattle.isa_cert.specs.declared.certs.Accepted.{Accepted}
use Rattle.isa_cert.specs.Checking.{Refusal, FormAt, TypedAt, StepAt, NoEnd, checked}

-- what is written at a time: bytes for one of the two sinks
pub data Piece : Type 0 where
  ToOut : (bytes : List ℕ) → Piece
  ToErr : (bytes : List ℕ) → Piece

-- what is written, and the status
pub record Run : Type 0 where
  pub pieces : List Piece
  pub status : ℕ

-- a message to err
abbrev pub stop : ℕ → List ℕ → Run
stop status message = record { pieces = ToErr (message ++ codes "\n") ∷ []; status = status }

-- bytes to out
abbrev pub told : List ℕ → Run
told bytes = record { pieces = ToOut bytes ∷ []; status = 0 }

-- each name behind a blank
abbrev pub names_of : List NamedProp → List ℕ
names_of [] = []
names_of (a ∷ rest) = (32 ∷ a.name) ++ names_of rest

-- `accepted NAME: AXIOM ..`
abbrev pub line_of : Accepted → List ℕ
line_of a = codes "accepted " ++ (a.name ++ (codes ":" ++ (names_of a.axioms ++ codes "\n")))

-- a line for each accepted theorem
abbrev pub told_all : List Accepted → Run
told_all list = record { pieces = map (λ a. ToOut (line_of a)) list; status = 0 }

-- the line that a refusal tells: the one that failed, or the last one where no end closes the text
abbrev pub refused_line : List ℕ → Refusal → ℕ
refused_line text (FormAt n) = n
refused_line text (TypedAt n) = n
refused_line text (StepAt n) = n
refused_line text NoEnd = count_by (λ b. b == 10) text

abbrev pub refused : List ℕ → ℕ → Run
refused name line = stop 1 (name ++ (codes ":" ++ (decimal line ++ codes ": certificate refused")))

-- a text, by what it proves
abbrev pub run_checked : List ℕ → List ℕ → Result (List Accepted) Refusal → Run
run_checked name text (Ok list) = told_all list
run_checked name text (Err refusal) = refused name (refused_line text refusal)

-- what the files gave for a name
pub data Given : Type 0 where
  Text : (bytes : List ℕ) → Given
  Long : Given
  Failed : Given

abbrev pub run_given : List ℕ → Given → Run
run_given name (Text bytes) = run_checked name bytes (checked bytes)
run_given name Long = stop 3 (name ++ codes ": longer than 67108864 bytes")
run_given name Failed = stop 4 (name ++ codes ": cannot be read")

-- words that are no one word
abbrev pub usage : Run
usage = stop 64 (codes "usage: isacheck FILE")

-- the words as bytes
abbrev pub names : List (String Global) → List (List ℕ)
names words = map (λ word. string_bytes word) words
