-- A run over words, and what the files gave for those that name one: from state to state, each step with the pieces that it prints.
-- Source: this project; 64 is `EX_USAGE` of BSD's sysexits.
use Rattle.std.specs.Prelude.{◌≡◌, ℕ, zero, suc, ◌-◌, ◌<◌, ◌≤◌, Bool, true, false, cond, not, ◌&&◌, nat_eq, nat_le, nat_lt, List, [], ◌∷◌, ◌++◌, length, map, Option, None, Some, MatchOption, Result, Ok, Err, String, codes, decimal, string_bytes, if◌then◌else◌}
use Rattle.std.specs.Str.{bytes_eq}
use Rattle.std.specs.declared.alloc.Global.{Global}
use Rattle.isa_io.specs.FilesSeen.{FilesSeen, Texts, text_of as file_text}
use Rattle.isa_outer.specs.declared.command.Command.{Command}
use Rattle.isa_outer.specs.declared.command.Command.TheVariants as command
use Rattle.isa_outer.specs.declared.refusal.Kind.{Kind}
use Rattle.isa_outer.specs.declared.refusal.Kind.TheVariants as kind
use Rattle.isa_outer.specs.declared.refusal.Refused.{Refused}
use Rattle.isa_outer.specs.Refusals.{text_of}
use Rattle.isa_outer.specs.Texts.{reading_of}
use Rattle.isa_theory.specs.Contexts.{empty_context}
use Rattle.isa_theory.specs.Applying.{line_of}
use Rattle.isaprove.specs.declared.session.OpenLemma.{OpenLemma}
use Rattle.isaprove.specs.declared.session.Session.{Session}
use Rattle.isaprove.specs.declared.failure.Failure.{Failure}
use Rattle.isaprove.specs.declared.failure.Failure.TheVariants.{NoResult, Spent}
use Rattle.isaprove.specs.declared.failure.Rejection.{Rejection}
use Rattle.isaprove.specs.declared.failure.Rejection.TheVariants as rejection
use Rattle.isaprove.specs.declared.progress.Progress.{Progress}
use Rattle.isaprove.specs.declared.status.Status.{Status}
use Rattle.isaprove.specs.declared.status.Status.TheVariants as status
use Rattle.isaprove.specs.declared.files.TheConstants.{LIMIT}
use Rattle.isaprove.specs.Shown.{Piece, Shown, ToOut, ToErr}
use Rattle.isaprove.specs.Steps.{Next, dropped, Comes}

-- ---- messages
-- FILE:LINE: and a blank
abbrev pub place_text : List ℕ → ℕ → List ℕ
place_text file line = file ++ (codes ":" ++ (decimal line ++ codes ": "))

abbrev pub failure_text : Failure → List ℕ
failure_text (NoResult outside) = if nat_eq outside 0 then codes "no result" else codes "no result (outside patterns: " ++ (decimal outside ++ codes ")")
failure_text (Spent budget) = codes "budget of " ++ (decimal budget ++ codes " spent")

unfoldable pub failure_line : List ℕ → ℕ → Failure → List ℕ
failure_line file line failure = (place_text file line ++ failure_text failure) ++ codes "\n"

unfoldable pub refusal_line : List ℕ → ℕ → Kind → List ℕ
refusal_line file line k = (place_text file line ++ text_of k) ++ codes "\n"

abbrev pub long_line : List ℕ → List ℕ
long_line file = (file ++ codes ": longer than 16777216 bytes") ++ codes "\n"

abbrev pub unread_line : List ℕ → List ℕ
unread_line file = (file ++ codes ": cannot be read") ++ codes "\n"

abbrev pub usage : List ℕ
usage = codes "usage: isaprove [-k] FILE... | isaprove --generate N\n"

-- ---- words
-- a word is the name of a file if it doesn't begin with a dash
abbrev pub is_file_name : List ℕ → Bool
is_file_name [] = true
is_file_name (b ∷ bs) = not (nat_eq b 45)

abbrev pub are_file_names : List (List ℕ) → Bool
are_file_names [] = true
are_file_names (word ∷ words) = is_file_name word && are_file_names words

-- whether the first word is `-k`
abbrev pub keeps_on : List (List ℕ) → Bool
keeps_on [] = false
keeps_on (word ∷ words) = bytes_eq word (codes "-k")

-- the words behind `-k`
abbrev pub file_words : List (List ℕ) → List (List ℕ)
file_words [] = []
file_words (word ∷ words) = if bytes_eq word (codes "-k") then words else (word ∷ words)

abbrev pub is_some_list : {A : Type 0} → List A → Bool
is_some_list [] = false
is_some_list (x ∷ xs) = true

-- the words have a reading if they are the names of one or more files, perhaps behind `-k`
abbrev pub is_reading : List (List ℕ) → Bool
is_reading words = is_some_list (file_words words) && are_file_names (file_words words)

-- the words as bytes
abbrev pub names : List (String Global) → List (List ℕ)
names words = map (λ word. string_bytes word) words

-- ---- states
-- what the files gave for a word
pub data Given : Type 0 where
  Text : (bytes : List ℕ) → Given
  Long : Given
  Failed : Given

-- a word, and what the files gave for it
pub record Input : Type 0 where
  pub name : List ℕ
  pub given : Given

pub data State : Type 0 where
  -- the words are still to be read
  Starts : (words : List (List ℕ)) → (inputs : List Input) → State
  -- the next file is still to be opened
  Opens : (progress : Progress) → (inputs : List Input) → State
  -- the next command of this file is still to be taken
  Takes : (progress : Progress) → (file : List ℕ) → (commands : List Command) → (inputs : List Input) → State
  Stopped : (status : Status) → State

-- nothing is declared, no lemma is open, and nothing has failed
abbrev pub start : Bool → Progress
start keeps = record { session = record { context = empty_context; lemma = None }; keeps_on = keeps; skips = false; first = None }

-- ---- commands
abbrev pub is_proof_command : Command → Bool
is_proof_command (command.Apply line m) = true
is_proof_command (command.By line m) = true
is_proof_command (command.Done line) = true
is_proof_command (command.Back line) = true
is_proof_command (command.Oops line) = true
is_proof_command (command.Print line count) = true
is_proof_command _ = false

-- the first failure of a run counts
abbrev pub first_of : Option Failure → Failure → Option Failure
first_of None failure = Some failure
first_of (Some before) failure = Some before

-- the lemma is dropped, and the proof commands behind it are skipped
abbrev pub skipping : Progress → Failure → Progress
skipping p failure = record p { session = dropped p.session; skips = true; first = first_of p.first failure }

-- the command was accepted
abbrev pub accepting : Progress → Session → Progress
accepting p s = record p { session = s; skips = false }

-- this is shown, if anything is
abbrev pub show : Option Shown → List Piece
show None = []
show (Some shows) = ToOut shows ∷ []

abbrev pub tell : List ℕ → List Piece
tell line = ToErr line ∷ []

-- the pieces of a step, and where it leads
pub record Turn : Type 0 where
  pub pieces : List Piece
  pub state : State

-- Where what comes of a command leads. Where a method gave no state the run stops, or goes on behind the proof where it is to keep on.
abbrev pub turn_of : List ℕ → ℕ → Progress → (Progress → State) → Result Next Rejection → Turn
turn_of file line p go (Ok n) = record { pieces = show n.shows; state = go (accepting p n.session) }
turn_of file line p go (Err (rejection.Failed failure)) =
    record { pieces = tell (failure_line file line failure); state = if p.keeps_on then go (skipping p failure) else Stopped (status.Failed failure) }
turn_of file line p go (Err (rejection.Refused r)) = record { pieces = tell (refusal_line file r.line r.kind); state = Stopped status.Refused }

-- ---- steps
pub data Step : State → List Piece → State → Type 0 where
  -- words
  ReadWords : (words : List (List ℕ)) (inputs : List Input) → is_reading words ≡ true → Step (Starts words inputs) [] (Opens (start (keeps_on words)) inputs)
  RefuseWords : (words : List (List ℕ)) (inputs : List Input) → is_reading words ≡ false → Step (Starts words inputs) (tell usage) (Stopped status.Usage)
  -- Files. The first refusal in the whole text counts before its first command.
  OpenFile : (p : Progress) (input : Input) (inputs : List Input) (bytes : List ℕ) (commands : List Command) → input.given ≡ Text bytes → reading_of bytes ≡ Ok commands → Step (Opens p (input ∷ inputs)) [] (Takes p input.name commands inputs)
  RefuseText : (p : Progress) (input : Input) (inputs : List Input) (bytes : List ℕ) (r : Refused) → input.given ≡ Text bytes → reading_of bytes ≡ Err r → Step (Opens p (input ∷ inputs)) (tell (refusal_line input.name r.line r.kind)) (Stopped status.Refused)
  RefuseLength : (p : Progress) (input : Input) (inputs : List Input) → input.given ≡ Long → Step (Opens p (input ∷ inputs)) (tell (long_line input.name)) (Stopped status.Refused)
  FailToRead : (p : Progress) (input : Input) (inputs : List Input) → input.given ≡ Failed → Step (Opens p (input ∷ inputs)) (tell (unread_line input.name)) (Stopped status.ReadFault)
  -- commands: after a failure, the proof commands up to the next command that is none are skipped
  SkipCommand : (p : Progress) (file : List ℕ) (k : Command) (ks : List Command) (inputs : List Input) → (p.skips && is_proof_command k) ≡ true → Step (Takes p file (k ∷ ks) inputs) [] (Takes p file ks inputs)
  TakeCommand : (p : Progress) (file : List ℕ) (k : Command) (ks : List Command) (inputs : List Input) (r : Result Next Rejection) (turn : Turn) → (p.skips && is_proof_command k) ≡ false → Comes p.session k r → turn_of file (line_of k) p (λ q. Takes q file ks inputs) r ≡ turn → Step (Takes p file (k ∷ ks) inputs) turn.pieces turn.state
  -- at the end of a file no proof is open
  CloseFile : (p : Progress) (file : List ℕ) (inputs : List Input) → p.session.lemma ≡ None → Step (Takes p file [] inputs) [] (Opens p inputs)
  RefuseEnd : (p : Progress) (file : List ℕ) (inputs : List Input) (l : OpenLemma) → p.session.lemma ≡ Some l → Step (Takes p file [] inputs) (tell (refusal_line file l.lemma.line kind.OpenProof)) (Stopped status.Refused)

-- from one state to another, with the pieces of the steps between
pub data Reaches : State → List Piece → State → Type 0 where
  Stays : (s : State) → Reaches s [] s
  Goes : (s t u : State) (ps qs : List Piece) → Step s ps t → Reaches t qs u → Reaches s (ps ++ qs) u

-- ---- statuses
abbrev pub failure_code : Failure → ℕ
failure_code (NoResult outside) = if nat_eq outside 0 then 1 else 7
failure_code (Spent budget) = 2

-- the number that tells a status
abbrev pub code_of : Status → ℕ
code_of (status.Failed failure) = failure_code failure
code_of status.Refused = 3
code_of status.ReadFault = 4
code_of status.Usage = 64

abbrev pub first_code : Option Failure → ℕ
first_code None = 0
first_code (Some failure) = failure_code failure

-- a run ends in this state, and this is its answer
abbrev pub EndsWith : State → ℕ → Type 0
EndsWith (Starts words inputs) answer = ⊥
EndsWith (Opens p []) answer = answer ≡ first_code p.first
EndsWith (Opens p (input ∷ inputs)) answer = ⊥
EndsWith (Takes p file ks inputs) answer = ⊥
EndsWith (Stopped s) answer = answer ≡ code_of s

-- ---- what the files gave
-- what files that tell these texts give for a name, where no fault comes
abbrev pub given_text : Option (List ℕ) → Given
given_text None = Failed
given_text (Some bytes) = cond (nat_le (length bytes) LIMIT) (Text bytes) Long

abbrev pub given_of : Texts → List ℕ → Given
given_of texts name = given_text (file_text texts name)

abbrev pub input_of : Texts → List ℕ → Input
input_of texts name = record { name = name; given = given_of texts name }

-- the input at this index failed
abbrev pub fail_at : List Input → ℕ → List Input
fail_at [] i = []
fail_at (input ∷ inputs) zero = record input { given = Failed } ∷ inputs
fail_at (input ∷ inputs) (suc i) = input ∷ fail_at inputs i

-- What the files gave: the inputs, but where their count of faults rose, the one at the fault's place
-- failed. Places count from 1.
abbrev pub gave : FilesSeen → FilesSeen → List Input → List Input
gave before now inputs =
    cond (nat_lt before.faults now.faults) (fail_at inputs (now.place - 1)) inputs

-- it didn't fail, and a text is no longer than the limit
abbrev pub IsTaken : Given → Type 0
IsTaken (Text bytes) = length bytes ≤ LIMIT
IsTaken Long = Unit {0}
IsTaken Failed = ⊥

abbrev pub AreTaken : List Input → Type 0
AreTaken [] = Unit {0}
AreTaken (input ∷ inputs) = IsTaken input.given × AreTaken inputs

-- The inputs are those of the names: by the texts where they are told, and else some that were given.
abbrev pub AreInputs : Option Texts → List (List ℕ) → List Input → Type 0
AreInputs texts names inputs =
    MatchOption texts
    ((map (λ input. input.name) inputs ≡ names) × AreTaken inputs)
    (λ told. inputs ≡ map (input_of told) names)
