-- What a function that reads and runs files does.
use Rattle.std.specs.Prelude.{◌≡◌, ◌≤◌, ◌<◌, ◌+◌, ℕ, false, cond, nat_lt, List, [], ◌∷◌, length}
use Rattle.std.specs.declared.result.Result.{Result}
use Rattle.isa_io.specs.FilesSeen.{FilesSeen}
use Rattle.isaprove.specs.Run.{Given, Text, Long, Failed, Input, State, Starts, Opens, AreInputs, gave, file_words, is_reading}
use Rattle.isaprove.specs.Printed.{Answers}
use Rattle.isaprove.specs.Sinks.{Sinks}
use Rattle.isaprove.specs.Does.{Does, DoesFile, Ends}
use Rattle.isaprove.specs.declared.progress.Progress.{Progress}
use Rattle.isaprove.specs.declared.status.Stop.{Stop}
use Rattle.isaprove.specs.declared.files.Reading.{Reading}
use Rattle.isaprove.specs.declared.files.Reading.TheVariants as reading

-- ---- what public contracts cite
-- No more files were opened than the words name, and none where the words have no reading.
pub record OpensNoMore (words : List (List ℕ)) (now : FilesSeen) : Type 0 where
  pub named : now.opens ≤ length (file_words words)
  pub unread : is_reading words ≡ false → now.opens ≡ 0

-- the answer and what was written are those of the words' run, whatever the files gave
pub record AnswersAny (words : List (List ℕ)) (before now : FilesSeen) (answer : ℕ) (sinks_before sinks_now : Sinks) : Type 0 where
  pub inputs : List Input
  pub are : AreInputs before.texts (file_words words) inputs
  pub answers : Answers (Starts words (gave before now inputs)) answer sinks_before sinks_now

-- ---- what private contracts cite
-- what was read, without where it lies in memory
abbrev pub given_view : Reading → Given
given_view (reading.Text bytes) = Text bytes.items
given_view reading.Long = Long
given_view reading.Failed = Failed

-- what was given, which failed where the count of faults rose
abbrev pub given_in : FilesSeen → FilesSeen → Given → Given
given_in before now given = cond (nat_lt before.faults now.faults) Failed given

-- What was given for a name. Where a fault came, its place is told.
pub record IsReading (before now : FilesSeen) (name : List ℕ) (given : Given) : Type 0 where
  pub planned : Given
  pub are : AreInputs before.texts (name ∷ []) (record { name = name; given = planned } ∷ [])
  pub given_now : given_in before now planned ≡ given
  pub counts : before.faults ≤ now.faults
  pub placed : before.faults < now.faults → now.place ≡ now.opens

-- the function ran what the files gave for a name
pub record RunsFile {T : Type 0} (name : List ℕ) (before now : FilesSeen) (progress : Progress) (result : Result T Stop) (later : Progress) (sinks_before sinks_now : Sinks) : Type 0 where
  pub planned : Given
  pub are : AreInputs before.texts (name ∷ []) (record { name = name; given = planned } ∷ [])
  pub does : DoesFile name progress (given_in before now planned) result later sinks_before sinks_now
  pub counts : before.faults ≤ now.faults
  pub placed : before.faults < now.faults → now.place ≡ now.opens

-- the function ran what the files gave for these names, and opened no more
pub record RunsFiles {T : Type 0} (names : List (List ℕ)) (before now : FilesSeen) (progress : Progress) (result : Result T Stop) (later : Progress) (sinks_before sinks_now : Sinks) : Type 0 where
  pub inputs : List Input
  pub are : AreInputs before.texts names inputs
  pub does : Does (Opens progress (gave before now inputs)) result (Opens later []) sinks_before sinks_now
  pub opens : now.opens ≤ length names

-- the function ran the words
pub record RunsWords (words : List (List ℕ)) (before now : FilesSeen) (result : Result ℕ Stop) (sinks_before sinks_now : Sinks) : Type 0 where
  pub inputs : List Input
  pub are : AreInputs before.texts (file_words words) inputs
  pub ends : Ends (Starts words (gave before now inputs)) result sinks_before sinks_now
  pub opens : OpensNoMore words now
