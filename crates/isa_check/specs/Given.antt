-- What the files gave for the words, and what was answered.
-- Source: this project.
use Rattle.std.specs.Prelude.{◌≡◌, ◌≤◌, ℕ, List, [], ◌∷◌, length, cond, nat_le, nat_lt, Option, Some, None, MatchOption, IfOk, Result}
use Rattle.isa_io.specs.FilesSeen.{FilesSeen, Texts, text_of}
use Rattle.isa_cert.specs.Checking.{checked, AreProved}
use Rattle.isa_check.specs.Run.{Given, Text, Long, Failed, Run, run_given, usage}
use Rattle.isa_check.specs.Written.{Sinks, Answers}
use Rattle.isa_check.specs.Does.{Does}
use Rattle.isa_check.specs.declared.status.Stop.{Stop}
use Rattle.isa_check.specs.declared.top.Reading.{Reading}
use Rattle.isa_check.specs.declared.top.Reading.TheVariants as reading

abbrev pub limit : ℕ
limit = 67108864

-- what files that tell these texts give for a name, where no fault comes
abbrev pub given_text : Option (List ℕ) → Given
given_text None = Failed
given_text (Some bytes) = cond (nat_le (length bytes) limit) (Text bytes) Long

abbrev pub given_of : Texts → List ℕ → Given
given_of texts name = given_text (text_of texts name)

abbrev pub IsNoFailure : Given → Type 0
IsNoFailure (Text bytes) = length bytes ≤ limit
IsNoFailure Long = Unit {0}
IsNoFailure Failed = ⊥

-- What was given for a name: what the told texts say, or some text or too long a one where they are not told; and a failure where the count of faults rose.
pub record IsGiven (before now : FilesSeen) (name : List ℕ) (given : Given) : Type 0 where
  pub input : Given
  pub told : MatchOption before.texts (IsNoFailure input) (λ texts. input ≡ given_of texts name)
  pub is : cond (nat_lt before.faults now.faults) Failed input ≡ given

-- what was read, without where it lies in memory
abbrev pub given_view : Reading → Given
given_view (reading.Text bytes) = Text bytes.items
given_view reading.Long = Long
given_view reading.Failed = Failed

-- the function checked what was given for the one word, or told the usage
pub record RunsFile (word : List ℕ) (before now : FilesSeen) {T : Type 0} (result : Result T Stop) (a b : Sinks) : Type 0 where
  pub given : Given
  pub is_given : IsGiven before now word given
  pub does : Does (run_given word given) result a b

abbrev pub RunsWords : {T : Type 0} → List (List ℕ) → FilesSeen → FilesSeen → Result T Stop → Sinks → Sinks → Type 0
RunsWords (word ∷ []) before now result a b = RunsFile word before now result a b
RunsWords _ before now result a b = Does usage result a b

-- each theorem of an accepted text has a derivation from the axioms that it lists
abbrev pub ProvesWhatItAccepts : Given → Type 0
ProvesWhatItAccepts (Text bytes) = IfOk (checked bytes) (λ list. AreProved list)
ProvesWhatItAccepts Long = Unit {0}
ProvesWhatItAccepts Failed = Unit {0}

-- the answer and what was written are those of the run on what was given for the one word, or of the usage
pub record AnswersFile (word : List ℕ) (before now : FilesSeen) (answer : ℕ) (a b : Sinks) : Type 0 where
  pub given : Given
  pub is_given : IsGiven before now word given
  pub answers : Answers (run_given word given) answer a b
  pub proved : ProvesWhatItAccepts given

abbrev pub AnswersWords : List (List ℕ) → FilesSeen → FilesSeen → ℕ → Sinks → Sinks → Type 0
AnswersWords (word ∷ []) before now answer a b = AnswersFile word before now answer a b
AnswersWords _ before now answer a b = Answers usage answer a b
