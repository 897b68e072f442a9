-- When a run answers 64, and 4.
use Rattle.std.proofs.Common.{◌≡◌, ◌⊎◌, ◌<◌, ◌-◌, ℕ, List, [], ◌∷◌, length, map, Bool, true, false, ◌&&◌, cond, Option, Some, None, Ok, Err, inl, inr, refl, sym, ap, subst, ◌∙◌, arith, ltb-true}
use Rattle.std.specs.Prelude.{◌≢◌, nat_lt, nat_le, nat_eq, IsSomeAnd}
use Rattle.std.specs.declared.result.Result.{Result}
use Rattle.isa_io.specs.FilesSeen.{FilesSeen, Texts, text_of}
use Rattle.isa_outer.specs.declared.command.Command.{Command}
use Rattle.isa_theory.specs.Applying.{line_of}
use Rattle.isaprove.specs.declared.files.TheConstants.{LIMIT}
use Rattle.isaprove.specs.declared.failure.Failure.{Failure}
use Rattle.isaprove.specs.declared.failure.Failure.TheVariants.{NoResult, Spent}
use Rattle.isaprove.specs.declared.failure.Rejection.{Rejection}
use Rattle.isaprove.specs.declared.failure.Rejection.TheVariants as rejection
use Rattle.isaprove.specs.declared.progress.Progress.{Progress}
use Rattle.isaprove.specs.declared.status.Status.{Status}
use Rattle.isaprove.specs.declared.status.Status.TheVariants as status
use Rattle.isaprove.specs.Laws.{IsUsage, IsReadFault, SomeAbsent}
use Rattle.isaprove.specs.Inputs.{AnswersAny}
use Rattle.isaprove.specs.Shown.{Piece}
use Rattle.isaprove.specs.Sinks.{Sinks}
use Rattle.isaprove.specs.Steps.{Next}
use Rattle.isaprove.specs.Run.{Given, Text, Long, Failed, Input, State, Starts, Opens, Takes, Stopped, Step, ReadWords, RefuseWords, OpenFile, RefuseText, RefuseLength, FailToRead, SkipCommand, TakeCommand, CloseFile, RefuseEnd, Reaches, Stays, Goes, Turn, turn_of, skipping, EndsWith, is_reading, file_words, code_of, failure_code, first_code, given_text, input_of, gave, fail_at, IsTaken, AreTaken, AreInputs}

-- ---- commands
-- a command ends a run neither by a fault of files nor by the words
OfText : State → Type 0
OfText (Starts words inputs) = Unit {0}
OfText (Opens p inputs) = Unit {0}
OfText (Takes p file ks inputs) = Unit {0}
OfText (Stopped (status.Failed f)) = Unit {0}
OfText (Stopped status.Refused) = Unit {0}
OfText (Stopped status.ReadFault) = ⊥
OfText (Stopped status.Usage) = ⊥

-- it goes on to the next command, or stops so
data Follows (file : List ℕ) (ks : List Command) (inputs : List Input) : State → Type 0 where
  GoesOn : (p : Progress) → Follows file ks inputs (Takes p file ks inputs)
  StopsHere : (s : Status) → OfText (Stopped s) → Follows file ks inputs (Stopped s)

failed_follows : (p : Progress) (f : Failure) (file : List ℕ) (ks : List Command) (inputs : List Input) (b : Bool) → Follows file ks inputs (cond b (Takes (skipping p f) file ks inputs) (Stopped (status.Failed f)))
unfolding OfText
failed_follows p f file ks inputs true = GoesOn (skipping p f)
failed_follows p f file ks inputs false = StopsHere (status.Failed f) tt

turn_follows : (file : List ℕ) (p : Progress) (k : Command) (ks : List Command) (inputs : List Input) (r : Result Next Rejection) → let t : Turn = turn_of file (line_of k) p (λ q. Takes q file ks inputs) r in Follows file ks inputs t.state
unfolding OfText
turn_follows file p k ks inputs (Ok n) = GoesOn _
turn_follows file p k ks inputs (Err (rejection.Failed f)) = failed_follows p f file ks inputs p.keeps_on
turn_follows file p k ks inputs (Err (rejection.Refused r)) = StopsHere status.Refused tt

-- ---- words
-- the words have a reading, or the usage was told
OfWords : List (List ℕ) → State → Type 0
OfWords words (Starts ws inputs) = ws ≡ words
OfWords words (Opens p inputs) = is_reading words ≡ true
OfWords words (Takes p file ks inputs) = is_reading words ≡ true
OfWords words (Stopped (status.Failed f)) = is_reading words ≡ true
OfWords words (Stopped status.Refused) = is_reading words ≡ true
OfWords words (Stopped status.ReadFault) = is_reading words ≡ true
OfWords words (Stopped status.Usage) = is_reading words ≡ false

stopped_words : (words : List (List ℕ)) (s : Status) → OfText (Stopped s) → is_reading words ≡ true → OfWords words (Stopped s)
unfolding OfText OfWords
stopped_words words (status.Failed f) o h = h
stopped_words words status.Refused o h = h
stopped_words words status.ReadFault o h = absurd o
stopped_words words status.Usage o h = absurd o

follows_words : (words : List (List ℕ)) (file : List ℕ) (ks : List Command) (inputs : List Input) (t : State) → Follows file ks inputs t → is_reading words ≡ true → OfWords words t
unfolding OfWords
follows_words words _ _ _ _ (GoesOn p) h = h
follows_words words _ _ _ _ (StopsHere s o) h = stopped_words words s o h

step_words : (words : List (List ℕ)) (s t : State) (ps : List Piece) → Step s ps t → OfWords words s → OfWords words t
unfolding OfWords
step_words words _ _ _ (ReadWords ws inputs h) e = ap is_reading (sym e) ∙ h
step_words words _ _ _ (RefuseWords ws inputs h) e = ap is_reading (sym e) ∙ h
step_words words _ _ _ (OpenFile p input inputs bytes ks g h) e = e
step_words words _ _ _ (RefuseText p input inputs bytes r g h) e = e
step_words words _ _ _ (RefuseLength p input inputs g) e = e
step_words words _ _ _ (FailToRead p input inputs g) e = e
step_words words _ _ _ (SkipCommand p file k ks inputs h) e = e
step_words words _ _ _ (TakeCommand p file k ks inputs r turn h c f) e = follows_words words file ks inputs turn.state (subst (λ (t : Turn). Follows file ks inputs t.state) f (turn_follows file p k ks inputs r)) e
step_words words _ _ _ (CloseFile p file inputs h) e = e
step_words words _ _ _ (RefuseEnd p file inputs l h) e = e

reaches_words : (words : List (List ℕ)) (s t : State) (ps : List Piece) → Reaches s ps t → OfWords words s → OfWords words t
reaches_words words _ _ _ (Stays s) e = e
reaches_words words _ _ _ (Goes s t u ps qs d r) e = reaches_words words t u qs r (step_words words s t ps d e)

-- ---- files
AnyFailed : List Input → Type 0
AnyFailed [] = ⊥
AnyFailed (i ∷ is) = (i.given ≡ Failed) ⊎ AnyFailed is

-- the inputs that are left are some of these; the run was stopped by a fault of files only where one of these failed
OfFiles : List Input → State → Type 0
OfFiles all (Starts words inputs) = AnyFailed inputs → AnyFailed all
OfFiles all (Opens p inputs) = AnyFailed inputs → AnyFailed all
OfFiles all (Takes p file ks inputs) = AnyFailed inputs → AnyFailed all
OfFiles all (Stopped (status.Failed f)) = Unit {0}
OfFiles all (Stopped status.Refused) = Unit {0}
OfFiles all (Stopped status.ReadFault) = AnyFailed all
OfFiles all (Stopped status.Usage) = Unit {0}

stopped_files : (all : List Input) (s : Status) → OfText (Stopped s) → OfFiles all (Stopped s)
unfolding OfText OfFiles
stopped_files all (status.Failed f) o = tt
stopped_files all status.Refused o = tt
stopped_files all status.ReadFault o = absurd o
stopped_files all status.Usage o = tt

follows_files : (all : List Input) (file : List ℕ) (ks : List Command) (inputs : List Input) (t : State) → Follows file ks inputs t → (AnyFailed inputs → AnyFailed all) → OfFiles all t
unfolding OfFiles
follows_files all _ _ _ _ (GoesOn p) f = f
follows_files all _ _ _ _ (StopsHere s o) f = stopped_files all s o

step_files : (all : List Input) (s t : State) (ps : List Piece) → Step s ps t → OfFiles all s → OfFiles all t
unfolding OfFiles AnyFailed
step_files all _ _ _ (ReadWords words inputs h) f = f
step_files all _ _ _ (RefuseWords words inputs h) f = tt
step_files all _ _ _ (OpenFile p input inputs bytes ks g h) f = λ a. f (inr a)
step_files all _ _ _ (RefuseText p input inputs bytes r g h) f = tt
step_files all _ _ _ (RefuseLength p input inputs g) f = tt
step_files all _ _ _ (FailToRead p input inputs g) f = f (inl g)
step_files all _ _ _ (SkipCommand p file k ks inputs h) f = f
step_files all _ _ _ (TakeCommand p file k ks inputs r turn h c e) f = follows_files all file ks inputs turn.state (subst (λ (t : Turn). Follows file ks inputs t.state) e (turn_follows file p k ks inputs r)) f
step_files all _ _ _ (CloseFile p file inputs h) f = f
step_files all _ _ _ (RefuseEnd p file inputs l h) f = tt

reaches_files : (all : List Input) (s t : State) (ps : List Piece) → Reaches s ps t → OfFiles all s → OfFiles all t
reaches_files all _ _ _ (Stays s) f = f
reaches_files all _ _ _ (Goes s t u ps qs d r) f = reaches_files all t u qs r (step_files all s t ps d f)

-- ---- answers
-- the number of a failure is neither 4 nor 64
NotOther : ℕ → Type 0
NotOther n = (n ≡ 4 → ⊥) × (n ≡ 64 → ⊥)

other_test : (b : Bool) → NotOther (cond b 1 7)
unfolding NotOther
other_test true = ((λ e. omega arith), (λ e. omega arith))
other_test false = ((λ e. omega arith), (λ e. omega arith))

other_failure : (f : Failure) → NotOther (failure_code f)
unfolding NotOther
other_failure (NoResult outside) = other_test (nat_eq outside 0)
other_failure (Spent budget) = ((λ e. omega arith), (λ e. omega arith))

other_first : (o : Option Failure) → NotOther (first_code o)
unfolding NotOther
other_first None = ((λ e. omega arith), (λ e. omega arith))
other_first (Some f) = other_failure f

-- the end of a run by its answer
ends_64 : (words : List (List ℕ)) (s : State) (answer : ℕ) → OfWords words s → EndsWith s answer → answer ≡ 64 → is_reading words ≡ false
unfolding OfWords NotOther
ends_64 words (Starts ws inputs) answer o e h = absurd e
ends_64 words (Opens p []) answer o e h = absurd ((other_first p.first).1 (sym e ∙ h))
ends_64 words (Opens p (i ∷ is)) answer o e h = absurd e
ends_64 words (Takes p file ks is) answer o e h = absurd e
ends_64 words (Stopped (status.Failed f)) answer o e h = absurd ((other_failure f).1 (sym e ∙ h))
ends_64 words (Stopped status.Refused) answer o e h = absurd (omega (arith, e, h))
ends_64 words (Stopped status.ReadFault) answer o e h = absurd (omega (arith, e, h))
ends_64 words (Stopped status.Usage) answer o e h = o

no_bool : (b : Bool) → b ≡ true → b ≡ false → ⊥
no_bool b h g = let e : true ≡ false = sym h ∙ g in cc (e)

unread_64 : (words : List (List ℕ)) (s : State) (answer : ℕ) → is_reading words ≡ false → OfWords words s → EndsWith s answer → answer ≡ 64
unfolding OfWords
unread_64 words (Starts ws inputs) answer f o e = absurd e
unread_64 words (Opens p []) answer f o e = absurd (no_bool (is_reading words) o f)
unread_64 words (Opens p (i ∷ is)) answer f o e = absurd e
unread_64 words (Takes p file ks is) answer f o e = absurd e
unread_64 words (Stopped (status.Failed x)) answer f o e = absurd (no_bool (is_reading words) o f)
unread_64 words (Stopped status.Refused) answer f o e = absurd (no_bool (is_reading words) o f)
unread_64 words (Stopped status.ReadFault) answer f o e = absurd (no_bool (is_reading words) o f)
unread_64 words (Stopped status.Usage) answer f o e = e

ends_4 : (all : List Input) (s : State) (answer : ℕ) → OfFiles all s → EndsWith s answer → answer ≡ 4 → AnyFailed all
unfolding OfFiles NotOther
ends_4 all (Starts ws inputs) answer o e h = absurd e
ends_4 all (Opens p []) answer o e h = absurd ((other_first p.first).0 (sym e ∙ h))
ends_4 all (Opens p (i ∷ is)) answer o e h = absurd e
ends_4 all (Takes p file ks is) answer o e h = absurd e
ends_4 all (Stopped (status.Failed f)) answer o e h = absurd ((other_failure f).0 (sym e ∙ h))
ends_4 all (Stopped status.Refused) answer o e h = absurd (omega (arith, e, h))
ends_4 all (Stopped status.ReadFault) answer o e h = o
ends_4 all (Stopped status.Usage) answer o e h = absurd (omega (arith, e, h))

-- ---- files that failed
none_of : (is : List Input) → AreTaken is → AnyFailed is → ⊥
unfolding AnyFailed
none_of (i ∷ is) n (inl e) = subst IsTaken e n.0
none_of (i ∷ is) n (inr a) = none_of is n.1 a
none_of [] n a = a

not_failed : (bytes : List ℕ) (b : Bool) → cond b (Text bytes) Long ≡ Failed → ⊥
not_failed bytes true e = cc
not_failed bytes false e = cc

absent : (o : Option (List ℕ)) → given_text o ≡ Failed → o ≡ None
absent None e = refl
absent (Some bytes) e = absurd (not_failed bytes (nat_le (length bytes) LIMIT) e)

some_absent : (texts : Texts) (words : List (List ℕ)) → AnyFailed (map (input_of texts) words) → SomeAbsent texts words
unfolding AnyFailed
some_absent texts [] a = a
some_absent texts (w ∷ ws) (inl e) = inl (absent (text_of texts w) e)
some_absent texts (w ∷ ws) (inr a) = inr (some_absent texts ws a)

failed_told : (texts : Option Texts) (words : List (List ℕ)) (is : List Input) → AreInputs texts words is → AnyFailed is → IsSomeAnd texts (λ texts. SomeAbsent texts words)
failed_told None words is are a = absurd (none_of is are.1 a)
failed_told (Some texts) words is are a = some_absent texts words (subst AnyFailed are a)

read_fault_of : (words : List (List ℕ)) (before now : FilesSeen) (is : List Input) (rose : Bool) → nat_lt before.faults now.faults ≡ rose → AreInputs before.texts words is → AnyFailed (cond rose (fail_at is (now.place - 1)) is) → (before.faults < now.faults) ⊎ IsSomeAnd before.texts (λ texts. SomeAbsent texts words)
read_fault_of words before now is true e are a = inl (ltb-true before.faults now.faults e)
read_fault_of words before now is false e are a = inr (failed_told before.texts words is are a)

starts_words : (words : List (List ℕ)) (is : List Input) (s : State) (ps : List Piece) → Reaches (Starts words is) ps s → OfWords words s
unfolding OfWords
starts_words words is s ps r = reaches_words words (Starts words is) s ps r refl

starts_files : (words : List (List ℕ)) (is : List Input) (s : State) (ps : List Piece) → Reaches (Starts words is) ps s → OfFiles is s
unfolding OfFiles
starts_files words is s ps r = reaches_files is (Starts words is) s ps r (λ a. a)

usage_is : (words : List (List ℕ)) (before now : FilesSeen) (answer : ℕ) (a b : Sinks) → AnswersAny words before now answer a b → IsUsage words answer
usage_is words before now answer a b r =
    let of : OfWords words r.answers.to = starts_words words (gave before now r.inputs) r.answers.to r.answers.pieces r.answers.reaches in
    record {
      only = λ e. ends_64 words r.answers.to answer of (r.answers.ends (λ n. omega (arith, e, n)) (λ n. omega (arith, e, n))) e;
      always = λ h n m. unread_64 words r.answers.to answer h of (r.answers.ends n m);
    }

read_fault_is : (words : List (List ℕ)) (before now : FilesSeen) (answer : ℕ) (a b : Sinks) → AnswersAny words before now answer a b → IsReadFault words before now answer
read_fault_is words before now answer a b r =
    λ e. read_fault_of (file_words words) before now r.inputs (nat_lt before.faults now.faults) refl r.are
    (ends_4 (gave before now r.inputs) r.answers.to answer (starts_files words (gave before now r.inputs) r.answers.to r.answers.pieces r.answers.reaches) (r.answers.ends (λ n. omega (arith, e, n)) (λ n. omega (arith, e, n))) e)

pub causes : (words : List (List ℕ)) (before now : FilesSeen) (answer : ℕ) (a b : Sinks) → AnswersAny words before now answer a b → IsUsage words answer × IsReadFault words before now answer
causes words before now answer a b r = (usage_is words before now answer a b r, read_fault_is words before now answer a b r)
