-- What the files gave for the words.
use Rattle.std.proofs.Common.{◌≡◌, ℕ, ◌<◌, ◌≤◌, cond, List, [], ◌∷◌, length, refl, sym, ap, subst, ◌∙◌, inl, inr, arith, le-ltb, lt-ltb, le-leb}
use Rattle.std.proofs.lemmas.Bool.{lt-leb}
use Rattle.std.specs.Prelude.{String, string_bytes}
use Rattle.std.specs.declared.alloc.Global.{Global}
use Rattle.std.specs.Prelude.{Some, None, Ok, Err, IfSome, IsSomeAnd, IsErrAnd, IfOk, MatchOption, nat_lt}
use Rattle.std.specs.declared.option.Option.{Option}
use Rattle.std.specs.declared.result.Result.{Result}
use Rattle.isa_io.specs.FilesSeen.{FilesSeen, NoFault, text_of, Texts}
use Rattle.isa_io.specs.FileRead.{IsWhole, FailsToRead}
use Rattle.isa_io.specs.declared.reading.ReadFail.TheVariants as fails
use Rattle.isa_cert.specs.declared.certs.Accepted.{Accepted}
use Rattle.isa_cert.specs.Checking.{Refusal, checked, AreProved}
use Rattle.isa_cert.proofs.Proved.{accepted_are_proved}
use Rattle.isa_check.specs.Run.{Given, Text, Long, Failed, Run, run_given, usage, names}
use Rattle.isa_check.specs.Given.{IsGiven, IsNoFailure, given_of, given_text, limit, ProvesWhatItAccepts, RunsFile, RunsWords, AnswersWords}
use Rattle.isa_check.specs.Written.{Sinks, Answers}
use Rattle.isa_check.specs.Does.{Does, StopsAt, stop_code}
use Rattle.isa_check.specs.declared.status.Stop.{Stop}
use Rattle.isa_check.specs.declared.status.Stop.TheVariants as stops
use Rattle.isa_check.proofs.Printing.{memory_does, answers_passed, answers_stopped}

given_within : (text : Option (List ℕ)) (bytes : List ℕ) → text ≡ Some bytes → length bytes ≤ limit → given_text text ≡ Text bytes
given_within text bytes e h = ap given_text e ∙ ap (λ b. cond b (Text bytes) Long) (le-leb (length bytes) limit h)

given_long : (text : Option (List ℕ)) → IsSomeAnd text (λ bytes. limit < length bytes) → given_text text ≡ Long
given_long None h = absurd h
given_long (Some bytes) h = ap (λ b. cond b (Text bytes) Long) (lt-leb (length bytes) limit h)

unchanged : (before now : FilesSeen) (given : Given) → NoFault before now → cond (nat_lt before.faults now.faults) Failed given ≡ given
unchanged before now given h = ap (λ b. cond b Failed given) (le-ltb before.faults now.faults (omega (arith, h.faults)))

told_whole : (texts : Option Texts) (name bytes : List ℕ) → IfSome texts (λ ts. text_of ts name ≡ Some bytes) → length bytes ≤ limit → MatchOption texts (IsNoFailure (Text bytes)) (λ ts. Text bytes ≡ given_of ts name)
told_whole None name bytes p h = h
told_whole (Some ts) name bytes p h = sym (given_within (text_of ts name) bytes p h)

pub read_whole : (before now : FilesSeen) (name bytes : List ℕ) → IsWhole name limit before now bytes → IsGiven before now name (Text bytes)
read_whole before now name bytes w =
    record { input = Text bytes; told = told_whole before.texts name bytes w.told w.within; is = unchanged before now (Text bytes) w.no_fault }

told_long : (texts : Option Texts) (name : List ℕ) → IfSome texts (λ ts. IsSomeAnd (text_of ts name) (λ bytes. limit < length bytes)) → MatchOption texts (IsNoFailure Long) (λ ts. Long ≡ given_of ts name)
told_long None name p = tt
told_long (Some ts) name p = sym (given_long (text_of ts name) p)

pub read_long : (before now : FilesSeen) (name : List ℕ) → FailsToRead name limit before now fails.TooLong → IsGiven before now name Long
read_long before now name f = record { input = Long; told = told_long before.texts name f.2; is = unchanged before now Long f.0 }

-- there is an input for each name
some_input : (texts : Option Texts) (name : List ℕ) → (input : Given) × MatchOption texts (IsNoFailure input) (λ ts. input ≡ given_of ts name)
some_input None name = (Long, tt)
some_input (Some ts) name = (given_of ts name, refl)

told_absent : (texts : Option Texts) (name : List ℕ) → IsSomeAnd texts (λ ts. text_of ts name ≡ None) → MatchOption texts (IsNoFailure Failed) (λ ts. Failed ≡ given_of ts name)
told_absent None name p = absurd p
told_absent (Some ts) name p = ap given_text (sym p)

pub read_failed : (before now : FilesSeen) (name : List ℕ) → FailsToRead name limit before now fails.Failed → IsGiven before now name Failed
read_failed before now name (inl fault) =
    let some = some_input before.texts name in
    record { input = some.0; told = some.1; is = ap (λ b. cond b Failed some.0) (lt-ltb before.faults now.faults fault.rose) }
read_failed before now name (inr absent) =
    record { input = Failed; told = told_absent before.texts name absent.1; is = unchanged before now Failed absent.0 }

-- nothing was read for want of memory
pub runs_nothing : {T : Type 0} (word : List ℕ) (before now : FilesSeen) (result : Result T Stop) (s : Stop) (a : Sinks) → IsErrAnd result (λ e. e ≡ s) → s ≡ stops.Memory → RunsFile word before now result a a
runs_nothing {T} word before now result s a h m =
    let some = some_input before.texts word in
    let given : Given = cond (nat_lt before.faults now.faults) Failed some.0 in
    let memory : IsErrAnd result (λ e. e ≡ stops.Memory) = subst (λ (s : Stop). IsErrAnd result (λ e. e ≡ s)) m h in
    record { given = given; is_given = record { input = some.0; told = some.1; is = refl }; does = memory_does (run_given word given) result a memory }

-- ---- words
abbrev Words : Type 0
Words = List (String Global)

pub words_none : {T : Type 0} (words : Words) (before now : FilesSeen) (r : Result T Stop) (a b : Sinks) → words ≡ [] → Does usage r a b → RunsWords (names words) before now r a b
words_none {T} words before now r a b h d = subst (λ (ws : Words). RunsWords (names ws) before now r a b) (sym h) d

two_words : {T : Type 0} (word : String Global) (rest : Words) (before now : FilesSeen) (r : Result T Stop) (a b : Sinks) → 0 < length rest → Does usage r a b → RunsWords (names (word ∷ rest)) before now r a b
two_words {T} word [] before now r a b h d = absurd (omega arith)
two_words {T} word (next ∷ rest) before now r a b h d = d

pub words_two : {T : Type 0} (words : Words) (word : String Global) (rest : Words) (before now : FilesSeen) (r : Result T Stop) (a b : Sinks) → words ≡ word ∷ rest → 0 < length rest → Does usage r a b → RunsWords (names words) before now r a b
words_two {T} words word rest before now r a b h k d = subst (λ (ws : Words). RunsWords (names ws) before now r a b) (sym h) (two_words word rest before now r a b k d)

none_left : (words : Words) → length words ≡ 0 → words ≡ []
none_left [] h = refl
none_left (word ∷ words) h = absurd (omega arith)

words_one : {T : Type 0} (words : Words) (word : String Global) (rest : Words) (before now : FilesSeen) (r : Result T Stop) (a b : Sinks) → words ≡ word ∷ rest → length rest ≡ 0 → RunsFile (string_bytes word) before now r a b → RunsWords (names words) before now r a b
words_one {T} words word rest before now r a b h k d = subst (λ (ws : Words). RunsWords (names ws) before now r a b) (sym (h ∙ ap (λ (ws : Words). word ∷ ws) (none_left rest k))) d

pub words_file : {T : Type 0} (words : Words) (word : String Global) (rest : Words) (name : List ℕ) (given : Given) (before now : FilesSeen) (r : Result T Stop) (a b : Sinks) → words ≡ word ∷ rest → length rest ≡ 0 → name ≡ string_bytes word → IsGiven before now name given → Does (run_given name given) r a b → RunsWords (names words) before now r a b
words_file {T} words word rest name given before now r a b h k n i d =
    words_one words word rest before now r a b h k (subst (λ (x : List ℕ). RunsFile x before now r a b) n (record { given = given; is_given = i; does = d }))

pub words_memory : {T : Type 0} (words : Words) (word : String Global) (rest : Words) (before now : FilesSeen) (r : Result T Stop) (s : Stop) (a : Sinks) → words ≡ word ∷ rest → length rest ≡ 0 → IsErrAnd r (λ e. e ≡ s) → s ≡ stops.Memory → RunsWords (names words) before now r a a
words_memory {T} words word rest before now r s a h k e m = words_one words word rest before now r a a h k (runs_nothing (string_bytes word) before now r s a e m)

-- ---- the answer
checked_proved : (text : List ℕ) (w : Result (List Accepted) Refusal) → checked text ≡ w → IfOk w (λ list. AreProved list)
checked_proved text (Ok list) h = accepted_are_proved text list h
checked_proved text (Err refusal) h = tt

given_proved : (given : Given) → ProvesWhatItAccepts given
given_proved (Text bytes) = checked_proved bytes (checked bytes) refl
given_proved Long = tt
given_proved Failed = tt

answers_does : {T : Type 0} (run : Run) (r : Result T Stop) (answer : ℕ) (a b : Sinks) → ((x : T) → r ≡ Ok x → answer ≡ 0) → ((s : Stop) → r ≡ Err s → answer ≡ stop_code s) → Does run r a b → Answers run answer a b
answers_does {T} run (Ok x) answer a b p q d = subst (λ (n : ℕ). Answers run n a b) (sym (p x refl)) (answers_passed run a b d.0 d.1)
answers_does {T} run (Err s) answer a b p q d = subst (λ (n : ℕ). Answers run n a b) (sym (q s refl)) (answers_stopped run s a b d)

answers_words : {T : Type 0} (words : List (List ℕ)) (before now : FilesSeen) (r : Result T Stop) (answer : ℕ) (a b : Sinks) → ((x : T) → r ≡ Ok x → answer ≡ 0) → ((s : Stop) → r ≡ Err s → answer ≡ stop_code s) → RunsWords words before now r a b → AnswersWords words before now answer a b
answers_words {T} [] before now r answer a b p q d = answers_does usage r answer a b p q d
answers_words {T} (word ∷ []) before now r answer a b p q d = record { given = d.given; is_given = d.is_given; answers = answers_does (run_given word d.given) r answer a b p q d.does; proved = given_proved d.given }
answers_words {T} (word ∷ next ∷ words) before now r answer a b p q d = answers_does usage r answer a b p q d

pub words_passed : {T : Type 0} (words : List (List ℕ)) (before now : FilesSeen) (x : T) (a b : Sinks) → RunsWords words before now (Ok x) a b → AnswersWords words before now 0 a b
words_passed {T} words before now x a b d = answers_words {T = T} words before now (Ok x) 0 a b (λ y e. refl) (λ s e. cc) d

pub words_stopped : (T : Type 0) (words : List (List ℕ)) (before now : FilesSeen) (s : Stop) (answer : ℕ) (a b : Sinks) → answer ≡ stop_code s → RunsWords {T = T} words before now (Err s) a b → AnswersWords words before now answer a b
words_stopped T words before now s answer a b h d = answers_words {T = T} words before now (Err s) answer a b (λ y e. cc) (λ t e. let same : s ≡ t = cc in h ∙ ap stop_code same) d
