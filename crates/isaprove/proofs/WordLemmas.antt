-- What the functions that run the words do, and what they answer.
use Rattle.std.proofs.Common.{◌≡◌, ℕ, ◌<◌, ◌≤◌, Bool, true, false, cond, List, [], ◌∷◌, length, map, refl, sym, ap, subst, ◌∙◌, inl, inr, arith}
use Rattle.std.specs.Prelude.{Some, None, Ok, Err, IfSome, IsErrAnd, nat_eq}
use Rattle.std.specs.declared.option.Option.{Option}
use Rattle.std.specs.declared.result.Result.{Result}
use Rattle.isa_io.specs.FilesSeen.{FilesSeen, Texts}
use Rattle.isaprove.specs.Shown.{Piece}
use Rattle.isaprove.specs.Run.{Input, State, Starts, Opens, Takes, Stopped, ReadWords, RefuseWords, Reaches, AreInputs, input_of, gave, file_words, is_reading, keeps_on, start, usage, tell, EndsWith, code_of, failure_code, first_code}
use Rattle.isaprove.specs.Sinks.{Sinks}
use Rattle.isaprove.specs.Sound.{AreSound}
use Rattle.isaprove.specs.Laws.{RunsAreSound}
use Rattle.isaprove.specs.Printed.{Rose, Answers}
use Rattle.isaprove.specs.Does.{NoFault, All, Passes, Leaves, StopsAt, StopsWith, Does, Ends, stop_code}
use Rattle.isaprove.specs.Inputs.{RunsFiles, RunsWords, OpensNoMore, AnswersAny}
use Rattle.isaprove.specs.declared.progress.Progress.{Progress}
use Rattle.isaprove.specs.declared.failure.Failure.{Failure}
use Rattle.isaprove.specs.declared.failure.Failure.TheVariants.{NoResult, Spent}
use Rattle.isaprove.specs.declared.status.Status.{Status}
use Rattle.isaprove.specs.declared.status.Status.TheVariants as status
use Rattle.isaprove.specs.declared.status.Stop.{Stop}
use Rattle.isaprove.specs.declared.status.Stop.TheVariants as stops
use Rattle.isaprove.proofs.Writing.{All-nothing}
use Rattle.isaprove.proofs.Passing.{passes_step, passes_then, leaves_quiet, stops_then, stops_does}
use Rattle.isaprove.proofs.InputLemmas.{some_inputs}

-- nothing was opened
opens_none : (words : List (List ℕ)) (now : FilesSeen) → now.opens ≡ 0 → OpensNoMore words now
opens_none words now e = record { named = omega (arith, e); unread = λ h. e }

-- a function that stops the run, whatever state it was to lead to
stops_ends : (s t : State) (r : Result ℕ Stop) (a b : Sinks) → ((x : ℕ) → r ≡ Ok x → ⊥) → Does s r t a b → Ends s r a b
stops_ends s t (Ok x) a b never d = absurd (never x refl)
stops_ends s t (Err e) a b never d = d

never_ok : (st : Status) (line : List ℕ) (r : Result ℕ Stop) (a b : Sinks) → StopsWith st line r a b → (x : ℕ) → r ≡ Ok x → ⊥
never_ok st line (Ok y) a b w x e = w
never_ok st line (Err s) a b w x e = cc (e)

-- words that have no reading
pub runs_usage : (words : List (List ℕ)) (before : FilesSeen) (r : Result ℕ Stop) (a b : Sinks) → is_reading words ≡ false → before.opens ≡ 0 → StopsWith status.Usage usage r a b → RunsWords words before before r a b
runs_usage words before r a b h o w =
    let some = some_inputs before.texts (file_words words) in
    let from : State = Starts words (gave before before some.0) in
    record {
      inputs = some.0;
      are = some.1;
      ends = stops_ends from (Stopped status.Usage) r a b (never_ok status.Usage usage r a b w) (stops_does from (Stopped status.Usage) status.Usage usage r a b (RefuseWords words (gave before before some.0) h) w);
      opens = opens_none words before o;
    }

ends_memory : (s : State) (r : Result ℕ Stop) (a : Sinks) → IsErrAnd r (λ e. e ≡ stops.Memory) → Ends s r a a
ends_memory s (Ok x) a h = absurd h
ends_memory s (Err e) a h = subst (λ (x : Stop). StopsAt s x a a) (sym h) (leaves_quiet s a a (All-nothing a))

-- nothing was run for want of memory
pub words_nothing : (words : List (List ℕ)) (before : FilesSeen) (r : Result ℕ Stop) (a : Sinks) → before.opens ≡ 0 → IsErrAnd r (λ e. e ≡ stops.Memory) → RunsWords words before before r a a
words_nothing words before r a o memory =
    let some = some_inputs before.texts (file_words words) in
    record {
      inputs = some.0;
      are = some.1;
      ends = ends_memory (Starts words (gave before before some.0)) r a memory;
      opens = opens_none words before o;
    }

-- words that have a reading: the files were run
opens_named : (words : List (List ℕ)) (now : FilesSeen) → is_reading words ≡ true → now.opens ≤ length (file_words words) → OpensNoMore words now
opens_named words now h o = record { named = o; unread = λ f. absurd (let both : true ≡ false = sym h ∙ f in cc (both)) }

at_start : (words : List (List ℕ)) (p : Progress) (is : List Input) (a : Sinks) → is_reading words ≡ true → p ≡ start (keeps_on words) → Passes (Starts words is) (Opens p is) a a
at_start words p is a h e =
    subst (λ (q : Progress). Passes (Starts words is) (Opens q is) a a) (sym e)
    (passes_step (Starts words is) (Opens (start (keeps_on words)) is) [] a a (ReadWords words is h) (All-nothing a))

pub words_stopped : {T : Type 0} (words names : List (List ℕ)) (before now : FilesSeen) (p later : Progress) (stop : Stop) (r : Result ℕ Stop) (a b : Sinks) → is_reading words ≡ true → p ≡ start (keeps_on words) → names ≡ file_words words → IsErrAnd r (λ e. e ≡ stop) → RunsFiles {T = T} names before now p (Err stop) later a b → RunsWords words before now r a b
words_stopped {T} words names before now p later stop (Ok x) a b h e n i f = absurd i
words_stopped {T} words names before now p later stop (Err s) a b h e n i f =
    let is : List Input = gave before now f.inputs in
    record {
      inputs = f.inputs;
      are = subst (λ (ws : List (List ℕ)). AreInputs before.texts ws f.inputs) n f.are;
      ends = subst (λ (x : Stop). StopsAt (Starts words is) x a b) (sym i) (stops_then (Starts words is) (Opens p is) stop a a b (at_start words p is a h e) f.does);
      opens = opens_named words now h (subst (λ (ws : List (List ℕ)). now.opens ≤ length ws) n f.opens);
    }

pub words_ended : {T : Type 0} (words names : List (List ℕ)) (before now : FilesSeen) (p later : Progress) (x : T) (code : ℕ) (a b : Sinks) → is_reading words ≡ true → p ≡ start (keeps_on words) → names ≡ file_words words → code ≡ first_code later.first → RunsFiles names before now p (Ok x) later a b → RunsWords words before now (Ok code) a b
words_ended {T} words names before now p later x code a b h e n c f =
    let is : List Input = gave before now f.inputs in
    record {
      inputs = f.inputs;
      are = subst (λ (ws : List (List ℕ)). AreInputs before.texts ws f.inputs) n f.are;
      ends = (record { to = Opens later []; passes = passes_then (Starts words is) (Opens p is) (Opens later []) a a b (at_start words p is a h e) f.does }, c);
      opens = opens_named words now h (subst (λ (ws : List (List ℕ)). now.opens ≤ length ws) n f.opens);
    }

-- ---- answers
not_rose : (a b : Sinks) → NoFault a b → Rose a b → ⊥
not_rose a b calm (inl rose) = omega (arith, calm.out, rose)
not_rose a b calm (inr rose) = omega (arith, calm.err, rose)

-- the run went to its end
answers_whole : (from : State) (answer : ℕ) (a b : Sinks) (l : Leaves from a b) → AreSound l.passes.pieces → (answer ≡ 5 → ⊥) → EndsWith l.to answer → Answers from answer a b
answers_whole from answer a b l sound not_5 ends =
    record {
      pieces = l.passes.pieces;
      to = l.to;
      reaches = l.passes.reaches;
      sound = sound;
      write_fault = ((λ e. absurd (not_5 e)), (λ r. absurd (not_rose a b l.passes.all.no_fault r)));
      cut = λ e. absurd (not_5 e);
      whole = λ n. l.passes.all.writes;
      ends = λ n m. ends;
    }

-- the numbers that tell how a run ended are not 5
NotFive : ℕ → Type 0
NotFive n = n ≡ 5 → ⊥

five_test : (b : Bool) → NotFive (cond b 1 7)
unfolding NotFive
five_test true = λ e. omega arith
five_test false = λ e. omega arith

five_failure : (f : Failure) → NotFive (failure_code f)
unfolding NotFive
five_failure (NoResult outside) = five_test (nat_eq outside 0)
five_failure (Spent budget) = λ e. omega arith

five_status : (s : Status) → NotFive (code_of s)
unfolding NotFive
five_status (status.Failed f) = five_failure f
five_status status.Refused = λ e. omega arith
five_status status.ReadFault = λ e. omega arith
five_status status.Usage = λ e. omega arith

five_first : (o : Option Failure) → NotFive (first_code o)
unfolding NotFive
five_first None = λ e. omega arith
five_first (Some f) = five_failure f

five_end : (s : State) (n : ℕ) → EndsWith s n → NotFive n
five_end (Starts words inputs) n e = absurd e
five_end (Opens p []) n e = subst NotFive (sym e) (five_first p.first)
five_end (Opens p (i ∷ is)) n e = absurd e
five_end (Takes p file ks is) n e = absurd e
five_end (Stopped s) n e = subst NotFive (sym e) (five_status s)

answers_ended : (from : State) (code : ℕ) (a b : Sinks) → ((pieces : List Piece) (to : State) → Reaches from pieces to → AreSound pieces) → Ends from (Ok code) a b → Answers from code a b
unfolding NotFive
answers_ended from code a b sound d = answers_whole from code a b d.0 (sound d.0.passes.pieces d.0.to d.0.passes.reaches) (five_end d.0.to code d.1) d.1

answers_stopped : (from : State) (stop : Stop) (a b : Sinks) → ((pieces : List Piece) (to : State) → Reaches from pieces to → AreSound pieces) → StopsAt from stop a b → Answers from (stop_code stop) a b
unfolding NotFive
answers_stopped from (stops.Ended s) a b sound d = answers_whole from (code_of s) a b (record { to = Stopped s; passes = d }) (sound d.pieces (Stopped s) d.reaches) (five_status s) refl
answers_stopped from stops.Memory a b sound d =
    record {
      pieces = d.passes.pieces;
      to = d.to;
      reaches = d.passes.reaches;
      sound = sound d.passes.pieces d.to d.passes.reaches;
      write_fault = ((λ e. absurd (omega (arith, e))), (λ r. absurd (not_rose a b d.passes.all.no_fault r)));
      cut = λ e. absurd (omega (arith, e));
      whole = λ n. d.passes.all.writes;
      ends = λ n m. absurd (m refl);
    }
answers_stopped from stops.Write a b sound d =
    record {
      pieces = d.pieces;
      to = d.to;
      reaches = d.reaches;
      sound = sound d.pieces d.to d.reaches;
      write_fault = ((λ e. d.cut.rose), (λ r. refl));
      cut = λ e. d.cut;
      whole = λ n. absurd (n refl);
      ends = λ n m. absurd (n refl);
    }

-- whatever the files gave
pub any_ended : (words : List (List ℕ)) (before now : FilesSeen) (code : ℕ) (a b : Sinks) → RunsAreSound → RunsWords words before now (Ok code) a b → AnswersAny words before now code a b
any_ended words before now code a b sound r =
    record { inputs = r.inputs; are = r.are; answers = answers_ended (Starts words (gave before now r.inputs)) code a b (sound words (gave before now r.inputs)) r.ends }

pub any_stopped : (words : List (List ℕ)) (before now : FilesSeen) (stop : Stop) (answer : ℕ) (a b : Sinks) → RunsAreSound → RunsWords words before now (Err stop) a b → answer ≡ stop_code stop → AnswersAny words before now answer a b
any_stopped words before now stop answer a b sound r e =
    record {
      inputs = r.inputs;
      are = r.are;
      answers = subst (λ (n : ℕ). Answers (Starts words (gave before now r.inputs)) n a b) (sym e) (answers_stopped (Starts words (gave before now r.inputs)) stop a b (sound words (gave before now r.inputs)) r.ends);
    }

-- over files that tell their texts
told_of : (texts : Option Texts) (names : List (List ℕ)) (inputs : List Input) (P : List Input → Type 0) → AreInputs texts names inputs → P inputs → IfSome texts (λ told. P (map (input_of told) names))
told_of None names inputs P are p = tt
told_of (Some told) names inputs P are p = subst P are p

pub any_told : (words : List (List ℕ)) (before now : FilesSeen) (answer : ℕ) (a b : Sinks) → AnswersAny words before now answer a b → IfSome before.texts (λ told. Answers (Starts words (gave before now (map (input_of told) (file_words words)))) answer a b)
any_told words before now answer a b r =
    told_of before.texts (file_words words) r.inputs (λ inputs. Answers (Starts words (gave before now inputs)) answer a b) r.are r.answers
