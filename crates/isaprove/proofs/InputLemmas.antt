-- What files give for names.
use Rattle.std.proofs.Common.{◌≡◌, ℕ, ◌+◌, ◌-◌, ◌<◌, ◌≤◌, Bool, true, false, cond, List, [], ◌∷◌, ◌++◌, length, map, take, drop, get_or, refl, sym, ap, subst, ◌∙◌, inl, inr, arith, le-ltb, lt-ltb, le-leb, ltb-true, ltb-false, append_assoc, append-nil, length-append}
use Rattle.std.proofs.lemmas.Bool.{lt-leb}
use Rattle.std.proofs.Math.ListN.{drop_of_length-le}
use Rattle.std.proofs.lemmas.List.{get_or-map, length-map, map-append, take_more, take-append-drop, drop_more}
use Rattle.std.specs.Prelude.{String, string_bytes, Some, None, Ok, Err, IfSome, IsSomeAnd, IsErrAnd, nat_lt, nat_eq}
use Rattle.std.specs.declared.alloc.Global.{Global}
use Rattle.std.specs.declared.option.Option.{Option}
use Rattle.std.specs.declared.result.Result.{Result}
use Rattle.isa_io.specs.FilesSeen.{FilesSeen, NoFault, text_of, Texts}
use Rattle.isa_io.specs.FileRead.{IsWhole, FailsToRead}
use Rattle.isa_io.specs.declared.reading.ReadFail.TheVariants as fails
use Rattle.isaprove.specs.Shown.{Piece}
use Rattle.isaprove.specs.Run.{Given, Text, Long, Failed, Input, State, Starts, Opens, Takes, Stopped, Step, ReadWords, RefuseWords, OpenFile, RefuseText, RefuseLength, FailToRead, SkipCommand, TakeCommand, CloseFile, RefuseEnd, Reaches, Stays, Goes, AreInputs, given_text, input_of, fail_at, gave, AreTaken, names}
use Rattle.isaprove.specs.Sinks.{Sinks}
use Rattle.isaprove.specs.Inputs.{IsReading, RunsFile, RunsFiles, given_in}
use Rattle.isaprove.specs.Does.{NoFault as NoWriteFault, Passes, StopsAt, Does, DoesFile}
use Rattle.isaprove.specs.declared.files.TheConstants.{LIMIT}
use Rattle.isaprove.specs.declared.progress.Progress.{Progress}
use Rattle.isaprove.specs.declared.status.Stop.{Stop}
use Rattle.isaprove.specs.declared.status.Stop.TheVariants as stops
use Rattle.isaprove.proofs.Passing.{passes_stay, passes_then, returns_stop, stops_then}
use Rattle.isaprove.proofs.Turning.{text_memory}

given_within : (text : Option (List ℕ)) (bytes : List ℕ) → text ≡ Some bytes → length bytes ≤ LIMIT → given_text text ≡ Text bytes
given_within text bytes e h = ap given_text e ∙ ap (λ b. cond b (Text bytes) Long) (le-leb (length bytes) LIMIT h)

given_long : (text : Option (List ℕ)) → IsSomeAnd text (λ bytes. LIMIT < length bytes) → given_text text ≡ Long
given_long None h = absurd h
given_long (Some bytes) h = ap (λ b. cond b (Text bytes) Long) (lt-leb (length bytes) LIMIT h)

unchanged : (before now : FilesSeen) (given : Given) → NoFault before now → given_in before now given ≡ given
unchanged before now given h = ap (λ b. cond b Failed given) (le-ltb before.faults now.faults (omega (arith, h.faults)))

are_within : (texts : Option Texts) (name bytes : List ℕ) → IfSome texts (λ ts. text_of ts name ≡ Some bytes) → length bytes ≤ LIMIT → AreInputs texts (name ∷ []) (record { name = name; given = Text bytes } ∷ [])
are_within None name bytes p h = (refl, (h, tt))
are_within (Some ts) name bytes p h = ap (λ (g : Given). let i : Input = record { name = name; given = g } in i ∷ []) (sym (given_within (text_of ts name) bytes p h))

pub read_whole : (before now : FilesSeen) (name bytes : List ℕ) → IsWhole name LIMIT before now bytes → IsReading before now name (Text bytes)
read_whole before now name bytes w =
    record {
      planned = Text bytes;
      are = are_within before.texts name bytes w.told w.within;
      given_now = unchanged before now (Text bytes) w.no_fault;
      counts = omega (arith, w.no_fault.faults);
      placed = λ h. absurd (omega (arith, h, w.no_fault.faults));
    }

are_long : (texts : Option Texts) (name : List ℕ) → IfSome texts (λ ts. IsSomeAnd (text_of ts name) (λ bytes. LIMIT < length bytes)) → AreInputs texts (name ∷ []) (record { name = name; given = Long } ∷ [])
are_long None name p = (refl, (tt, tt))
are_long (Some ts) name p = ap (λ (g : Given). let i : Input = record { name = name; given = g } in i ∷ []) (sym (given_long (text_of ts name) p))

pub read_long : (before now : FilesSeen) (name : List ℕ) → FailsToRead name LIMIT before now fails.TooLong → IsReading before now name Long
read_long before now name f =
    record {
      planned = Long;
      are = are_long before.texts name f.2;
      given_now = unchanged before now Long f.0;
      counts = omega (arith, f.0.faults);
      placed = λ h. absurd (omega (arith, h, f.0.faults));
    }

-- something is given for each name
some_given : (texts : Option Texts) (name : List ℕ) → (given : Given) × AreInputs texts (name ∷ []) (record { name = name; given = given } ∷ [])
some_given None name = (Long, (refl, (tt, tt)))
some_given (Some ts) name = (given_text (text_of ts name), refl)

are_absent : (texts : Option Texts) (name : List ℕ) → IsSomeAnd texts (λ ts. text_of ts name ≡ None) → AreInputs texts (name ∷ []) (record { name = name; given = Failed } ∷ [])
are_absent None name p = absurd p
are_absent (Some ts) name p = ap (λ (text : Option (List ℕ)). let i : Input = record { name = name; given = given_text text } in i ∷ []) (sym p)

pub read_failed : (before now : FilesSeen) (name : List ℕ) → FailsToRead name LIMIT before now fails.Failed → IsReading before now name Failed
read_failed before now name (inl fault) =
    let some = some_given before.texts name in
    record {
      planned = some.0;
      are = some.1;
      given_now = ap (λ b. cond b Failed some.0) (lt-ltb before.faults now.faults fault.rose);
      counts = omega (arith, fault.rose);
      placed = λ h. fault.place;
    }
read_failed before now name (inr absent) =
    record {
      planned = Failed;
      are = are_absent before.texts name absent.1;
      given_now = unchanged before now Failed absent.0;
      counts = omega (arith, absent.0.faults);
      placed = λ h. absurd (omega (arith, h, absent.0.faults));
    }

-- what was read was run
pub runs_reading : {T : Type 0} (name : List ℕ) (before now : FilesSeen) (given : Given) (p q : Progress) (r : Result T Stop) (a b : Sinks) → IsReading before now name given → DoesFile name p given r q a b → RunsFile name before now p r q a b
runs_reading {T} name before now given p q r a b is d =
    record {
      planned = is.planned;
      are = is.are;
      does = subst (λ (g : Given). DoesFile name p g r q a b) (sym is.given_now) d;
      counts = is.counts;
      placed = is.placed;
    }

-- nothing was run for want of memory
pub runs_nothing : {T : Type 0} (name : List ℕ) (before now : FilesSeen) (p q : Progress) (r : Result T Stop) (stop : Stop) (a : Sinks) → IsErrAnd r (λ e. e ≡ stop) → stop ≡ stops.Memory → NoFault before now → RunsFile name before now p r q a a
runs_nothing {T} name before now p q r stop a h m f =
    let some = some_given before.texts name in
    let memory : IsErrAnd r (λ e. e ≡ stops.Memory) = subst (λ (s : Stop). IsErrAnd r (λ e. e ≡ s)) m h in
    record {
      planned = some.0;
      are = some.1;
      does = text_memory name (given_in before now some.0) p q r a memory;
      counts = omega (arith, f.faults);
      placed = λ h. absurd (omega (arith, h, f.faults));
    }

AreTaken-append : (xs ys : List Input) → AreTaken xs → AreTaken ys → AreTaken (xs ++ ys)
AreTaken-append [] ys p q = q
AreTaken-append (x ∷ xs) ys p q = (p.0, AreTaken-append xs ys p.1 q)

are-append : (texts : Option Texts) (vs ws : List (List ℕ)) (xs ys : List Input) → AreInputs texts vs xs → AreInputs texts ws ys → AreInputs texts (vs ++ ws) (xs ++ ys)
are-append None vs ws xs ys p q =
    (map-append (λ (i : Input). i.name) xs ys ∙ ap (λ l. l ++ map (λ (i : Input). i.name) ys) p.0 ∙ ap (λ l. vs ++ l) q.0, AreTaken-append xs ys p.1 q.1)
are-append (Some ts) vs ws xs ys p q =
    ap (λ l. l ++ ys) p ∙ ap (λ l. map (input_of ts) vs ++ l) q ∙ sym (map-append (input_of ts) vs ws)

abbrev long_input : List ℕ → Input
long_input name = record { name = name; given = Long }

names_long : (words : List (List ℕ)) → map (λ (i : Input). i.name) (map long_input words) ≡ words
names_long [] = refl
names_long (w ∷ ws) = ap (λ l. w ∷ l) (names_long ws)

none_long : (words : List (List ℕ)) → AreTaken (map long_input words)
none_long [] = tt
none_long (w ∷ ws) = (tt, none_long ws)

-- there are inputs for all words
pub some_inputs : (texts : Option Texts) (words : List (List ℕ)) → (inputs : List Input) × AreInputs texts words inputs
some_inputs None words = (map long_input words, (names_long words, none_long words))
some_inputs (Some ts) words = (map (input_of ts) words, refl)

-- the files before index i of the words were run
pub record FilesSoFar (words : List (List ℕ)) (before now : FilesSeen) (i : ℕ) (p q : Progress) (sinks_before sinks_now : Sinks) : Type 0 where
  pub inputs : List Input
  pub are : AreInputs before.texts (take i words) inputs
  pub count : length inputs ≡ i
  pub faults : now.faults ≡ before.faults
  pub opens : now.opens ≡ i
  pub texts : now.texts ≡ before.texts
  pub calm : NoWriteFault sinks_before sinks_now
  pub runs : (more : List Input) → Passes (Opens p (inputs ++ more)) (Opens q more) sinks_before sinks_now

no_words : (texts : Option Texts) → AreInputs texts [] []
no_words None = (refl, tt)
no_words (Some ts) = refl

pub files_begin : (words : List (List ℕ)) (before : FilesSeen) (p : Progress) (a : Sinks) → before.opens ≡ 0 → FilesSoFar words before before 0 p p a a
files_begin words before p a h =
    record {
      inputs = [];
      are = no_words before.texts;
      count = refl;
      faults = refl;
      opens = h;
      texts = refl;
      calm = record { out = refl; err = refl };
      runs = λ more. passes_stay (Opens p more) a;
    }

-- ---- a file that failed is not passed
-- a file that failed is opened next, or the run has stopped
Faulty : State → Type 0
Faulty (Starts words inputs) = ⊥
Faulty (Opens p []) = ⊥
Faulty (Opens p (input ∷ inputs)) = input.given ≡ Failed
Faulty (Takes p file ks inputs) = ⊥
Faulty (Stopped s) = Unit {0}

faulty_step : (s t : State) (ps : List Piece) → Step s ps t → Faulty s → Faulty t
unfolding Faulty
faulty_step _ _ _ (ReadWords words inputs h) f = absurd f
faulty_step _ _ _ (RefuseWords words inputs h) f = absurd f
faulty_step _ _ _ (OpenFile p input inputs bytes ks g h) f = absurd (let same : Failed ≡ Text bytes = sym f ∙ g in cc (same))
faulty_step _ _ _ (RefuseText p input inputs bytes r g h) f = tt
faulty_step _ _ _ (RefuseLength p input inputs g) f = tt
faulty_step _ _ _ (FailToRead p input inputs g) f = tt
faulty_step _ _ _ (SkipCommand p file k ks inputs h) f = absurd f
faulty_step _ _ _ (TakeCommand p file k ks inputs r turn h c e) f = absurd f
faulty_step _ _ _ (CloseFile p file inputs h) f = absurd f
faulty_step _ _ _ (RefuseEnd p file inputs l h) f = absurd f

faulty_reaches : (s t : State) (ps : List Piece) → Reaches s ps t → Faulty s → Faulty t
faulty_reaches _ _ _ (Stays s) f = f
faulty_reaches _ _ _ (Goes s t u ps qs d e) f = faulty_reaches t u qs e (faulty_step s t ps d f)

passed_given : (p q : Progress) (name : List ℕ) (given : Given) (a b : Sinks) (rose : Bool) → DoesFile {T = Unit {0}} name p (cond rose Failed given) (Ok tt) q a b → rose ≡ false
unfolding Faulty
passed_given p q name given a b true d = let w = d [] in absurd (faulty_reaches (Opens p (record { name = name; given = Failed } ∷ [])) (Opens q []) w.pieces w.reaches refl)
passed_given p q name given a b false d = refl

-- the pieces of a file that was passed came without a fault
passed_calm : (p q : Progress) (name : List ℕ) (given : Given) (a b : Sinks) → DoesFile {T = Unit {0}} name p given (Ok tt) q a b → NoWriteFault a b
passed_calm p q name given a b d = (d []).all.no_fault

pub files_passed : (words : List (List ℕ)) (before now then : FilesSeen) (i : ℕ) (d : List ℕ) (p q t : Progress) (a b c : Sinks) (name : List ℕ) → i < length words → name ≡ get_or words i d → FilesSoFar words before now i p q a b → RunsFile {T = Unit {0}} name now then q (Ok tt) t b c → then.opens ≡ now.opens + 1 → then.texts ≡ now.texts → FilesSoFar words before then (i + 1) p t a c
files_passed words before now then i d p q t a b c name h named so ran opens texts =
    let given : Given = ran.planned in
    let input : Input = record { name = name; given = given } in
    let calm : nat_lt now.faults then.faults ≡ false = passed_given q t name given b c (nat_lt now.faults then.faults) ran.does in
    let does : DoesFile {T = Unit {0}} name q given (Ok tt) t b c = subst (λ (r : Bool). DoesFile {T = Unit {0}} name q (cond r Failed given) (Ok tt) t b c) calm ran.does in
    let quiet : NoWriteFault b c = passed_calm q t name given b c does in
    let told : AreInputs before.texts (get_or words i d ∷ []) (input ∷ []) = subst (λ (x : Option Texts). AreInputs x (get_or words i d ∷ []) (input ∷ [])) so.texts (subst (λ (w : List ℕ). AreInputs now.texts (w ∷ []) (input ∷ [])) named ran.are) in
    record {
      inputs = so.inputs ++ input ∷ [];
      are = subst (λ (ws : List (List ℕ)). AreInputs before.texts ws (so.inputs ++ input ∷ [])) (sym (take_more words i d h)) (are-append before.texts (take i words) (get_or words i d ∷ []) so.inputs (input ∷ []) so.are told);
      count = omega (arith, so.count, length-append so.inputs (input ∷ []));
      faults = omega (arith, so.faults, ran.counts, ltb-false now.faults then.faults calm);
      opens = omega (arith, so.opens, opens);
      texts = texts ∙ so.texts;
      calm = record { out = quiet.out ∙ so.calm.out; err = quiet.err ∙ so.calm.err };
      runs = λ more.
          subst (λ (is : List Input). Passes (Opens p is) (Opens t more) a c) (sym (append_assoc so.inputs (input ∷ []) more))
          (passes_then (Opens p (so.inputs ++ input ∷ more)) (Opens q (input ∷ more)) (Opens t more) a b c (so.runs (input ∷ more)) (does more));
    }

fail_at-append : (xs ys : List Input) (y : Input) → fail_at (xs ++ y ∷ ys) (length xs) ≡ xs ++ record y { given = Failed } ∷ ys
fail_at-append [] ys y = refl
fail_at-append (x ∷ xs) ys y = ap (λ l. x ∷ l) (fail_at-append xs ys y)

-- what was given, where only the input at the latest open may have failed
gave_at : (before now : FilesSeen) (xs ys : List Input) (y : Input) (rose : Bool) → nat_lt before.faults now.faults ≡ rose → (before.faults < now.faults → now.place ≡ length xs + 1) → gave before now (xs ++ y ∷ ys) ≡ xs ++ record { name = y.name; given = cond rose Failed y.given } ∷ ys
gave_at before now xs ys y true e placed =
    ap (λ b. cond b (fail_at (xs ++ y ∷ ys) (now.place - 1)) (xs ++ y ∷ ys)) e
    ∙ ap (λ i. fail_at (xs ++ y ∷ ys) i) (omega (arith, placed (ltb-true before.faults now.faults e)))
    ∙ fail_at-append xs ys y
gave_at before now xs ys y false e placed = ap (λ b. cond b (fail_at (xs ++ y ∷ ys) (now.place - 1)) (xs ++ y ∷ ys)) e

pub files_stopped : {T : Type 0} (words : List (List ℕ)) (before now then : FilesSeen) (i : ℕ) (d : List ℕ) (p q t last : Progress) (result : Result T Stop) (stop : Stop) (a b c : Sinks) (name : List ℕ) → i < length words → name ≡ get_or words i d → FilesSoFar words before now i p q a b → RunsFile {T = Unit {0}} name now then q (Err stop) t b c → then.opens ≡ now.opens + 1 → IsErrAnd result (λ e. e ≡ stop) → RunsFiles words before then p result last a c
files_stopped {T} words before now then i d p q t last result stop a b c name h named so ran opens err =
    let more = some_inputs before.texts (drop (i + 1) words) in
    let input : Input = record { name = name; given = ran.planned } in
    let gives : Input = record { name = name; given = given_in now then ran.planned } in
    let told : AreInputs before.texts (get_or words i d ∷ []) (input ∷ []) = subst (λ (x : Option Texts). AreInputs x (get_or words i d ∷ []) (input ∷ [])) so.texts (subst (λ (w : List ℕ). AreInputs now.texts (w ∷ []) (input ∷ [])) named ran.are) in
    let whole : words ≡ take i words ++ get_or words i d ∷ drop (i + 1) words = sym (take-append-drop i words) ∙ ap (λ ws. take i words ++ ws) (drop_more words i d h) in
    let same : gave before then (so.inputs ++ input ∷ more.0) ≡ so.inputs ++ gives ∷ more.0 = gave_at before then so.inputs more.0 input (nat_lt now.faults then.faults) (ap (λ f. nat_lt f then.faults) (sym so.faults)) (λ rose. omega (arith, ran.placed (omega (arith, rose, so.faults)), opens, so.opens, so.count)) in
    record {
      inputs = so.inputs ++ input ∷ more.0;
      are = subst (λ (ws : List (List ℕ)). AreInputs before.texts ws (so.inputs ++ input ∷ more.0)) (sym whole) (are-append before.texts (take i words) (get_or words i d ∷ drop (i + 1) words) so.inputs (input ∷ more.0) so.are (are-append before.texts (get_or words i d ∷ []) (drop (i + 1) words) (input ∷ []) more.0 told more.1));
      does = returns_stop (Opens p (gave before then (so.inputs ++ input ∷ more.0))) (Opens last []) result stop a c err
          (subst (λ (is : List Input). StopsAt (Opens p is) stop a c) (sym same)
          (stops_then (Opens p (so.inputs ++ gives ∷ more.0)) (Opens q (gives ∷ more.0)) stop a b c (so.runs (gives ∷ more.0)) (ran.does more.0)));
      opens = omega (arith, opens, so.opens, h);
    }

take_all : (words : List (List ℕ)) (i : ℕ) → length words ≤ i → take i words ≡ words
take_all words i h = sym (append-nil (take i words)) ∙ ap (λ l. take i words ++ l) (sym (drop_of_length-le words h)) ∙ take-append-drop i words

pub files_end : {T : Type 0} (words : List (List ℕ)) (before now : FilesSeen) (i : ℕ) (p q : Progress) (x : T) (a b : Sinks) → length words ≤ i → i ≤ length words → FilesSoFar words before now i p q a b → RunsFiles words before now p (Ok x) q a b
files_end {T} words before now i p q x a b h k so =
    let all : take i words ≡ words = take_all words i h in
    let calm : gave before now so.inputs ≡ so.inputs = ap (λ b. cond b (fail_at so.inputs (now.place - 1)) so.inputs) (le-ltb before.faults now.faults (omega (arith, so.faults))) in
    record {
      inputs = so.inputs;
      are = subst (λ (ws : List (List ℕ)). AreInputs before.texts ws so.inputs) all so.are;
      does = subst (λ (is : List Input). Passes (Opens p is) (Opens q []) a b) (append-nil so.inputs ∙ sym calm) (so.runs []);
      opens = omega (arith, so.opens, k);
    }

-- a word as an item of the list of words
pub name_at : (words : List (String Global)) (i : ℕ) (word : String Global) (name : List ℕ) → i < length words → word ≡ get_or words i word → name ≡ string_bytes word → name ≡ get_or (names words) i []
name_at words i word name h at e = e ∙ ap (λ w. string_bytes w) at ∙ sym (get_or-map (λ (w : String Global). string_bytes w) words i word [] h)

pub names_length : (words : List (String Global)) → length (names words) ≡ length words
names_length words = length-map words (λ (w : String Global). string_bytes w)
