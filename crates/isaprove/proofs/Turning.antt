-- What the functions that run commands and texts do.
use Rattle.std.proofs.Common.{◌≡◌, ℕ, Bool, true, false, ◌&&◌, cond, List, [], ◌∷◌, ◌++◌, ◌<◌, ◌+◌, length, drop, get_or, refl, sym, ap, subst, ◌∙◌}
use Rattle.std.specs.Prelude.{◌≢◌, Option, Some, None, Ok, Err, IsErrAnd, option_map, Vec}
use Rattle.std.specs.declared.result.Result.{Result}
use Rattle.std.specs.declared.alloc.Global.{Global}
use Rattle.std.proofs.lemmas.List.{drop_more}
use Rattle.isa_outer.specs.declared.refusal.Kind.{Kind}
use Rattle.isa_outer.specs.declared.refusal.Kind.TheVariants as kind
use Rattle.isa_outer.specs.declared.refusal.Refused.{Refused}
use Rattle.isa_outer.specs.declared.command.Command.{Command}
use Rattle.isa_outer.specs.Texts.{reading_of}
use Rattle.isa_theory.specs.Applying.{line_of}
use Rattle.isaprove.specs.Sinks.{Sinks}
use Rattle.isaprove.specs.Shown.{Piece, Shown, ToOut, ToErr, shown_text}
use Rattle.isaprove.specs.Steps.{Next, Comes}
use Rattle.isaprove.specs.Run.{State, Opens, Takes, Stopped, Given, Text, Long, Failed, Input, Step, OpenFile, RefuseText, RefuseLength, FailToRead, SkipCommand, TakeCommand, CloseFile, RefuseEnd, Turn, turn_of, is_proof_command, accepting, skipping, show, tell, failure_line, refusal_line, long_line, unread_line}
use Rattle.isaprove.specs.Does.{NoFault, All, Passes, StopsAt, Does, DoesCommand, DoesCommands, DoesWhole, DoesFile, Finishes, Fails, StopsWith, ShowsIfSome, IsQuiet, Tells, Puts}
use Rattle.isaprove.specs.Taken.{is_memory, HasCause, Shows}
use Rattle.isaprove.specs.declared.session.OpenLemma.{OpenLemma}
use Rattle.isaprove.specs.declared.session.Session.{Session}
use Rattle.isaprove.specs.declared.failure.Failure.{Failure}
use Rattle.isaprove.specs.declared.failure.Rejection.{Rejection}
use Rattle.isaprove.specs.declared.failure.Rejection.TheVariants as rejection
use Rattle.isaprove.specs.declared.progress.Progress.{Progress}
use Rattle.isaprove.specs.declared.status.Status.TheVariants as status
use Rattle.isaprove.specs.declared.status.Stop.{Stop}
use Rattle.isaprove.specs.declared.status.Stop.TheVariants as stops
use Rattle.isaprove.proofs.Writing.{All-nothing}
use Rattle.isaprove.proofs.Passing.{passes_stay, passes_step, passes_then, leaves_quiet, cut_step, stops_then, does_then, returns_stop, memory_does, put_does, stops_does}

pub not_memory : (k : Kind) → is_memory k ≡ false → k ≢ kind.Memory
not_memory k f e = absurd (let memory : is_memory k ≡ true = ap is_memory e in cc (f, memory))

-- ---- one command
pub command_skipped : (file : List ℕ) (p : Progress) (k : Command) (a : Sinks) → (p.skips && is_proof_command k) ≡ true → DoesCommand {T = Unit {0}} file p k (Ok tt) p a a
command_skipped file p k a h = λ ks more. passes_step (Takes p file (k ∷ ks) more) (Takes p file ks more) [] a a (SkipCommand p file k ks more h) (All-nothing a)

-- nothing was written for want of memory
pub command_memory : {T : Type 0} (file : List ℕ) (p q : Progress) (k : Command) (r : Result T Stop) (a : Sinks) → IsErrAnd r (λ e. e ≡ stops.Memory) → DoesCommand file p k r q a a
command_memory {T} file p q k r a h = λ ks more. memory_does (Takes p file (k ∷ ks) more) (Takes q file ks more) r a h

-- where a command leads
turn : (file : List ℕ) (p : Progress) (k : Command) (ks : List Command) (more : List Input) → Result Next Rejection → Turn
turn file p k ks more r = turn_of file (line_of k) p (λ q. Takes q file ks more) r

shown_does : {T : Type 0} (s t : State) (shows : Option Shown) (text : Option (Vec ℕ Global)) (r : Result T Stop) (a b : Sinks) → Step s (show shows) t → option_map shown_text shows ≡ option_map (λ (v : Vec ℕ Global). v.items) text → ShowsIfSome text r a b → Does s r t a b
shown_does {T} s t None None (Ok x) a b d e w = subst (λ (c : Sinks). Passes s t a c) (sym w) (passes_step s t [] a a d (All-nothing a))
shown_does {T} s t None None (Err y) a b d e w = absurd w
shown_does {T} s t None (Some text) r a b d e w = absurd (cc (e))
shown_does {T} s t (Some shows) None r a b d e w = absurd (cc (e))
shown_does {T} s t (Some shows) (Some text) r a b d e w = let same : shown_text shows ≡ text.items = cc (e) in put_does s t (ToOut shows) r a b d (w shows same)

pub command_shown : {T : Type 0} (file : List ℕ) (p q : Progress) (k : Command) (s : Session) (text : Option (Vec ℕ Global)) (r : Result T Stop) (a b : Sinks) → (p.skips && is_proof_command k) ≡ false → Shows s (option_map (λ (v : Vec ℕ Global). v.items) text) (Comes p.session k) → q ≡ accepting p s → ShowsIfSome text r a b → DoesCommand file p k r q a b
unfolding turn
command_shown {T} file p q k s text r a b h n e w =
    λ ks more.
    let same : accepting p n.next.session ≡ q = ap (λ (x : Session). accepting p x) n.session ∙ sym e in
    let step : Step (Takes p file (k ∷ ks) more) (show n.next.shows) (Takes (accepting p n.next.session) file ks more) = TakeCommand p file k ks more (Ok n.next) (turn file p k ks more (Ok n.next)) h n.comes refl in
    shown_does (Takes p file (k ∷ ks) more) (Takes q file ks more) n.next.shows text r a b
    (subst (λ (x : Progress). Step (Takes p file (k ∷ ks) more) (show n.next.shows) (Takes x file ks more)) same step) n.text_is w

-- a failure was told
failed_does : {T : Type 0} (s : State) (go : Progress → State) (file : List ℕ) (line : ℕ) (f : Failure) (p q : Progress) (r : Result T Stop) (a b : Sinks) → Step s (tell (failure_line file line f)) (cond p.keeps_on (go (skipping p f)) (Stopped (status.Failed f))) → Fails file line f p r q a b → Does s r (go q) a b
failed_does {T} s go file line f p q (Ok x) a b d w =
    passes_step s (go q) (tell (failure_line file line f)) a b
    (subst (λ (x : Progress). Step s (tell (failure_line file line f)) (go x)) (sym w.1)
    (subst (λ (x : Bool). Step s (tell (failure_line file line f)) (cond x (go (skipping p f)) (Stopped (status.Failed f)))) w.0 d)) w.2
failed_does {T} s go file line f p q (Err (stops.Ended st)) a b d w =
    passes_step s (Stopped st) (tell (failure_line file line f)) a b
    (subst (λ (x : _). Step s (tell (failure_line file line f)) (Stopped x)) (sym w.1)
    (subst (λ (x : Bool). Step s (tell (failure_line file line f)) (cond x (go (skipping p f)) (Stopped (status.Failed f)))) w.0 d)) w.2
failed_does {T} s go file line f p q (Err stops.Memory) a b d w = leaves_quiet s a b w
failed_does {T} s go file line f p q (Err stops.Write) a b d w = cut_step s (cond p.keeps_on (go (skipping p f)) (Stopped (status.Failed f))) (tell (failure_line file line f)) a b d w

pub command_failed : {T : Type 0} (file : List ℕ) (p q x : Progress) (k : Command) (f : Failure) (r : Result T Stop) (a b : Sinks) → (p.skips && is_proof_command k) ≡ false → Comes p.session k (Err (rejection.Failed f)) → x ≡ p → Fails file (line_of k) f x r q a b → DoesCommand file p k r q a b
unfolding turn
command_failed {T} file p q x k f r a b h n e w =
    λ ks more.
    failed_does (Takes p file (k ∷ ks) more) (λ z. Takes z file ks more) file (line_of k) f p q r a b
    (TakeCommand p file k ks more (Err (rejection.Failed f)) (turn file p k ks more (Err (rejection.Failed f))) h n refl)
    (subst (λ (z : Progress). Fails file (line_of k) f z r q a b) e w)

pub command_refused : {T : Type 0} (file : List ℕ) (p q : Progress) (k : Command) (refused : Refused) (r : Result T Stop) (a b : Sinks) → (p.skips && is_proof_command k) ≡ false → Comes p.session k (Err (rejection.Refused refused)) → StopsWith status.Refused (refusal_line file refused.line refused.kind) r a b → DoesCommand file p k r q a b
unfolding turn
command_refused {T} file p q k refused r a b h n w =
    λ ks more.
    stops_does (Takes p file (k ∷ ks) more) (Takes q file ks more) status.Refused (refusal_line file refused.line refused.kind) r a b
    (TakeCommand p file k ks more (Err (rejection.Refused refused)) (turn file p k ks more (Err (rejection.Refused refused))) h n refl) w

-- ---- failures
puts_fails : (T : Type 0) (file : List ℕ) (line : ℕ) (f : Failure) (p q : Progress) (s : Stop) (a b : Sinks) → Puts {T = Unit {0}} (ToErr (failure_line file line f)) (Err s) a b → Fails {T = T} file line f p (Err s) q a b
puts_fails T file line f p q (stops.Ended st) a b w = absurd w
puts_fails T file line f p q stops.Memory a b w = w
puts_fails T file line f p q stops.Write a b w = w

pub failure_memory : {T : Type 0} (file : List ℕ) (line : ℕ) (f : Failure) (p q : Progress) (r : Result T Stop) (a : Sinks) → IsErrAnd r (λ e. e ≡ stops.Memory) → Fails file line f p r q a a
failure_memory {T} file line f p q (Ok x) a h = absurd h
failure_memory {T} file line f p q (Err e) a h = subst (λ (s : Stop). Fails {T = T} file line f p (Err s) q a a) (sym h) (All-nothing a)

pub failure_cut : {T : Type 0} (file : List ℕ) (line : ℕ) (f : Failure) (p q : Progress) (bytes : List ℕ) (r : Result T Stop) (s : Stop) (a b : Sinks) → bytes ≡ failure_line file line f → IsErrAnd r (λ e. e ≡ s) → Tells {T = Unit {0}} bytes (Err s) a b → Fails file line f p r q a b
failure_cut {T} file line f p q bytes (Ok x) s a b l h w = absurd h
failure_cut {T} file line f p q bytes (Err e) s a b l h w =
    subst (λ (z : Stop). Fails {T = T} file line f p (Err z) q a b) (sym h)
    (puts_fails T file line f p q s a b (subst (λ (bs : List ℕ). Puts {T = Unit {0}} (ToErr bs) (Err s) a b) l w))

pub failure_stops : {T : Type 0} (file : List ℕ) (line : ℕ) (f : Failure) (p q : Progress) (bytes : List ℕ) (r : Result T Stop) (a b : Sinks) → bytes ≡ failure_line file line f → p.keeps_on ≡ false → IsErrAnd r (λ e. e ≡ stops.Ended (status.Failed f)) → All a b (ToErr bytes ∷ []) → Fails file line f p r q a b
failure_stops {T} file line f p q bytes (Ok x) a b l k h w = absurd h
failure_stops {T} file line f p q bytes (Err e) a b l k h w =
    subst (λ (z : Stop). Fails {T = T} file line f p (Err z) q a b) (sym h)
    (k, refl, subst (λ (bs : List ℕ). All a b (ToErr bs ∷ [])) l w)

pub failure_kept : {T : Type 0} (file : List ℕ) (line : ℕ) (f : Failure) (p q : Progress) (bytes : List ℕ) (x : T) (a b : Sinks) → bytes ≡ failure_line file line f → p.keeps_on ≡ true → q ≡ skipping p f → All a b (ToErr bytes ∷ []) → Fails file line f p (Ok x) q a b
failure_kept {T} file line f p q bytes x a b l k e w = (k, e, subst (λ (bs : List ℕ). All a b (ToErr bs ∷ [])) l w)

-- ---- what may come of a command that was not accepted
pub command_fails : {T : Type 0} (file : List ℕ) (p q x : Progress) (k : Command) (new : Session) (g : Rejection) (f : Failure) (line : ℕ) (r : Result T Stop) (a b : Sinks) → (p.skips && is_proof_command k) ≡ false → (HasCause g → (new ≡ p.session) × Comes p.session k (Err g)) → g ≡ rejection.Failed f → x ≡ record p { session = new } → line ≡ line_of k → Fails file line f x r q a b → DoesCommand file p k r q a b
command_fails {T} file p q x k new g f line r a b h n e i l w =
    let both : (new ≡ p.session) × Comes p.session k (Err (rejection.Failed f)) = subst (λ (y : Rejection). HasCause y → (new ≡ p.session) × Comes p.session k (Err y)) e n tt in
    let same : x ≡ p = i ∙ ap (λ (s : Session). let y : Progress = record p { session = s } in y) both.0 in
    command_failed file p q x k f r a b h both.1 same (subst (λ (n : ℕ). Fails file n f x r q a b) l w)

pub command_refuses : {T : Type 0} (file : List ℕ) (p q : Progress) (k : Command) (new : Session) (g : Rejection) (refused : Refused) (r : Result T Stop) (a b : Sinks) → (p.skips && is_proof_command k) ≡ false → (HasCause g → (new ≡ p.session) × Comes p.session k (Err g)) → g ≡ rejection.Refused refused → is_memory refused.kind ≡ false → StopsWith status.Refused (refusal_line file refused.line refused.kind) r a b → DoesCommand file p k r q a b
command_refuses {T} file p q k new g refused r a b h n e m w =
    let both : (new ≡ p.session) × Comes p.session k (Err (rejection.Refused refused)) = subst (λ (y : Rejection). HasCause y → (new ≡ p.session) × Comes p.session k (Err y)) e n (not_memory refused.kind m) in
    command_refused file p q k refused r a b h both.1 w

-- ---- commands, one after another
-- the commands before this index were run
pub record CommandsSoFar (file : List ℕ) (p : Progress) (ks : List Command) (i : ℕ) (q : Progress) (a b : Sinks) : Type 0 where
  pub runs : (more : List Input) → Passes (Takes p file ks more) (Takes q file (drop i ks) more) a b
  pub calm : NoFault a b

pub commands_begin : (file : List ℕ) (p : Progress) (ks : List Command) (a : Sinks) → CommandsSoFar file p ks 0 p a a
commands_begin file p ks a = record { runs = λ more. passes_stay (Takes p file ks more) a; calm = record { out = refl; err = refl } }

commands_step : (file : List ℕ) (q : Progress) (ks : List Command) (i : ℕ) (d : Command) (more : List Input) → i < length ks → d ≡ get_or ks i d → Takes q file (drop i ks) more ≡ Takes q file (d ∷ drop (i + 1) ks) more
commands_step file q ks i d more h at = ap (λ (xs : List Command). Takes q file xs more) (drop_more ks i d h ∙ ap (λ (k : Command). k ∷ drop (i + 1) ks) (sym at))

pub commands_passed : (file : List ℕ) (p q t : Progress) (ks : List Command) (i : ℕ) (d : Command) (a b c : Sinks) → i < length ks → d ≡ get_or ks i d → CommandsSoFar file p ks i q a b → ((cs : List Command) (more : List Input) → Passes (Takes q file (d ∷ cs) more) (Takes t file cs more) b c) → CommandsSoFar file p ks (i + 1) t a c
commands_passed file p q t ks i d a b c h at so w =
    let quiet : NoFault b c = (w [] []).all.no_fault in
    record {
      runs = λ more.
          passes_then (Takes p file ks more) (Takes q file (d ∷ drop (i + 1) ks) more) (Takes t file (drop (i + 1) ks) more) a b c
          (subst (λ (x : State). Passes (Takes p file ks more) x a b) (commands_step file q ks i d more h at) (so.runs more)) (w (drop (i + 1) ks) more);
      calm = record { out = quiet.out ∙ so.calm.out; err = quiet.err ∙ so.calm.err };
    }

pub commands_stopped : {T : Type 0} (file : List ℕ) (p q last : Progress) (ks : List Command) (i : ℕ) (d : Command) (r : Result T Stop) (stop : Stop) (a b c : Sinks) → i < length ks → d ≡ get_or ks i d → CommandsSoFar file p ks i q a b → ((cs : List Command) (more : List Input) → StopsAt (Takes q file (d ∷ cs) more) stop b c) → IsErrAnd r (λ e. e ≡ stop) → DoesCommands file p ks r last a c
commands_stopped {T} file p q last ks i d r stop a b c h at so w err =
    λ more.
    returns_stop (Takes p file ks more) (Takes last file [] more) r stop a c err
    (stops_then (Takes p file ks more) (Takes q file (d ∷ drop (i + 1) ks) more) stop a b c
    (subst (λ (x : State). Passes (Takes p file ks more) x a b) (commands_step file q ks i d more h at) (so.runs more)) (w (drop (i + 1) ks) more))

pub commands_end : (file : List ℕ) (p q : Progress) (ks : List Command) (i : ℕ) (a b : Sinks) → drop i ks ≡ [] → CommandsSoFar file p ks i q a b → (more : List Input) → Passes (Takes p file ks more) (Takes q file [] more) a b
commands_end file p q ks i a b e so = λ more. subst (λ (xs : List Command). Passes (Takes p file ks more) (Takes q file xs more) a b) e (so.runs more)

-- ---- the end of a file
pub closed_whole : (file : List ℕ) (p : Progress) (a : Sinks) → p.session.lemma ≡ None → Finishes {T = Unit {0}} file p (Ok tt) a a
closed_whole file p a h = λ more. passes_step (Takes p file [] more) (Opens p more) [] a a (CloseFile p file more h) (All-nothing a)

pub closed_open : {T : Type 0} (file : List ℕ) (p : Progress) (l : OpenLemma) (r : Result T Stop) (a b : Sinks) → p.session.lemma ≡ Some l → StopsWith status.Refused (refusal_line file l.lemma.line kind.OpenProof) r a b → Finishes file p r a b
closed_open {T} file p l r a b h w = λ more. stops_does (Takes p file [] more) (Opens p more) status.Refused (refusal_line file l.lemma.line kind.OpenProof) r a b (RefuseEnd p file more l h) w

pub whole_stopped : {T : Type 0} (file : List ℕ) (p last : Progress) (ks : List Command) (r : Result T Stop) (stop : Stop) (a b : Sinks) → ((more : List Input) → StopsAt (Takes p file ks more) stop a b) → IsErrAnd r (λ e. e ≡ stop) → DoesWhole file p ks r last a b
whole_stopped {T} file p last ks r stop a b d err = λ more. returns_stop (Takes p file ks more) (Opens last more) r stop a b err (d more)

pub whole_closed : {T : Type 0} (file : List ℕ) (p q : Progress) (ks : List Command) (r : Result T Stop) (a b c : Sinks) → ((more : List Input) → Passes (Takes p file ks more) (Takes q file [] more) a b) → Finishes file q r b c → DoesWhole file p ks r q a c
whole_closed {T} file p q ks r a b c d f = λ more. does_then (Takes p file ks more) (Takes q file [] more) (Opens q more) r a b c (d more) (f more)

-- ---- texts
-- a file of this text
text_input : List ℕ → List ℕ → Input
text_input file text = record { name = file; given = Text text }

pub text_read : {T : Type 0} (file text : List ℕ) (p q : Progress) (ks cs : List Command) (r : Result T Stop) (a b : Sinks) → reading_of text ≡ Ok ks → cs ≡ ks → DoesWhole file p cs r q a b → DoesFile file p (Text text) r q a b
unfolding text_input
text_read {T} file text p q ks cs r a b e f d =
    λ more.
    let read : reading_of text ≡ Ok cs = e ∙ ap (λ (xs : List Command). let y : Result (List Command) Refused = Ok xs in y) (sym f) in
    does_then (Opens p (text_input file text ∷ more)) (Takes p file cs more) (Opens q more) r a a b
    (passes_step (Opens p (text_input file text ∷ more)) (Takes p file cs more) [] a a (OpenFile p (text_input file text) more text cs refl read) (All-nothing a)) (d more)

pub text_refused : {T : Type 0} (file text : List ℕ) (p q : Progress) (refused : Refused) (r : Result T Stop) (a b : Sinks) → reading_of text ≡ Err refused → StopsWith status.Refused (refusal_line file refused.line refused.kind) r a b → DoesFile file p (Text text) r q a b
unfolding text_input
text_refused {T} file text p q refused r a b e w =
    λ more. stops_does (Opens p (text_input file text ∷ more)) (Opens q more) status.Refused (refusal_line file refused.line refused.kind) r a b (RefuseText p (text_input file text) more text refused refl e) w

pub text_memory : {T : Type 0} (file : List ℕ) (given : Given) (p q : Progress) (r : Result T Stop) (a : Sinks) → IsErrAnd r (λ e. e ≡ stops.Memory) → DoesFile file p given r q a a
text_memory {T} file given p q r a h = λ more. memory_does (Opens p (record { name = file; given = given } ∷ more)) (Opens q more) r a h

pub long_refused : {T : Type 0} (file : List ℕ) (p q : Progress) (r : Result T Stop) (a b : Sinks) → StopsWith status.Refused (long_line file) r a b → DoesFile file p Long r q a b
long_refused {T} file p q r a b w =
    λ more. stops_does (Opens p (record { name = file; given = Long } ∷ more)) (Opens q more) status.Refused (long_line file) r a b (RefuseLength p (record { name = file; given = Long }) more refl) w

pub unread_refused : {T : Type 0} (file : List ℕ) (p q : Progress) (r : Result T Stop) (a b : Sinks) → StopsWith status.ReadFault (unread_line file) r a b → DoesFile file p Failed r q a b
unread_refused {T} file p q r a b w =
    λ more. stops_does (Opens p (record { name = file; given = Failed } ∷ more)) (Opens q more) status.ReadFault (unread_line file) r a b (FailToRead p (record { name = file; given = Failed }) more refl) w
