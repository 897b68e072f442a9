-- What the functions that take a command answer. A reader need not believe it: the contracts of private functions cite it.
use Rattle.std.specs.Prelude.{◌≡◌, ◌≢◌, ℕ, Bool, true, false, List, Option, Some, None, Result, Ok, Err, Vec, option_map}
use Rattle.std.specs.declared.alloc.Global.{Global}
use Rattle.isa_outer.specs.declared.refusal.Kind.{Kind}
use Rattle.isa_outer.specs.declared.refusal.Kind.TheVariants as kind
use Rattle.isa_goal.specs.Goals.{Goals}
use Rattle.isaprove.specs.declared.session.Tried.{Tried}
use Rattle.isaprove.specs.declared.session.OpenLemma.{OpenLemma}
use Rattle.isaprove.specs.declared.session.Session.{Session}
use Rattle.isaprove.specs.declared.failure.Rejection.{Rejection}
use Rattle.isaprove.specs.declared.failure.Rejection.TheVariants.{Failed, Refused}
use Rattle.isaprove.specs.Shown.{shown_text}
use Rattle.isaprove.specs.Steps.{Next, quiet, refused}

-- whether it is want of memory
abbrev pub is_memory : Kind → Bool
is_memory kind.Memory = true
is_memory _ = false

-- memory was not what was wanting
abbrev pub HasCause : Rejection → Type 0
HasCause (Failed failure) = Unit {0}
HasCause (Refused refused) = refused.kind ≢ kind.Memory

-- the session that is left, and the text of what is shown
abbrev pub told : Result Next Rejection → Result (Session × Option (List ℕ)) Rejection
told (Ok n) = Ok (n.session, option_map shown_text n.shows)
told (Err r) = Err r

-- a command in a proof
abbrev pub within : ℕ → Option OpenLemma → (OpenLemma → Result Next Rejection) → Result Next Rejection
within line None f = refused line kind.NoProof
within line (Some l) f = f l

-- The session that is left and the text are those of the wanted outcome. A rejection, want of memory aside, is the wanted one, and leaves the session as it was.
abbrev pub Proves : Result (Option (Vec ℕ Global)) Rejection → Session → Session → Result Next Rejection → Type 0
Proves (Ok text) old new wanted = told wanted ≡ Ok (new, option_map (λ t. t.items) text)
Proves (Err r) old new wanted = HasCause r → (new ≡ old) × (told wanted ≡ Err r)

-- the same for a text that is always there
abbrev pub Printing : Result (Vec ℕ Global) Rejection → Session → Session → Result Next Rejection → Type 0
Printing (Ok text) old new wanted = told wanted ≡ Ok (new, Some text.items)
Printing (Err r) old new wanted = HasCause r → (new ≡ old) × (told wanted ≡ Err r)

-- the same where nothing is shown
abbrev pub Becomes : Result (Unit {0}) Rejection → Session → Session → Result Next Rejection → Type 0
Becomes (Ok done) old new wanted = wanted ≡ quiet new
Becomes (Err r) old new wanted = HasCause r → (new ≡ old) × (wanted ≡ Err r)

-- the same where what may come is a relation
abbrev pub ComesQuiet : Result (Unit {0}) Rejection → Session → Session → (Result Next Rejection → Type 0) → Type 0
ComesQuiet (Ok done) old new Comes = Comes (quiet new)
ComesQuiet (Err r) old new Comes = HasCause r → (new ≡ old) × Comes (Err r)

-- what may come is shown, and leaves this session
pub record Shows (new : Session) (text : Option (List ℕ)) (Comes : Result Next Rejection → Type 0) : Type 0 where
  pub next : Next
  pub comes : Comes (Ok next)
  pub session : next.session ≡ new
  pub text_is : option_map shown_text next.shows ≡ text

abbrev pub ComesOut : Result (Option (Vec ℕ Global)) Rejection → Session → Session → (Result Next Rejection → Type 0) → Type 0
ComesOut (Ok text) old new Comes = Shows new (option_map (λ t. t.items) text) Comes
ComesOut (Err r) old new Comes = HasCause r → (new ≡ old) × Comes (Err r)

-- the lemma after a result of that rank of what was tried
abbrev pub lemma_after : Option OpenLemma → Tried → Goals → Option OpenLemma
lemma_after None tried after = None
lemma_after (Some l) tried after = Some (record l { before = l.state; tried = tried; rank = 0; state = after })

-- the lemma after the next result
abbrev pub lemma_next : Option OpenLemma → ℕ → Goals → Option OpenLemma
lemma_next None rank after = None
lemma_next (Some l) rank after = Some (record l { rank = rank; state = after })
