-- What comes of each command in a session: the context of the theory, and the lemma whose proof is open.
-- Source: the Isabelle/Isar Reference Manual, chapter "Proofs" (`lemma`, `apply`, `back`, `done`, `oops`); `match` is this project's own.
use Rattle.std.specs.Prelude.{◌≡◌, ◌≢◌, ℕ, ◌+◌, Bool, true, false, ◌&&◌, ◌||◌, not, if◌then◌else◌, List, [], ◌∷◌, Option, Some, None, Result, Ok, Err, is_some, option_map}
use Rattle.isa_terms.specs.Terms.{Tm}
use Rattle.isa_kernel.specs.Theorem.{Theorem}
use Rattle.isa_goal.specs.Counted.{has_counted, rules_have_counted}
use Rattle.isa_goal.specs.Goals.{Goals, started, has_parameter}
use Rattle.isa_goal.specs.Names.{canon}
use Rattle.isa_goal.specs.Resolving.{all_first_order}
use Rattle.isa_seq.specs.declared.event.Answer.{Answer}
use Rattle.isa_seq.specs.declared.event.Answer.TheVariants as answer
use Rattle.isa_outer.specs.declared.refusal.Kind.{Kind}
use Rattle.isa_outer.specs.declared.refusal.Kind.TheVariants as kind
use Rattle.isa_outer.specs.declared.refusal.Sort.TheVariants as sort
use Rattle.isa_outer.specs.declared.command.Command.{Command}
use Rattle.isa_outer.specs.declared.command.Command.TheVariants as command
use Rattle.isa_outer.specs.declared.command.Label.{Label}
use Rattle.isa_outer.specs.declared.command.Setting.{Setting}
use Rattle.isa_outer.specs.declared.command.Inner.{Inner}
use Rattle.isa_outer.specs.Methods.{Method, At}
use Rattle.isa_outer.specs.Methods as method
use Rattle.isa_theory.specs.Results.{◌>>=◌, or_refused}
use Rattle.isa_theory.specs.Contexts.{ContextSeen, fact_of}
use Rattle.isa_theory.specs.Applying.{Applied, IsLemmaOf, known_facts, all_known, line_of}
use Rattle.isa_theory.specs.MethodFacts.{method_facts}
use Rattle.isa_theory.specs.Options.{with_setting}
use Rattle.isa_theory.specs.Storing.{general_of, closed_with, kept}
use Rattle.isa_theory.specs.declared.lemma.Lemma.{Lemma}
use Rattle.isaprove.specs.declared.session.Tried.{Tried}
use Rattle.isaprove.specs.declared.session.Tried.TheVariants.{Opening, Matching}
use Rattle.isaprove.specs.declared.session.OpenLemma.{OpenLemma}
use Rattle.isaprove.specs.declared.session.Session.{Session}
use Rattle.isaprove.specs.declared.failure.Failure.{Failure}
use Rattle.isaprove.specs.declared.failure.Failure.TheVariants.{NoResult, Spent}
use Rattle.isaprove.specs.declared.failure.Rejection.{Rejection}
use Rattle.isaprove.specs.declared.failure.Rejection.TheVariants.{Failed, Refused}
use Rattle.isaprove.specs.declared.session.TheConstants.{BUDGET}
use Rattle.isaprove.specs.Asking.{answer_at}
use Rattle.isaprove.specs.Plain.{is_plain, are_plain}
use Rattle.isaprove.specs.Shown.{Shown, ShownState, ShownTheorem}

-- an accepted command: the session that is left, and what is shown
pub record Next : Type 0 where
  pub session : Session
  pub shows : Option Shown

-- a refusal in this line
abbrev pub refused : {A : Type 0} → ℕ → Kind → Result A Rejection
refused line k = Err (Refused (record { line = line; kind = k }))

-- the session is left, and nothing is shown
abbrev pub quiet : Session → Result Next Rejection
quiet s = Ok (record { session = s; shows = None })

-- it is what f makes of something that is told
pub record Made {A B : Type 0} (Tells : A → Type 0) (f : A → B) (made : B) : Type 0 where
  pub of : A
  pub told : Tells of
  pub is : f of ≡ made

-- ---- commands outside of proofs
-- the context that a command leaves
abbrev pub declared : Session → ℕ → Result ContextSeen Kind → Result Next Rejection
declared s line (Ok c) = quiet (record s { context = c })
declared s line (Err k) = refused line k

abbrev pub Declares : Session → Command → Result Next Rejection → Type 0
Declares s k r = Made (Applied s.context k) (declared s (line_of k)) r

-- The state in which a plain proposition is the only subgoal of itself; another one is not built yet. Nor is one with a free variable that is named by a colon and digits, which no text gives.
abbrev pub opening_of : ContextSeen → Tm → Result Goals Kind
opening_of c p = if not (is_plain c p) || has_counted p then Err kind.NotBuilt else or_refused kind.Types (option_map canon (started p))

-- the lemma is open in this state, the only one of its opening
abbrev pub opened : Session → ℕ → Lemma → Result Goals Kind → Result Next Rejection
opened s line lemma (Ok state) = quiet (record s { lemma = Some (record { lemma = lemma; before = state; tried = Opening; rank = 0; state = state }) })
opened s line lemma (Err k) = refused line k

abbrev pub begun : Session → ℕ → Result Lemma Kind → Result Next Rejection
begun s line (Ok lemma) = opened s line lemma (opening_of s.context lemma.goal)
begun s line (Err k) = refused line k

-- a lemma is begun by its text
abbrev pub Begins : Session → ℕ → Bool → Option Label → Inner → Result Next Rejection → Type 0
Begins s line schematic label text r = Made (IsLemmaOf s.context schematic label text) (begun s line) r

-- an option in its range is not built yet
abbrev pub unhonoured : ContextSeen → Setting → Result ContextSeen Kind
unhonoured c setting = with_setting c.options setting >>= (λ o. Err kind.NotBuilt)

-- a lemma is begun; an option is not taken yet; of any other command the context is what it leaves
unfoldable pub Outside : Session → Command → Result Next Rejection → Type 0
Outside s (command.Lemma line label text) r = Begins s line false label text r
Outside s (command.SchematicGoal line label text) r = Begins s line true label text r
Outside s (command.DeclareOption line setting) r = declared s line (unhonoured s.context setting) ≡ r
Outside s k r = Declares s k r

-- ---- methods
-- the facts of the method `match`
abbrev pub match_facts : Method → Option (List (List ℕ))
match_facts (At line (method.Match fs)) = Some fs
match_facts _ = None

-- a method other than `match` is not built yet; its facts are there
abbrev pub unbuilt : {A : Type 0} → ContextSeen → Method → Result A Kind
unbuilt c m = all_known c (method_facts m) >>= (λ u. Err kind.NotBuilt)

abbrev pub tried_with : ContextSeen → Method → Option (List (List ℕ)) → Result Tried Kind
tried_with c m (Some fs) = known_facts c fs >>= (λ rules. Ok (Matching rules))
tried_with c m None = unbuilt c m

-- what a method tries
unfoldable pub tried_by : ContextSeen → Method → Result Tried Kind
tried_by c m = tried_with c m (match_facts m)

-- whether it is built on a state: the rules are plain, no free variable of a rule is named by a colon and digits, and the first subgoal has no parameter
abbrev pub is_built : ContextSeen → Tried → Goals → Bool
is_built c Opening s = true
is_built c (Matching rules) s = are_plain c rules && (all_first_order rules && (not (rules_have_counted rules) && not (has_parameter 1 s)))

-- the answer to the question for the result behind `rank` others
unfoldable pub asked : ContextSeen → Tried → Goals → ℕ → Result (Answer Goals) Kind
asked c tried s rank = if is_built c tried s then Ok (answer_at tried s rank) else Err kind.NotBuilt

-- what a method tries on a state, and its first result
unfoldable pub first_asked : ContextSeen → Goals → Method → Result (Tried × Answer Goals) Kind
first_asked c s m = do
  tried ← tried_by c m
  a ← asked c tried s 0
  Ok (tried, a)

-- ---- proof commands
abbrev pub state_of : Answer Goals → Result Goals Failure
state_of (answer.State s) = Ok s
state_of answer.NoMore = Err (NoResult 0)
state_of (answer.NoMoreOutside n) = Err (NoResult n)
state_of answer.Spent = Err (Spent BUDGET)

-- the state, the result of that rank of what was tried on the one before, is that of the lemma l, and is shown
abbrev pub advanced : Session → OpenLemma → Tried → Goals → ℕ → Result Goals Failure → Result Next Rejection
advanced s l tried before rank (Ok after) = Ok (record {
  session = record s { lemma = Some (record l { before = before; tried = tried; rank = rank; state = after }) };
  shows = Some (ShownState s.context tried before rank after);
})
advanced s l tried before rank (Err failure) = Err (Failed failure)

-- `apply METHOD`: the first result on the lemma's state
abbrev pub applied_first : Session → ℕ → OpenLemma → Result (Tried × Answer Goals) Kind → Result Next Rejection
applied_first s line l (Ok p) = advanced s l p.0 l.state 0 (state_of p.1)
applied_first s line l (Err k) = refused line k

unfoldable pub applying : Session → ℕ → Method → OpenLemma → Result Next Rejection
applying s line m l = applied_first s line l (first_asked s.context l.state m)

-- `back`: the next result of what was tried before
abbrev pub gone_back : Session → ℕ → OpenLemma → Result (Answer Goals) Kind → Result Next Rejection
gone_back s line l (Ok a) = advanced s l l.tried l.before (l.rank + 1) (state_of a)
gone_back s line l (Err k) = refused line k

unfoldable pub going_back : Session → ℕ → OpenLemma → Result Next Rejection
going_back s line l = gone_back s line l (asked s.context l.tried l.before (l.rank + 1))

-- the theorem of a goal without subgoals
abbrev pub theorem_of_goal : Goals → Theorem
theorem_of_goal s = record { hyps = []; prop = s.goal; base = s.base }

-- a name that no fact has
abbrev pub new_fact_name : ContextSeen → Option (List ℕ) → Result (Unit {0}) Kind
new_fact_name c None = Ok tt
new_fact_name c (Some x) = if is_some (fact_of c x) then Err (kind.Duplicate sort.Fact x) else Ok tt

-- the context in which the theorem is kept as that of the lemma, under its name, and its attributes have acted
abbrev pub storing : ContextSeen → Lemma → Theorem → Result ContextSeen Kind
storing c lemma th = new_fact_name c lemma.name >>= (λ u. closed_with c lemma.name lemma.attributes (kept c th))

-- the theorem is stored and shown, and no lemma is open; a refusal is in the lemma's line
abbrev pub stored : Session → OpenLemma → Theorem → Result ContextSeen Kind → Result Next Rejection
stored s l th (Ok c) = Ok (record {
  session = record { context = c; lemma = None };
  shows = Some (ShownTheorem s.context l.lemma.name (general_of th).prop);
})
stored s l th (Err k) = refused l.lemma.line k

abbrev pub closed : Session → OpenLemma → List Tm → Result Next Rejection
closed s l [] = stored s l (theorem_of_goal l.state) (storing s.context l.lemma (theorem_of_goal l.state))
closed s l (t ∷ ts) = Err (Failed (NoResult 0))

-- `done`, where no subgoal is left
unfoldable pub finishing : Session → OpenLemma → Result Next Rejection
finishing s l = closed s l l.state.subgoals

-- `oops`: the lemma is dropped
abbrev pub dropped : Session → Session
dropped s = record s { lemma = None }

-- what is not built yet
abbrev pub not_yet : ℕ → Result (Unit {0}) Kind → Result Next Rejection
not_yet line (Ok done) = refused line kind.NotBuilt
not_yet line (Err k) = refused line k

-- what comes of a command in a proof
unfoldable pub proving : Session → OpenLemma → Command → Result Next Rejection
proving s l (command.Apply line m) = applying s line m l
proving s l (command.By line m) = not_yet line (all_known s.context (method_facts m))
proving s l (command.Done line) = finishing s l
proving s l (command.Back line) = going_back s line l
proving s l (command.Oops line) = quiet (dropped s)
proving s l (command.Print line count) = refused line kind.NotBuilt
proving s l k = refused (line_of k) kind.InProof

-- ---- all commands
abbrev pub ComesIn : Session → Option OpenLemma → Command → Result Next Rejection → Type 0
ComesIn s None k r = Outside s k r
ComesIn s (Some l) k r = proving s l k ≡ r

-- what comes of a command in a session
abbrev pub Comes : Session → Command → Result Next Rejection → Type 0
Comes s k r = ComesIn s s.lemma k r
