-- What each command shows is sound, and its session stays so.
use Rattle.std.proofs.Common.{◌≡◌, ℕ, zero, suc, ◌+◌, ◌<◌, List, [], ◌∷◌, ◌++◌, map, length, Bool, true, false, ◌&&◌, ◌||◌, not, cond, Option, Some, None, Ok, Err, refl, sym, ap, subst, ◌∙◌, arith}
use Rattle.std.specs.Prelude.{option_map, is_some}
use Rattle.std.specs.declared.result.Result.{Result}
use Rattle.isa_terms.specs.Terms.{Tm, bare}
use Rattle.isa_kernel.specs.Axioms.{propositions}
use Rattle.isa_kernel.specs.Derivation.{Derives, Within}
use Rattle.isa_kernel.specs.Theorem.{Theorem, IsDerived}
use Rattle.isa_subgoal.specs.Premises.{implies}
use Rattle.isa_goal.specs.Counted.{has_counted}
use Rattle.isa_goal.specs.Goals.{Goals, IsStanding, started, has_parameter}
use Rattle.isa_goal.specs.Names.{canon}
use Rattle.isa_goal.specs.Resolving.{results, all_first_order}
use Rattle.isa_seq.specs.declared.event.Answer.{Answer}
use Rattle.isa_seq.specs.declared.event.Answer.TheVariants as answer
use Rattle.isa_outer.specs.declared.refusal.Kind.{Kind}
use Rattle.isa_outer.specs.declared.refusal.Kind.TheVariants as kind
use Rattle.isa_outer.specs.declared.command.Command.{Command}
use Rattle.isa_outer.specs.declared.command.Command.TheVariants as command
use Rattle.isa_outer.specs.declared.command.Setting.{Setting}
use Rattle.isa_outer.specs.Methods.{Method}
use Rattle.isa_theory.specs.Results.{◌>>=◌, or_refused}
use Rattle.isa_theory.specs.Contexts.{ContextSeen}
use Rattle.isa_theory.specs.Applying.{Applied, known_facts, all_known, line_of}
use Rattle.isa_theory.specs.MethodFacts.{method_facts}
use Rattle.isa_theory.specs.Options.{with_setting}
use Rattle.isa_theory.specs.Storing.{general_of, closed_with, kept}
use Rattle.isa_theory.specs.declared.lemma.Lemma.{Lemma}
use Rattle.isaprove.specs.declared.session.Tried.{Tried}
use Rattle.isaprove.specs.declared.session.Tried.TheVariants.{Opening, Matching}
use Rattle.isaprove.specs.declared.session.OpenLemma.{OpenLemma}
use Rattle.isaprove.specs.declared.session.Session.{Session}
use Rattle.isaprove.specs.declared.failure.Failure.{Failure}
use Rattle.isaprove.specs.declared.failure.Rejection.{Rejection}
use Rattle.isaprove.specs.Asking.{answer_at}
use Rattle.isaprove.specs.Plain.{is_plain}
use Rattle.isaprove.specs.Shown.{Shown, ShownState, ShownTheorem}
use Rattle.isaprove.specs.Steps.{Next, Made, refused, quiet, opening_of, opened, begun, Begins, declared, Declares, unhonoured, Outside, match_facts, tried_with, unbuilt, tried_by, is_built, asked, first_asked, state_of, advanced, applied_first, applying, gone_back, going_back, theorem_of_goal, new_fact_name, storing, stored, closed, finishing, dropped, not_yet, proving, ComesIn, Comes}
use Rattle.isaprove.specs.Sound.{axioms_of, IsSoundShown, IsSoundState, IsSoundTheorem}
use Rattle.isaprove.proofs.Standing.{derives_more, alone_stands, alone_base, IsNext, IsKept, AreKept, results_next}
use Rattle.isaprove.proofs.AskLemmas.{matching_asked, opening_no_more, found_next}
use Rattle.isaprove.proofs.Grounding.{bind_ok, some_ok, IsGrounded, known_kept, general_kept, stored_grounded, applied_grounded}

-- ---- what a session keeps
-- the state stands, by the axioms
pub record StandsBy (ax : List Tm) (s : Goals) : Type 0 where
  pub stands : IsStanding s
  pub rests : Within (propositions s.base) ax

abbrev pub TriedKept : List Tm → Tried → Type 0
TriedKept ax Opening = Unit {0}
TriedKept ax (Matching rules) = AreKept ax rules

pub record LemmaKept (ax : List Tm) (l : OpenLemma) : Type 0 where
  pub before : StandsBy ax l.before
  pub tried : TriedKept ax l.tried
  pub state : StandsBy ax l.state

abbrev pub KeptIfOpen : List Tm → Option OpenLemma → Type 0
KeptIfOpen ax None = Unit {0}
KeptIfOpen ax (Some l) = LemmaKept ax l

pub record SessionKept (s : Session) : Type 0 where
  pub context : IsGrounded s.context
  pub lemma : KeptIfOpen (axioms_of s.context.theory) s.lemma

abbrev pub ShowsSound : Option Shown → Type 0
ShowsSound None = Unit {0}
ShowsSound (Some shows) = IsSoundShown shows

pub record NextKept (n : Next) : Type 0 where
  pub session : SessionKept n.session
  pub shows : ShowsSound n.shows

pub dropped_kept : (s : Session) → SessionKept s → SessionKept (dropped s)
dropped_kept s k = record { context = k.context; lemma = tt }

-- an outcome that is this
ok_kept : (m n : Next) → NextKept m → m ≡ n → NextKept n
ok_kept m n k e = subst (λ (x : Next). NextKept x) e k

-- ---- asking
-- an opening is asked for a result behind its first one alone
Askable : Tried → ℕ → Type 0
Askable Opening k = 0 < k
Askable (Matching rules) k = Unit {0}

answer_next : (ax : List Tm) (tried : Tried) (s t : Goals) (k : ℕ) → TriedKept ax tried → StandsBy ax s → Askable tried k → answer_at tried s k ≡ answer.State t → IsNext ax s t
unfolding Askable
answer_next ax Opening s t k kept st h e = absurd (let none : answer.NoMore ≡ answer.State t = sym (opening_no_more s k h) ∙ e in cc (none))
answer_next ax (Matching rules) s t k kept st h e = found_next ax s t k 0 (results 1 rules s) (results_next ax 1 rules s kept st.stands st.rests) (sym (matching_asked rules s k) ∙ e)

asked_is : (b : Bool) (x : Answer Goals) {a : Answer Goals} → cond b (Ok x) (Err kind.NotBuilt) ≡ Ok a → x ≡ a
asked_is true x e = cc (e)
asked_is false x e = absurd (cc (e))

asked_ok : (c : ContextSeen) (tried : Tried) (s : Goals) (k : ℕ) (a : Answer Goals) → asked c tried s k ≡ Ok a → answer_at tried s k ≡ a
unfolding asked
asked_ok c tried s k a e = asked_is (is_built c tried s) (answer_at tried s k) e

advanced_kept : (s : Session) (l : OpenLemma) (tried : Tried) (before : Goals) (k : ℕ) (a : Answer Goals) (n : Next) → SessionKept s → TriedKept (axioms_of s.context.theory) tried → StandsBy (axioms_of s.context.theory) before → Askable tried k → answer_at tried before k ≡ a → advanced s l tried before k (state_of a) ≡ Ok n → NextKept n
advanced_kept s l tried before k (answer.State after) n g t b h e r =
    let is : IsNext (axioms_of s.context.theory) before after = answer_next (axioms_of s.context.theory) tried before after k t b h e in
    ok_kept (record { session = record s { lemma = Some (record l { before = before; tried = tried; rank = k; state = after }) }; shows = Some (ShownState s.context tried before k after) }) n
    (record {
      session = record { context = g.context; lemma = record { before = b; tried = t; state = record { stands = is.stands; rests = is.rests } } };
      shows = record { next = e; follows = is.follows };
    })
    (cc (r))
advanced_kept s l tried before k answer.NoMore n g t b h e r = absurd (cc (r))
advanced_kept s l tried before k (answer.NoMoreOutside x) n g t b h e r = absurd (cc (r))
advanced_kept s l tried before k answer.Spent n g t b h e r = absurd (cc (r))

-- ---- methods
unbuilt_not : {A : Type 0} (c : ContextSeen) (m : Method) (a : A) → unbuilt c m ≡ Ok a → ⊥
unbuilt_not {A} c m a e = let u = bind_ok (all_known c (method_facts m)) _ e in cc (u.2)

-- what a method tries is `match` with kept rules
record IsMatching (ax : List Tm) (tried : Tried) : Type 0 where
  pub kept : TriedKept ax tried
  pub askable : Askable tried 0

tried_with_kept : (c : ContextSeen) (m : Method) (o : Option (List (List ℕ))) (tried : Tried) → IsGrounded c → tried_with c m o ≡ Ok tried → IsMatching (axioms_of c.theory) tried
unfolding Askable
tried_with_kept c m (Some fs) tried g e =
    let rules = bind_ok (known_facts c fs) _ e in
    let same : Matching rules.0 ≡ tried = cc (rules.2) in
    subst (λ (x : Tried). IsMatching (axioms_of c.theory) x) same (record { kept = known_kept c fs rules.0 g rules.1; askable = tt })
tried_with_kept c m None tried g e = absurd (unbuilt_not c m tried e)

tried_by_kept : (c : ContextSeen) (m : Method) (tried : Tried) → IsGrounded c → tried_by c m ≡ Ok tried → IsMatching (axioms_of c.theory) tried
unfolding tried_by
tried_by_kept c m tried g e = tried_with_kept c m (match_facts m) tried g e

applied_first_kept : (s : Session) (line : ℕ) (l : OpenLemma) (m : Method) (o : Result (Tried × Answer Goals) Kind) (n : Next) → SessionKept s → LemmaKept (axioms_of s.context.theory) l → first_asked s.context l.state m ≡ o → applied_first s line l o ≡ Ok n → NextKept n
unfolding first_asked
applied_first_kept s line l m (Err k) n g lk f e = absurd (cc (e))
applied_first_kept s line l m (Ok p) n g lk f e =
    let t = bind_ok (tried_by s.context m) _ f in
    let a = bind_ok (asked s.context t.0 l.state 0) _ t.2 in
    let both : (t.0, a.0) ≡ p = cc (a.2) in
    let is = tried_by_kept s.context m t.0 g.context t.1 in
    advanced_kept s l t.0 l.state 0 a.0 n g is.kept lk.state is.askable (asked_ok s.context t.0 l.state 0 a.0 a.1)
    (subst (λ (q : Tried × Answer Goals). advanced s l q.0 l.state 0 (state_of q.1) ≡ Ok n) (sym both) e)

applying_kept : (s : Session) (line : ℕ) (m : Method) (l : OpenLemma) (n : Next) → SessionKept s → LemmaKept (axioms_of s.context.theory) l → applying s line m l ≡ Ok n → NextKept n
unfolding applying
applying_kept s line m l n g lk e = applied_first_kept s line l m (first_asked s.context l.state m) n g lk refl e

askable_next : (tried : Tried) (k : ℕ) → Askable tried (k + 1)
unfolding Askable
askable_next Opening k = omega arith
askable_next (Matching rules) k = tt

gone_back_kept : (s : Session) (line : ℕ) (l : OpenLemma) (o : Result (Answer Goals) Kind) (n : Next) → SessionKept s → LemmaKept (axioms_of s.context.theory) l → asked s.context l.tried l.before (l.rank + 1) ≡ o → gone_back s line l o ≡ Ok n → NextKept n
gone_back_kept s line l (Ok a) n g lk f e = advanced_kept s l l.tried l.before (l.rank + 1) a n g lk.tried lk.before (askable_next l.tried l.rank) (asked_ok s.context l.tried l.before (l.rank + 1) a f) e
gone_back_kept s line l (Err k) n g lk f e = absurd (cc (e))

going_back_kept : (s : Session) (line : ℕ) (l : OpenLemma) (n : Next) → SessionKept s → LemmaKept (axioms_of s.context.theory) l → going_back s line l ≡ Ok n → NextKept n
unfolding going_back
going_back_kept s line l n g lk e = gone_back_kept s line l (asked s.context l.tried l.before (l.rank + 1)) n g lk refl e

-- ---- the end of a proof
goal_derived : (s : Goals) → s.subgoals ≡ [] → IsStanding s → IsDerived (theorem_of_goal s)
goal_derived s e d = record { derivation = subst (λ (ts : List Tm). Derives (propositions s.base) [] (bare (implies ts s.goal))) e d.derivation }

goal_kept : (ax : List Tm) (s : Goals) → s.subgoals ≡ [] → StandsBy ax s → IsKept ax (theorem_of_goal s)
goal_kept ax s e st = record { derived = goal_derived s e st.stands; closed = refl; rests = st.rests }

stored_kept : (s : Session) (l : OpenLemma) (th : Theorem) (o : Result ContextSeen Kind) (n : Next) → SessionKept s → IsKept (axioms_of s.context.theory) th → storing s.context l.lemma th ≡ o → stored s l th o ≡ Ok n → NextKept n
stored_kept s l th (Err k) n g kth f e = absurd (cc (e))
stored_kept s l th (Ok c) n g kth f e =
    let u = bind_ok (new_fact_name s.context l.lemma.name) _ f in
    let last : IsKept (axioms_of s.context.theory) (general_of th) = general_kept (axioms_of s.context.theory) th kth in
    ok_kept (record { session = record { context = c; lemma = None }; shows = Some (ShownTheorem s.context l.lemma.name (general_of th).prop) }) n
    (record {
      session = record { context = stored_grounded s.context l.lemma.name l.lemma.attributes th c g.context kth u.2; lemma = tt };
      shows = record { derives = theorem_derives (axioms_of s.context.theory) (general_of th) last };
    })
    (cc (e))
  where
    theorem_derives : (ax : List Tm) (th : Theorem) → IsKept ax th → Derives ax [] (bare th.prop)
    theorem_derives ax th k = derives_more (propositions th.base) ax [] (bare th.prop) k.rests (subst (λ (hs : List Tm). Derives (propositions th.base) (map bare hs) (bare th.prop)) k.closed k.derived.derivation)

closed_kept : (s : Session) (l : OpenLemma) (ts : List Tm) (n : Next) → SessionKept s → LemmaKept (axioms_of s.context.theory) l → l.state.subgoals ≡ ts → closed s l ts ≡ Ok n → NextKept n
closed_kept s l [] n g lk h e = stored_kept s l (theorem_of_goal l.state) (storing s.context l.lemma (theorem_of_goal l.state)) n g (goal_kept (axioms_of s.context.theory) l.state h lk.state) refl e
closed_kept s l (t ∷ ts) n g lk h e = absurd (cc (e))

finishing_kept : (s : Session) (l : OpenLemma) (n : Next) → SessionKept s → LemmaKept (axioms_of s.context.theory) l → finishing s l ≡ Ok n → NextKept n
unfolding finishing
finishing_kept s l n g lk e = closed_kept s l l.state.subgoals n g lk refl e

-- ---- commands outside of proofs
mapped_opening : (p : Tm) (o : Option Goals) (state : Goals) (ax : List Tm) → started p ≡ o → option_map canon o ≡ Some state → StandsBy ax state
mapped_opening p None state ax e h = absurd (cc (h))
mapped_opening p (Some g) state ax e h =
    let same : canon g ≡ state = cc (h) in
    subst (λ (x : Goals). StandsBy ax x) same
    (record { stands = alone_stands p g e; rests = subst (λ b. Within (propositions b) ax) (sym (alone_base p g e)) (λ q m. absurd m) })

opening_of_stands : (p : Tm) (b : Bool) (state : Goals) (ax : List Tm) → cond b (Err kind.NotBuilt) (or_refused kind.Types (option_map canon (started p))) ≡ Ok state → StandsBy ax state
opening_of_stands p true state ax e = absurd (cc (e))
opening_of_stands p false state ax e = mapped_opening p (started p) state ax refl (some_ok kind.Types (option_map canon (started p)) e)

opened_kept : (s : Session) (line : ℕ) (lemma : Lemma) (o : Result Goals Kind) (n : Next) → SessionKept s → opening_of s.context lemma.goal ≡ o → opened s line lemma o ≡ Ok n → NextKept n
opened_kept s line lemma (Err k) n g f e = absurd (cc (e))
opened_kept s line lemma (Ok state) n g f e =
    let ax : List Tm = axioms_of s.context.theory in
    let st : StandsBy ax state = opening_of_stands lemma.goal (not (is_plain s.context lemma.goal) || has_counted lemma.goal) state ax f in
    ok_kept (record { session = record s { lemma = Some (record { lemma = lemma; before = state; tried = Opening; rank = 0; state = state }) }; shows = None }) n
    (record { session = record { context = g.context; lemma = record { before = st; tried = tt; state = st } }; shows = tt })
    (cc (e))

begun_kept : (s : Session) (line : ℕ) (o : Result Lemma Kind) (n : Next) → SessionKept s → begun s line o ≡ Ok n → NextKept n
begun_kept s line (Err k) n g e = absurd (cc (e))
begun_kept s line (Ok lemma) n g e = opened_kept s line lemma (opening_of s.context lemma.goal) n g refl e

option_not : (s : Session) (line : ℕ) (setting : Setting) (o : Result ContextSeen Kind) (n : Next) → unhonoured s.context setting ≡ o → declared s line o ≡ Ok n → ⊥
option_not s line setting (Err k) n f e = cc (e)
option_not s line setting (Ok c) n f e = let o = bind_ok (with_setting s.context.options setting) _ f in cc (o.2)

declared_kept : (s : Session) (line : ℕ) (k : Command) (o : Result ContextSeen Kind) (n : Next) → SessionKept s → s.lemma ≡ None → Applied s.context k o → declared s line o ≡ Ok n → NextKept n
declared_kept s line k (Err cause) n g none f e = absurd (cc (e))
declared_kept s line k (Ok c) n g none f e =
    ok_kept (record { session = record s { context = c }; shows = None }) n
    (record {
      session = record { context = applied_grounded s.context k c g.context f; lemma = subst (λ (o : Option OpenLemma). KeptIfOpen (axioms_of c.theory) o) (sym none) tt };
      shows = tt;
    })
    (cc (e))

declares_kept : (s : Session) (k : Command) (n : Next) → SessionKept s → s.lemma ≡ None → Declares s k (Ok n) → NextKept n
declares_kept s k n g none d = declared_kept s (line_of k) k d.of n g none d.told d.is

outside_kept : (s : Session) (k : Command) (n : Next) → SessionKept s → s.lemma ≡ None → Outside s k (Ok n) → NextKept n
unfolding Outside
outside_kept s (command.Typedecl line xs x) n g none d = declares_kept s (command.Typedecl line xs x) n g none d
outside_kept s (command.Judgment line x text) n g none d = declares_kept s (command.Judgment line x text) n g none d
outside_kept s (command.Consts line ks) n g none d = declares_kept s (command.Consts line ks) n g none d
outside_kept s (command.Axiomatization line axioms) n g none d = declares_kept s (command.Axiomatization line axioms) n g none d
outside_kept s (command.Lemma line label text) n g none d = begun_kept s line d.of n g d.is
outside_kept s (command.SchematicGoal line label text) n g none d = begun_kept s line d.of n g d.is
outside_kept s (command.Lemmas line label xs) n g none d = declares_kept s (command.Lemmas line label xs) n g none d
outside_kept s (command.Declare line ds) n g none d = declares_kept s (command.Declare line ds) n g none d
outside_kept s (command.DeclareOption line setting) n g none d = absurd (option_not s line setting (unhonoured s.context setting) n refl d)
outside_kept s (command.Wrapper line safe before x m) n g none d = declares_kept s (command.Wrapper line safe before x m) n g none d
outside_kept s (command.Apply line m) n g none d = declares_kept s (command.Apply line m) n g none d
outside_kept s (command.By line m) n g none d = declares_kept s (command.By line m) n g none d
outside_kept s (command.Done line) n g none d = declares_kept s (command.Done line) n g none d
outside_kept s (command.Back line) n g none d = declares_kept s (command.Back line) n g none d
outside_kept s (command.Oops line) n g none d = declares_kept s (command.Oops line) n g none d
outside_kept s (command.Print line count) n g none d = declares_kept s (command.Print line count) n g none d

-- ---- all commands
not_yet_not : (line : ℕ) (o : Result (Unit {0}) Kind) (n : Next) → not_yet line o ≡ Ok n → NextKept n
not_yet_not line (Ok done) n e = absurd (cc (e))
not_yet_not line (Err k) n e = absurd (cc (e))

refused_not : (line : ℕ) (k : Kind) (n : Next) → refused line k ≡ Ok n → NextKept n
refused_not line k n e = absurd (cc (e))

proving_kept : (s : Session) (l : OpenLemma) (k : Command) (n : Next) → SessionKept s → LemmaKept (axioms_of s.context.theory) l → proving s l k ≡ Ok n → NextKept n
unfolding proving
proving_kept s l (command.Typedecl line xs x) n g lk e = refused_not line kind.InProof n e
proving_kept s l (command.Judgment line x text) n g lk e = refused_not line kind.InProof n e
proving_kept s l (command.Consts line ks) n g lk e = refused_not line kind.InProof n e
proving_kept s l (command.Axiomatization line axioms) n g lk e = refused_not line kind.InProof n e
proving_kept s l (command.Lemma line label text) n g lk e = refused_not line kind.InProof n e
proving_kept s l (command.SchematicGoal line label text) n g lk e = refused_not line kind.InProof n e
proving_kept s l (command.Lemmas line label xs) n g lk e = refused_not line kind.InProof n e
proving_kept s l (command.Declare line ds) n g lk e = refused_not line kind.InProof n e
proving_kept s l (command.DeclareOption line setting) n g lk e = refused_not line kind.InProof n e
proving_kept s l (command.Wrapper line safe before x m) n g lk e = refused_not line kind.InProof n e
proving_kept s l (command.Apply line m) n g lk e = applying_kept s line m l n g lk e
proving_kept s l (command.By line m) n g lk e = not_yet_not line (all_known s.context (method_facts m)) n e
proving_kept s l (command.Done line) n g lk e = finishing_kept s l n g lk e
proving_kept s l (command.Back line) n g lk e = going_back_kept s line l n g lk e
proving_kept s l (command.Oops line) n g lk e = ok_kept (record { session = dropped s; shows = None }) n (record { session = dropped_kept s g; shows = tt }) (cc (e))
proving_kept s l (command.Print line count) n g lk e = refused_not line kind.NotBuilt n e

comes_kept_in : (s : Session) (o : Option OpenLemma) (k : Command) (n : Next) → SessionKept s → s.lemma ≡ o → ComesIn s o k (Ok n) → NextKept n
comes_kept_in s None k n g h d = outside_kept s k n g h d
comes_kept_in s (Some l) k n g h d = proving_kept s l k n g (subst (λ (o : Option OpenLemma). KeptIfOpen (axioms_of s.context.theory) o) h g.lemma) d

pub comes_kept : (s : Session) (k : Command) (n : Next) → SessionKept s → Comes s k (Ok n) → NextKept n
comes_kept s k n g d = comes_kept_in s s.lemma k n g refl d
