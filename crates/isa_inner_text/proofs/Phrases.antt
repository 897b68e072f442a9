-- What is read is a phrase of the grammar.
use Rattle.std.proofs.Common.{◌≡◌, ℕ, ◌≤◌, ◌+◌, Bool, true, false, cond, not, ◌&&◌, nat_le, nat_lt, nat_eq, max, List, [], ◌∷◌, ◌++◌, length, Option, None, Some, refl, sym, ap, subst, ◌∙◌, append_assoc, arith}
use Rattle.isa_terms.specs.Types.{Ty}
use Rattle.isa_inner.specs.declared.token.InfixSign.{InfixSign}
use Rattle.isa_inner.specs.declared.token.InfixSign.TheVariants as infix_sign
use Rattle.isa_inner.specs.declared.token.BinderSign.{BinderSign}
use Rattle.isa_inner.specs.declared.token.BinderSign.TheVariants as binder_sign
use Rattle.isa_inner.specs.declared.token.Mark.TheVariants as mark
use Rattle.isa_inner.specs.declared.token.Wanted.{Wanted}
use Rattle.isa_inner.specs.declared.token.Wanted.TheVariants as wanted
use Rattle.isa_inner.specs.Priorities.{infix_own, infix_left, infix_right, infix_operands, prefix_own, binder_own, binder_body, operators}
use Rattle.isa_inner_types.specs.declared.token.TermToken.TheVariants as term
use Rattle.isa_inner_types.specs.declared.token.TextToken.{TextToken}
use Rattle.isa_inner_types.specs.declared.token.TextToken.TheVariants as token
use Rattle.isa_inner_types.specs.TypeGrammar.{TypePhrase}
use Rattle.isa_inner_types.specs.TypeReading as types
use Rattle.isa_inner_types.proofs.TypePhrases.{reads_types}
use Rattle.isa_raw.specs.RawTerms.{Raw, RawName, RawUnknown, RawConst, RawApp}
use Rattle.isa_inner_text.specs.Signatures.{SignatureSeen}
use Rattle.isa_inner_text.specs.declared.refusal.Refusal.TheVariants as refusal
use Rattle.isa_inner_text.specs.declared.refusal.Expected.TheVariants as need
use Rattle.isa_inner_text.specs.declared.part.Part.{Part}
use Rattle.isa_inner_text.specs.declared.part.Variable.{Variable}
use Rattle.isa_inner_text.specs.Parts.{closed, parenthesised, applied, annotated, joined, prefixed, bound, bracketed, judged, under, implied}
use Rattle.isa_inner_text.specs.Reading.{Outcome, Read, Refused, Place, Operand, Behind, Bindings, Premises, Step, Ends, Goes, Inside, InType, and_then, refuse, starts, behind_first, expect, expect_name, expect_arrow, with_judgment, complete, limit, begins, front, goes_on, unless_deep, further, is_met, is_variable, variable_of, variable, body, behind_variable, is_first, bindings, conclusion, behind_premise, premises, operand_expected, step, Runs, at_end, text}
use Rattle.isa_inner_text.specs.Grammar as grammar
use Rattle.isa_inner_text.specs.Grammar.{VariablePhrase, Bare, Typed, Variables, NoVariables, MoreVariables, Each, Only, Phrase, Named, Unknown, Parenthesised, Between, Bracketed, Annotated, Prefixed, Bound, Applied, Function, Head, More, Due, AsTerm, AsProposition, Judged, LastPremise, MorePremises, ReadsPhrases}
use Rattle.isa_inner_text.proofs.Walk.{MeansStep, le_of, eq_of, and_left, and_right, starts_mark, expected, expected_name, expected_arrow, inner_of, type_of, steps_mean}

module _ (sig : SignatureSeen) where
  -- the part may stand where a priority up to its own is wanted; read from the tokens `start`
  pub record Stands (start : List TextToken) (p : Part) (ts : List TextToken) : Type 0 where
    pub phrase : (n : ℕ) → n ≤ p.priority → Phrase sig n start p.term p.is_proposition ts
    pub function : p.is_function ≡ true → Function sig start p.term ts

  -- premises that were read, and those behind them
  abbrev Before : List TextToken → List Raw → List TextToken → Type 0
  Before start before ts = (as_ : List Raw) (rest : List TextToken) → grammar.Premises sig ts as_ rest → grammar.Premises sig start (before ++ as_) rest

  -- variables that were read, and those behind them
  abbrev VariablesBefore : List TextToken → List Variable → List TextToken → Type 0
  VariablesBefore start before ts = (vs : List Variable) (rest : List TextToken) → Variables ts vs rest → Variables start (before ++ vs) rest

  -- what an outcome of a place means in the grammar
  abbrev Means : Outcome → Place → List TextToken → Type 0
  Means (Refused why) p ts = Unit {0}
  Means (Read p rest) (Operand d w m) ts = Phrase sig m ts p.term p.is_proposition rest
  Means (Read p rest) (Behind d m left) ts = (start : List TextToken) → m ≤ left.priority → Stands start left ts → Phrase sig m start p.term p.is_proposition rest
  Means (Read p rest) (Bindings d s vs h) ts = (start : List TextToken) → (is_first vs ≡ true → start ≡ ts) → VariablesBefore start vs ts → (p.priority ≡ binder_own s) × Stands (token.Other (term.Binder s) ∷ start) p rest
  Means (Read p rest) (Premises d before h) ts = (start : List TextToken) → Before start before ts → (p.priority ≡ 1) × Stands (token.Other term.OpenPremises ∷ start) p rest

  -- a name or an unknown
  stands_closed : (start ts : List TextToken) (t : Raw) → ((n : ℕ) → n ≤ 1000 → Phrase sig n start t false ts) → Stands start (closed t) ts
  stands_closed start ts t p = record { phrase = p; function = λ e. Head t false start ts (p 1000 (omega arith)) }

  -- what has no arguments
  stands_plain : (start ts : List TextToken) (p : Part) → p.is_function ≡ false → ((n : ℕ) → n ≤ p.priority → Phrase sig n start p.term p.is_proposition ts) → Stands start p ts
  stands_plain start ts p e f = record { phrase = f; function = λ t. absurd cc }

  -- what begins an operand
  front_means : (d m : ℕ) (ts : List TextToken) (q : Part) (rest : List TextToken) → begins m ts ≡ true → MeansStep Means (front sig d m ts) (Read q rest) → Phrase sig m ts q.term q.is_proposition rest
  front_means d m [] q rest e g = absurd cc
  front_means d m (token.Name x n ∷ ts) q rest e g =
      g (token.Name x n ∷ ts) (le_of m 1000 e) (stands_closed (token.Name x n ∷ ts) ts (RawName x) (λ k l. Named k x n ts l))
  front_means d m (token.Other (term.Unknown x) ∷ ts) q rest e g =
      g (token.Other (term.Unknown x) ∷ ts) (le_of m 1000 e) (stands_closed (token.Other (term.Unknown x) ∷ ts) ts (RawUnknown x) (λ k l. Unknown k x ts l))
  front_means d m (token.Open ∷ ts) q rest e g =
      let c = inner_of Means (Operand (d + 1) wanted.Term 0) ts (λ p later. expect mark.Close later (λ end. Goes (Behind d m (parenthesised p)) end)) q rest g in
      let x = expected Means mark.Close c.later (λ end. Goes (Behind d m (parenthesised c.part)) end) q rest c.goes_on_so in
      let p : ((n : ℕ) → n ≤ 1000 → Phrase sig n (token.Open ∷ ts) c.part.term c.part.is_proposition (behind_first c.later)) = λ n k. Parenthesised n c.part.term c.part.is_proposition ts (behind_first c.later) k (subst (λ (l : List TextToken). Phrase sig 0 ts c.part.term c.part.is_proposition l) x.0 c.reads) in
      x.1 (token.Open ∷ ts) (le_of m 1000 e) (record { phrase = p; function = λ f. Head c.part.term c.part.is_proposition (token.Open ∷ ts) (behind_first c.later) (p 1000 (omega arith)) })
  front_means d m (token.Other term.OpenPremises ∷ ts) q rest e g =
      let c = inner_of Means (Premises d [] 0) ts (λ p later. Goes (Behind d m p) later) q rest g in
      let k = c.reads ts (λ as_ r p. p) in
      c.goes_on_so (token.Other term.OpenPremises ∷ ts) (omega (arith, le_of m 1 e, k.0)) k.1
  front_means d m (token.Other (term.Prefix s) ∷ ts) q rest e g =
      let c = inner_of Means (Operand (d + 1) wanted.Term (prefix_own s)) ts (λ p later. Goes (Behind d m (prefixed sig s p)) later) q rest g in
      c.goes_on_so (token.Other (term.Prefix s) ∷ ts) (le_of m (prefix_own s) e)
      (stands_plain (token.Other (term.Prefix s) ∷ ts) c.later (prefixed sig s c.part) refl (λ n k. Prefixed n s c.part.term c.part.is_proposition ts c.later k c.reads))
  front_means d m (token.Other (term.Binder s) ∷ ts) q rest e g =
      let c = inner_of Means (Bindings d s [] 0) ts (λ p later. Goes (Behind d m p) later) q rest g in
      let k = c.reads ts (λ f. refl) (λ vs r p. p) in
      c.goes_on_so (token.Other (term.Binder s) ∷ ts) (omega (arith, le_of m (binder_own s) e, k.0)) k.1
  front_means d m (token.Variable x ∷ ts) q rest e g = absurd cc
  front_means d m (token.Unknown x ∷ ts) q rest e g = absurd cc
  front_means d m (token.Close ∷ ts) q rest e g = absurd cc
  front_means d m (token.OpenList ∷ ts) q rest e g = absurd cc
  front_means d m (token.CloseList ∷ ts) q rest e g = absurd cc
  front_means d m (token.Comma ∷ ts) q rest e g = absurd cc
  front_means d m (token.Arrow ∷ ts) q rest e g = absurd cc
  front_means d m (token.Refused n ∷ ts) q rest e g = absurd cc
  front_means d m (token.Other (term.Infix s) ∷ ts) q rest e g = absurd cc
  front_means d m (token.Other term.Dot ∷ ts) q rest e g = absurd cc
  front_means d m (token.Other term.Colons ∷ ts) q rest e g = absurd cc
  front_means d m (token.Other term.Semicolon ∷ ts) q rest e g = absurd cc
  front_means d m (token.Other term.ClosePremises ∷ ts) q rest e g = absurd cc
  front_means d m (token.Other (term.Symbol x) ∷ ts) q rest e g = absurd cc
  front_means d m (token.Other (term.Schematic x) ∷ ts) q rest e g = absurd cc

  operand_means : (d : ℕ) (w : Wanted) (m : ℕ) (ts : List TextToken) (q : Part) (rest : List TextToken) → MeansStep Means (step sig (Operand d w m) ts) (Read q rest) → Phrase sig m ts q.term q.is_proposition rest
  operand_means d w m ts q rest g = choice (nat_lt limit d) (begins m ts) refl g
    where
      choice : (deep b : Bool) → begins m ts ≡ b → MeansStep Means (cond deep (Ends (Refused refusal.Deep)) (cond b (front sig d m ts) (refuse (operand_expected w) ts))) (Read q rest) → Phrase sig m ts q.term q.is_proposition rest
      choice true b e g = absurd cc
      choice false true e g = front_means d m ts q rest e g
      choice false false e g = absurd cc

  -- a term or a proposition is due
  pub data IsDue : Wanted → Type 0 where
    TermIsDue : IsDue wanted.Term
    PropositionIsDue : IsDue wanted.Proposition

  due_infix : (s : InfixSign) → IsDue (infix_operands s)
  due_infix infix_sign.Implies = PropositionIsDue
  due_infix infix_sign.Equals = TermIsDue
  due_infix (infix_sign.Declared c f p) = TermIsDue

  due_body : (s : BinderSign) → IsDue (binder_body s)
  due_body binder_sign.Every = PropositionIsDue
  due_body binder_sign.Lambda = TermIsDue
  due_body (binder_sign.Declared c p) = TermIsDue

  -- what a complete term is, and how the step goes on
  pub record Completed (w : Wanted) (m : ℕ) (start : List TextToken) (ts : List TextToken) (go : Part → Step) (u : Outcome) : Type 0 where
    pub part : Part
    pub due : Due sig w m start part.term ts
    pub goes_on_so : MeansStep Means (go part) u

  with_judgment_means : (o : Option (List ℕ)) (m : ℕ) (start ts : List TextToken) (p : Part) (go : Part → Step) (q : Part) (rest : List TextToken) → sig.judgment ≡ o → Phrase sig m start p.term false ts → MeansStep Means (with_judgment o p go) (Read q rest) → Completed wanted.Proposition m start ts go (Read q rest)
  with_judgment_means None m start ts p go q rest e a g = absurd cc
  with_judgment_means (Some J) m start ts p go q rest e a g = record { part = judged J p; due = Judged m J p.term start ts e a; goes_on_so = g }

  completed : (w : Wanted) (m : ℕ) (start ts : List TextToken) (p : Part) (go : Part → Step) (q : Part) (rest : List TextToken) → IsDue w → Phrase sig m start p.term p.is_proposition ts → MeansStep Means (complete sig w p go) (Read q rest) → Completed w m start ts go (Read q rest)
  completed _ m start ts p go q rest TermIsDue a g = record { part = p; due = AsTerm m p.term p.is_proposition start ts a; goes_on_so = g }
  completed _ m start ts p go q rest PropositionIsDue a g = choice p.is_proposition a g
    where
      choice : (b : Bool) → Phrase sig m start p.term b ts → MeansStep Means (cond b (go p) (with_judgment sig.judgment p go)) (Read q rest) → Completed wanted.Proposition m start ts go (Read q rest)
      choice true a g = record { part = p; due = AsProposition m p.term start ts a; goes_on_so = g }
      choice false a g = with_judgment_means sig.judgment m start ts p go q rest refl a g

  -- what goes on behind a left operand
  argument_means : (d m : ℕ) (left : Part) (ts start : List TextToken) (q : Part) (rest : List TextToken) (b : Bool) → (nat_le m 999 && (left.is_function && b)) ≡ true → Stands start left ts → MeansStep Means (Inside (Operand d wanted.Term 1000) ts (and_then (λ a later. Goes (Behind d m (applied left a)) later))) (Read q rest) → Phrase sig m start q.term q.is_proposition rest
  argument_means d m left ts start q rest b e l g =
      let c = inner_of Means (Operand d wanted.Term 1000) ts (λ a later. Goes (Behind d m (applied left a)) later) q rest g in
      let f : Function sig start left.term ts = l.function (and_left left.is_function b (and_right (nat_le m 999) (left.is_function && b) e)) in
      c.goes_on_so start (le_of m 999 (and_left (nat_le m 999) (left.is_function && b) e))
      (record { phrase = λ n j. Applied n left.term c.part.term c.part.is_proposition start ts c.later j f c.reads; function = λ t. More left.term c.part.term c.part.is_proposition start ts c.later f c.reads })

  right_means : (d m : ℕ) (l : Part) (s : InfixSign) (ts start : List TextToken) (q : Part) (rest : List TextToken) → m ≤ infix_own s → Due sig (infix_operands s) (infix_left s) start l.term (token.Other (term.Infix s) ∷ ts)
      → MeansStep Means (Inside (Operand (d + 1) (infix_operands s) (infix_right s)) ts (and_then (λ p later. complete sig (infix_operands s) p (λ r. Goes (Behind d m (joined sig s l r)) later)))) (Read q rest) → Phrase sig m start q.term q.is_proposition rest
  right_means d m l s ts start q rest k a g =
      let c = inner_of Means (Operand (d + 1) (infix_operands s) (infix_right s)) ts (λ p later. complete sig (infix_operands s) p (λ r. Goes (Behind d m (joined sig s l r)) later)) q rest g in
      let r = completed (infix_operands s) (infix_right s) ts c.later c.part (λ r. Goes (Behind d m (joined sig s l r)) c.later) q rest (due_infix s) c.reads c.goes_on_so in
      r.goes_on_so start k (stands_plain start c.later (joined sig s l r.part) refl (λ n j. Between n s l.term r.part.term start ts c.later j a r.due))

  infix_means : (d m : ℕ) (left : Part) (s : InfixSign) (ts start : List TextToken) (q : Part) (rest : List TextToken) → (nat_le m (infix_own s) && nat_le (infix_left s) left.priority) ≡ true → Stands start left (token.Other (term.Infix s) ∷ ts) → MeansStep Means (further sig d m left (token.Other (term.Infix s) ∷ ts)) (Read q rest) → Phrase sig m start q.term q.is_proposition rest
  infix_means d m left s ts start q rest e l g =
      let a : Phrase sig (infix_left s) start left.term left.is_proposition (token.Other (term.Infix s) ∷ ts) = l.phrase (infix_left s) (le_of (infix_left s) left.priority (and_right (nat_le m (infix_own s)) (nat_le (infix_left s) left.priority) e)) in
      let c = completed (infix_operands s) (infix_left s) start (token.Other (term.Infix s) ∷ ts) left
      (λ l. unless_deep (d + l.height) (Inside (Operand (d + 1) (infix_operands s) (infix_right s)) ts (and_then (λ p later. complete sig (infix_operands s) p (λ r. Goes (Behind d m (joined sig s l r)) later)))))
      q rest (due_infix s) a g in
      choice c.part c.due (nat_lt (d + c.part.height) limit) c.goes_on_so
    where
      choice : (l : Part) → Due sig (infix_operands s) (infix_left s) start l.term (token.Other (term.Infix s) ∷ ts) → (b : Bool)
          → MeansStep Means (cond b (Inside (Operand (d + 1) (infix_operands s) (infix_right s)) ts (and_then (λ p later. complete sig (infix_operands s) p (λ r. Goes (Behind d m (joined sig s l r)) later)))) (Ends (Refused refusal.Deep))) (Read q rest) → Phrase sig m start q.term q.is_proposition rest
      choice l a true g = right_means d m l s ts start q rest (le_of m (infix_own s) (and_left (nat_le m (infix_own s)) (nat_le (infix_left s) left.priority) e)) a g
      choice l a false g = absurd cc

  colons_means : (d m : ℕ) (left : Part) (ts start : List TextToken) (q : Part) (rest : List TextToken) → (nat_le m 3 && nat_le 4 left.priority) ≡ true → Stands start left (token.Other term.Colons ∷ ts) → MeansStep Means (further sig d m left (token.Other term.Colons ∷ ts)) (Read q rest) → Phrase sig m start q.term q.is_proposition rest
  colons_means d m left ts start q rest e l g = choice (nat_lt (d + left.height) limit) g
    where
      choice : (b : Bool) → MeansStep Means (cond b (InType (d + 1) ts (λ T h later. Goes (Behind d m (annotated left T h)) later)) (Ends (Refused refusal.Deep))) (Read q rest) → Phrase sig m start q.term q.is_proposition rest
      choice true g =
          let x = type_of Means (d + 1) ts (λ T h later. Goes (Behind d m (annotated left T h)) later) q rest g in
          let a : Phrase sig 4 start left.term left.is_proposition (token.Other term.Colons ∷ ts) = l.phrase 4 (le_of 4 left.priority (and_right (nat_le m 3) (nat_le 4 left.priority) e)) in
          let p : TypePhrase ts x.T x.later = reads_types (d + 1) ts x.T x.h x.later x.reads in
          x.goes_on_so start (le_of m 3 (and_left (nat_le m 3) (nat_le 4 left.priority) e))
          (stands_plain start x.later (annotated left x.T x.h) refl (λ n j. Annotated n left.term left.is_proposition x.T start ts x.later j a p))
      choice false g = absurd cc

  further_means : (d m : ℕ) (left : Part) (ts start : List TextToken) (q : Part) (rest : List TextToken) → goes_on m left ts ≡ true → Stands start left ts → MeansStep Means (further sig d m left ts) (Read q rest) → Phrase sig m start q.term q.is_proposition rest
  further_means d m left [] start q rest e l g = argument_means d m left [] start q rest false e l g
  further_means d m left (token.Name x n ∷ ts) start q rest e l g = argument_means d m left (token.Name x n ∷ ts) start q rest true e l g
  further_means d m left (token.Variable x ∷ ts) start q rest e l g = argument_means d m left (token.Variable x ∷ ts) start q rest false e l g
  further_means d m left (token.Unknown x ∷ ts) start q rest e l g = argument_means d m left (token.Unknown x ∷ ts) start q rest false e l g
  further_means d m left (token.Open ∷ ts) start q rest e l g = argument_means d m left (token.Open ∷ ts) start q rest true e l g
  further_means d m left (token.Close ∷ ts) start q rest e l g = argument_means d m left (token.Close ∷ ts) start q rest false e l g
  further_means d m left (token.OpenList ∷ ts) start q rest e l g = argument_means d m left (token.OpenList ∷ ts) start q rest false e l g
  further_means d m left (token.CloseList ∷ ts) start q rest e l g = argument_means d m left (token.CloseList ∷ ts) start q rest false e l g
  further_means d m left (token.Comma ∷ ts) start q rest e l g = argument_means d m left (token.Comma ∷ ts) start q rest false e l g
  further_means d m left (token.Arrow ∷ ts) start q rest e l g = argument_means d m left (token.Arrow ∷ ts) start q rest false e l g
  further_means d m left (token.Refused n ∷ ts) start q rest e l g = argument_means d m left (token.Refused n ∷ ts) start q rest false e l g
  further_means d m left (token.Other (term.Unknown x) ∷ ts) start q rest e l g = argument_means d m left (token.Other (term.Unknown x) ∷ ts) start q rest true e l g
  further_means d m left (token.Other (term.Infix s) ∷ ts) start q rest e l g = infix_means d m left s ts start q rest e l g
  further_means d m left (token.Other (term.Prefix s) ∷ ts) start q rest e l g = argument_means d m left (token.Other (term.Prefix s) ∷ ts) start q rest (begins 1000 (token.Other (term.Prefix s) ∷ ts)) e l g
  further_means d m left (token.Other (term.Binder s) ∷ ts) start q rest e l g = argument_means d m left (token.Other (term.Binder s) ∷ ts) start q rest (begins 1000 (token.Other (term.Binder s) ∷ ts)) e l g
  further_means d m left (token.Other term.Dot ∷ ts) start q rest e l g = argument_means d m left (token.Other term.Dot ∷ ts) start q rest false e l g
  further_means d m left (token.Other term.Colons ∷ ts) start q rest e l g = colons_means d m left ts start q rest e l g
  further_means d m left (token.Other term.OpenPremises ∷ ts) start q rest e l g = argument_means d m left (token.Other term.OpenPremises ∷ ts) start q rest false e l g
  further_means d m left (token.Other term.Semicolon ∷ ts) start q rest e l g = argument_means d m left (token.Other term.Semicolon ∷ ts) start q rest false e l g
  further_means d m left (token.Other term.ClosePremises ∷ ts) start q rest e l g = argument_means d m left (token.Other term.ClosePremises ∷ ts) start q rest false e l g
  further_means d m left (token.Other (term.Symbol x) ∷ ts) start q rest e l g = argument_means d m left (token.Other (term.Symbol x) ∷ ts) start q rest false e l g
  further_means d m left (token.Other (term.Schematic x) ∷ ts) start q rest e l g = argument_means d m left (token.Other (term.Schematic x) ∷ ts) start q rest false e l g

  behind_means : (d m : ℕ) (left : Part) (ts : List TextToken) (q : Part) (rest : List TextToken) → MeansStep Means (step sig (Behind d m left) ts) (Read q rest) → (start : List TextToken) → m ≤ left.priority → Stands start left ts → Phrase sig m start q.term q.is_proposition rest
  behind_means d m left ts q rest g start n l = choice (is_met ts) (goes_on m left ts) refl g
    where
      choice : (met b : Bool) → goes_on m left ts ≡ b → MeansStep Means (cond met (refuse need.EndOfText ts) (cond b (further sig d m left ts) (Ends (Read left ts)))) (Read q rest) → Phrase sig m start q.term q.is_proposition rest
      choice true b e g = absurd cc
      choice false true e g = further_means d m left ts start q rest e l g
      choice false false e g =
          let same : q ≡ left = cc in
          let rests : rest ≡ ts = cc in
          subst (λ (x : Part). Phrase sig m start x.term x.is_proposition rest) (sym same) (subst (λ (y : List TextToken). Phrase sig m start left.term left.is_proposition y) (sym rests) (l.phrase m n))

  -- a variable of a binder that was read, and how the step goes on
  pub data VariableRead (d : ℕ) (first : Bool) (ts : List TextToken) (go : Variable → ℕ → Bool → List TextToken → Step) (u : Outcome) : Type 0 where
    One : (v : Variable) (k : ℕ) (later : List TextToken) → VariablePhrase ts v later → MeansStep Means (go v k false later) u → VariableRead d first ts go u
    Alone : (x : List ℕ) (n : Option ℕ) (T : Ty) (k : ℕ) (more later : List TextToken) → first ≡ true → ts ≡ token.Name x n ∷ token.Other term.Colons ∷ more → TypePhrase more T later → MeansStep Means (go (variable_of x (Some T)) k true later) u → VariableRead d first ts go u

  variable_means : (d : ℕ) (first : Bool) (ts : List TextToken) (go : Variable → ℕ → Bool → List TextToken → Step) (q : Part) (rest : List TextToken) → MeansStep Means (variable d first ts go) (Read q rest) → VariableRead d first ts go (Read q rest)
  variable_means d first ts go q rest g = choice (starts mark.Open ts) refl g
    where
      behind_name : (x : List ℕ) (n : Option ℕ) (later : List TextToken) → ts ≡ token.Name x n ∷ later → (only : Bool) → (first && starts mark.Colons later) ≡ only
          → MeansStep Means (cond only (InType (d + 1) (behind_first later) (λ T h end. go (variable_of x (Some T)) (h + 1) true end)) (go (variable_of x None) 0 false later)) (Read q rest) → VariableRead d first ts go (Read q rest)
      behind_name x n later e false f g = One (variable_of x None) 0 later (subst (λ (l : List TextToken). VariablePhrase l (variable_of x None) later) (sym e) (Bare x n later)) g
      behind_name x n later e true f g =
          let t = type_of Means (d + 1) (behind_first later) (λ T h end. go (variable_of x (Some T)) (h + 1) true end) q rest g in
          let colons : later ≡ token.Other term.Colons ∷ behind_first later = starts_mark mark.Colons later (and_right first (starts mark.Colons later) f) in
          Alone x n t.T (t.h + 1) (behind_first later) t.later (and_left first (starts mark.Colons later) f) (e ∙ ap (λ (l : List TextToken). token.Name x n ∷ l) colons) (reads_types (d + 1) (behind_first later) t.T t.h t.later t.reads) t.goes_on_so

      choice : (b : Bool) → starts mark.Open ts ≡ b
          → MeansStep Means (cond b
          (expect_name (behind_first ts) (λ x later. expect mark.Colons later (λ more. InType (d + 2) more (λ T h last. expect mark.Close last (λ end. go (variable_of x (Some T)) (h + 2) false end)))))
          (expect_name ts (λ x later. cond (first && starts mark.Colons later) (InType (d + 1) (behind_first later) (λ T h end. go (variable_of x (Some T)) (h + 1) true end)) (go (variable_of x None) 0 false later)))) (Read q rest)
          → VariableRead d first ts go (Read q rest)
      choice true e g =
          let x = expected_name Means (behind_first ts) (λ x later. expect mark.Colons later (λ more. InType (d + 2) more (λ T h last. expect mark.Close last (λ end. go (variable_of x (Some T)) (h + 2) false end)))) q rest g in
          let colons = expected Means mark.Colons x.2 (λ more. InType (d + 2) more (λ T h last. expect mark.Close last (λ end. go (variable_of x.0 (Some T)) (h + 2) false end))) q rest x.4 in
          let t = type_of Means (d + 2) (behind_first x.2) (λ T h last. expect mark.Close last (λ end. go (variable_of x.0 (Some T)) (h + 2) false end)) q rest colons.1 in
          let close = expected Means mark.Close t.later (λ end. go (variable_of x.0 (Some t.T)) (t.h + 2) false end) q rest t.goes_on_so in
          let tokens : ts ≡ token.Open ∷ token.Name x.0 x.1 ∷ token.Other term.Colons ∷ behind_first x.2 =
          starts_mark mark.Open ts e ∙ ap (λ (l : List TextToken). token.Open ∷ l) (x.3 ∙ ap (λ (l : List TextToken). token.Name x.0 x.1 ∷ l) colons.0) in
          let p : TypePhrase (behind_first x.2) t.T (token.Close ∷ behind_first t.later) = subst (λ (l : List TextToken). TypePhrase (behind_first x.2) t.T l) close.0 (reads_types (d + 2) (behind_first x.2) t.T t.h t.later t.reads) in
          One (variable_of x.0 (Some t.T)) (t.h + 2) (behind_first t.later) (subst (λ (l : List TextToken). VariablePhrase l (variable_of x.0 (Some t.T)) (behind_first t.later)) (sym tokens) (Typed x.0 x.1 t.T (behind_first x.2) (behind_first t.later) p)) close.1
      choice false e g =
          let x = expected_name Means ts (λ x later. cond (first && starts mark.Colons later) (InType (d + 1) (behind_first later) (λ T h end. go (variable_of x (Some T)) (h + 1) true end)) (go (variable_of x None) 0 false later)) q rest g in
          behind_name x.0 x.1 x.2 x.3 (first && starts mark.Colons x.2) refl x.4

  -- the body behind the variables
  body_means : (d : ℕ) (s : BinderSign) (vs : List Variable) (h : ℕ) (ts start : List TextToken) (q : Part) (rest : List TextToken) → grammar.Bindings start vs (token.Other term.Dot ∷ ts) → MeansStep Means (body sig d s vs h ts) (Read q rest) → (q.priority ≡ binder_own s) × Stands (token.Other (term.Binder s) ∷ start) q rest
  body_means d s vs h ts start q rest b g =
      let c = inner_of Means (Operand (d + (operators s + length vs)) (binder_body s) (binder_own s)) ts (λ p later. complete sig (binder_body s) p (λ t. Ends (Read (bound sig s vs h t) later))) q rest g in
      let t = completed (binder_body s) (binder_own s) ts c.later c.part (λ t. Ends (Read (bound sig s vs h t) c.later)) q rest (due_body s) c.reads c.goes_on_so in
      let e : Read q rest ≡ Read (bound sig s vs h t.part) c.later = t.goes_on_so in
      let same : q ≡ bound sig s vs h t.part = cc in
      let rests : rest ≡ c.later = cc in (
        ap (λ (p : Part). p.priority) same,
        subst (λ (p : Part). Stands (token.Other (term.Binder s) ∷ start) p rest) (sym same)
            (subst (λ (l : List TextToken). Stands (token.Other (term.Binder s) ∷ start) (bound sig s vs h t.part) l) (sym rests)
            (stands_plain (token.Other (term.Binder s) ∷ start) c.later (bound sig s vs h t.part) refl (λ n k. Bound n s vs t.part.term start ts c.later k b t.due))),
      )

  -- variables that end in one are at least one
  each : (start rest : List TextToken) (vs : List Variable) (v : Variable) → Variables start (vs ++ v ∷ []) rest → grammar.Bindings start (vs ++ v ∷ []) rest
  each start rest [] v p = Each v [] start rest p
  each start rest (u ∷ us) v p = Each u (us ++ v ∷ []) start rest p

  none_first : (vs : List Variable) (v : Variable) → is_first (vs ++ v ∷ []) ≡ true → ⊥
  none_first [] v e = cc
  none_first (u ∷ us) v e = cc

  only : (start ts more later : List TextToken) (vs : List Variable) (x : List ℕ) (n : Option ℕ) (T : Ty) → is_first vs ≡ true → start ≡ ts → ts ≡ token.Name x n ∷ token.Other term.Colons ∷ more → TypePhrase more T later → grammar.Bindings start (vs ++ variable_of x (Some T) ∷ []) later
  only start ts more later [] x n T e s t p = subst (λ (l : List TextToken). grammar.Bindings l (variable_of x (Some T) ∷ []) later) (sym (s ∙ t)) (Only x n T more later p)
  only start ts more later (v ∷ vs) x n T e s t p = absurd cc

  bindings_means : (d : ℕ) (s : BinderSign) (vs : List Variable) (h : ℕ) (ts : List TextToken) (q : Part) (rest : List TextToken) → MeansStep Means (bindings sig d s vs h ts) (Read q rest) → (start : List TextToken) → (is_first vs ≡ true → start ≡ ts) → VariablesBefore start vs ts → (q.priority ≡ binder_own s) × Stands (token.Other (term.Binder s) ∷ start) q rest
  bindings_means d s vs h ts q rest g start here before =
      by (variable_means d (is_first vs) ts (λ v k only later. behind_variable sig d s (vs ++ (v ∷ [])) (max h k) only later) q rest g)
    where
      go_on : (v : Variable) (k : ℕ) (later : List TextToken) → VariablePhrase ts v later → (b : Bool) → MeansStep Means (cond b (Goes (Bindings d s (vs ++ (v ∷ [])) (max h k)) later) (expect mark.Dot later (body sig d s (vs ++ (v ∷ [])) (max h k)))) (Read q rest) → (q.priority ≡ binder_own s) × Stands (token.Other (term.Binder s) ∷ start) q rest
      go_on v k later p true g = g start (λ e. absurd (none_first vs v e)) (λ more r a. subst (λ (l : List Variable). Variables start l r) (sym (append_assoc vs (v ∷ []) more)) (before (v ∷ more) r (MoreVariables v more ts later r p a)))
      go_on v k later p false g =
          let x = expected Means mark.Dot later (body sig d s (vs ++ (v ∷ [])) (max h k)) q rest g in
          let p' : VariablePhrase ts v (token.Other term.Dot ∷ behind_first later) = subst (λ (l : List TextToken). VariablePhrase ts v l) x.0 p in
          body_means d s (vs ++ (v ∷ [])) (max h k) (behind_first later) start q rest
          (each start (token.Other term.Dot ∷ behind_first later) vs v (before (v ∷ []) (token.Other term.Dot ∷ behind_first later) (MoreVariables v [] ts (token.Other term.Dot ∷ behind_first later) (token.Other term.Dot ∷ behind_first later) p' (NoVariables (token.Other term.Dot ∷ behind_first later))))) x.1

      by : VariableRead d (is_first vs) ts (λ v k only later. behind_variable sig d s (vs ++ (v ∷ [])) (max h k) only later) (Read q rest) → (q.priority ≡ binder_own s) × Stands (token.Other (term.Binder s) ∷ start) q rest
      by (One v k later p g) = go_on v k later p (is_variable later) g
      by (Alone x n T k more later e t p g) =
          let y = expected Means mark.Dot later (body sig d s (vs ++ (variable_of x (Some T) ∷ [])) (max h k)) q rest g in
          body_means d s (vs ++ (variable_of x (Some T) ∷ [])) (max h k) (behind_first later) start q rest
          (only start ts more (token.Other term.Dot ∷ behind_first later) vs x n T e (here e) t (subst (λ (l : List TextToken). TypePhrase more T l) y.0 p)) y.1

  -- what premises in brackets imply
  conclusion_means : (d : ℕ) (ps : List Raw) (h : ℕ) (ts start : List TextToken) (q : Part) (rest : List TextToken) → grammar.Premises sig start ps (token.Other (term.Infix infix_sign.Implies) ∷ ts) → MeansStep Means (conclusion sig d ps h ts) (Read q rest) → (q.priority ≡ 1) × Stands (token.Other term.OpenPremises ∷ start) q rest
  conclusion_means d ps h ts start q rest b g =
      let c = inner_of Means (Operand (d + 1) wanted.Proposition 1) ts (λ p later. complete sig wanted.Proposition p (λ t. Ends (Read (bracketed sig ps h t) later))) q rest g in
      let t = completed wanted.Proposition 1 ts c.later c.part (λ t. Ends (Read (bracketed sig ps h t) c.later)) q rest PropositionIsDue c.reads c.goes_on_so in
      let e : Read q rest ≡ Read (bracketed sig ps h t.part) c.later = t.goes_on_so in
      let same : q ≡ bracketed sig ps h t.part = cc in
      let rests : rest ≡ c.later = cc in (
        ap (λ (p : Part). p.priority) same,
        subst (λ (p : Part). Stands (token.Other term.OpenPremises ∷ start) p rest) (sym same)
            (subst (λ (l : List TextToken). Stands (token.Other term.OpenPremises ∷ start) (bracketed sig ps h t.part) l) (sym rests)
            (stands_plain (token.Other term.OpenPremises ∷ start) c.later (bracketed sig ps h t.part) refl (λ n k. Bracketed n ps t.part.term start ts c.later k b t.due))),
      )

  premises_mean : (d : ℕ) (ps : List Raw) (h : ℕ) (ts : List TextToken) (q : Part) (rest : List TextToken) → MeansStep Means (premises sig d ps h ts) (Read q rest) → (start : List TextToken) → Before start ps ts → (q.priority ≡ 1) × Stands (token.Other term.OpenPremises ∷ start) q rest
  premises_mean d ps h ts q rest g start before =
      let c = inner_of Means (Operand (d + 2) wanted.Proposition 0) ts (λ p later. complete sig wanted.Proposition p (λ a. behind_premise sig d (ps ++ (a.term ∷ [])) (max h (a.height + 2)) later)) q rest g in
      let a = completed wanted.Proposition 0 ts c.later c.part (λ a. behind_premise sig d (ps ++ (a.term ∷ [])) (max h (a.height + 2)) c.later) q rest PropositionIsDue c.reads c.goes_on_so in
      choice a.part c.later a.due (starts mark.Semicolon c.later) refl a.goes_on_so
    where
      choice : (a : Part) (later : List TextToken) → Due sig wanted.Proposition 0 ts a.term later → (b : Bool) → starts mark.Semicolon later ≡ b
          → MeansStep Means (cond b (Goes (Premises d (ps ++ (a.term ∷ [])) (max h (a.height + 2))) (behind_first later)) (expect mark.ClosePremises later (λ last. expect_arrow last (conclusion sig d (ps ++ (a.term ∷ [])) (max h (a.height + 2)))))) (Read q rest)
          → (q.priority ≡ 1) × Stands (token.Other term.OpenPremises ∷ start) q rest
      choice a later p true e g =
          let p' : Due sig wanted.Proposition 0 ts a.term (token.Other term.Semicolon ∷ behind_first later) = subst (λ (l : List TextToken). Due sig wanted.Proposition 0 ts a.term l) (starts_mark mark.Semicolon later e) p in
          g start (λ more r m. subst (λ (l : List Raw). grammar.Premises sig start l r) (sym (append_assoc ps (a.term ∷ []) more)) (before (a.term ∷ more) r (MorePremises a.term more ts (behind_first later) r p' m)))
      choice a later p false e g =
          let x = expected Means mark.ClosePremises later (λ last. expect_arrow last (conclusion sig d (ps ++ (a.term ∷ [])) (max h (a.height + 2)))) q rest g in
          let y = expected_arrow Means (behind_first later) (conclusion sig d (ps ++ (a.term ∷ [])) (max h (a.height + 2))) q rest x.1 in
          let p' : Due sig wanted.Proposition 0 ts a.term (token.Other term.ClosePremises ∷ token.Other (term.Infix infix_sign.Implies) ∷ y.0) = subst (λ (l : List TextToken). Due sig wanted.Proposition 0 ts a.term l) (x.0 ∙ ap (λ (l : List TextToken). token.Other term.ClosePremises ∷ l) y.1) p in
          conclusion_means d (ps ++ (a.term ∷ [])) (max h (a.height + 2)) y.0 start q rest
          (before (a.term ∷ []) (token.Other (term.Infix infix_sign.Implies) ∷ y.0) (LastPremise a.term ts (token.Other (term.Infix infix_sign.Implies) ∷ y.0) p')) y.2

  place_means : (p : Place) (ts : List TextToken) (o : Outcome) → MeansStep Means (step sig p ts) o → Means o p ts
  place_means p ts (Refused w) g = tt
  place_means (Operand d w m) ts (Read q rest) g = operand_means d w m ts q rest g
  place_means (Behind d m left) ts (Read q rest) g = behind_means d m left ts q rest g
  place_means (Bindings d s vs h) ts (Read q rest) g = bindings_means d s vs h ts q rest g
  place_means (Premises d before h) ts (Read q rest) g = premises_mean d before h ts q rest g

  at_end_means : (q : Part) (later : List TextToken) (p : Part) → MeansStep Means (at_end q later) (Read p []) → (later ≡ []) × (p ≡ q)
  at_end_means q [] p g = (refl, cc)
  at_end_means q (t ∷ ts) p g = absurd cc

  text_means : (ts : List TextToken) (p : Part) → MeansStep Means (text sig ts) (Read p []) → Due sig wanted.Proposition 0 ts p.term []
  text_means ts p g =
      let c = inner_of Means (Operand 0 wanted.Proposition 0) ts (λ q later. complete sig wanted.Proposition q (λ r. at_end r later)) p [] g in
      let t = completed wanted.Proposition 0 ts c.later c.part (λ r. at_end r c.later) p [] PropositionIsDue c.reads c.goes_on_so in
      let e = at_end_means t.part c.later p t.goes_on_so in
      subst (λ (q : Part). Due sig wanted.Proposition 0 ts q.term []) (sym e.1) (subst (λ (l : List TextToken). Due sig wanted.Proposition 0 ts t.part.term l) e.0 t.due)

pub reads_phrases : ReadsPhrases
reads_phrases sig ts p r = text_means sig ts p (steps_mean sig (Means sig) (place_means sig) (text sig ts) (Read p []) r)
