-- What the functions that read answer.
use Rattle.std.specs.Prelude.{◌≡◌, ◌≢◌, ◌<◌, ◌≤◌, ℕ, true, false, List, length, Option, Some, None, Result, Ok, Err}
use Rattle.std.specs.Borrow.{Bor}
use Rattle.isa_tokens.specs.declared.token.Token.{Token}
use Rattle.isa_outer.specs.declared.refusal.Kind.{Kind}
use Rattle.isa_outer.specs.declared.refusal.Kind.TheVariants as kind
use Rattle.isa_outer.specs.declared.refusal.Refused.{Refused}
use Rattle.isa_outer.specs.declared.command.Command.{Command}
use Rattle.isa_outer.specs.Forms.{Form, Reading, Got, Refuses, begins, read, missing}
use Rattle.isa_outer.specs.Grammar.{command}
use Rattle.isa_outer.specs.Texts.{first_line, line_at}

-- the cause is that of the definition, or want of memory
abbrev pub IsCause : {A : Type 0} → Kind → Reading A → Type 0
IsCause cause wanted = cause ≢ kind.Memory → wanted ≡ Refuses cause

-- the cause is this one, or want of memory
abbrev pub IsThe : Kind → Kind → Type 0
IsThe wanted cause = cause ≢ kind.Memory → wanted ≡ cause

-- the answer is what the definition reads, and at least one token was read
abbrev pub Answers : {A : Type 0} → Result (A × Bor (List Token)) Kind → Form A → List Token → Type 0
Answers (Ok p) form tokens = (read form tokens ≡ Got p.0 p.1.now) × (length p.1.now < length tokens)
Answers (Err cause) form tokens = IsCause cause (read form tokens)

-- the same, where nothing may have been read
abbrev pub AnswersPart : {A : Type 0} → Result (A × Bor (List Token)) Kind → Form A → List Token → Type 0
AnswersPart (Ok p) form tokens = (read form tokens ≡ Got p.0 p.1.now) × (length p.1.now ≤ length tokens)
AnswersPart (Err cause) form tokens = IsCause cause (read form tokens)

-- the token is there or not
abbrev pub Finds : Option (Bor (List Token)) → List ℕ → Form (Unit {0}) → List Token → Type 0
Finds (Some rest) what form tokens = (begins form tokens ≡ true) × (read form tokens ≡ Got tt rest.now) × (length rest.now < length tokens)
Finds None what form tokens = (begins form tokens ≡ false) × (read form tokens ≡ Refuses (missing what tokens))

-- what the definition reads, where a part was left out or is there
abbrev pub Reads : {A : Type 0} → A × Bor (List Token) → Form A → List Token → Type 0
Reads p form tokens = (read form tokens ≡ Got p.0 p.1.now) × (length p.1.now ≤ length tokens)

-- just what the definition reads, at least one token of it
abbrev pub AnswersExactly : {A : Type 0} → Result (A × Bor (List Token)) Kind → Form A → List Token → Type 0
AnswersExactly (Ok p) form tokens = (read form tokens ≡ Got p.0 p.1.now) × (length p.1.now < length tokens)
AnswersExactly (Err cause) form tokens = read form tokens ≡ Refuses cause

-- what is read where the form begins here
abbrev pub Offers : {A : Type 0} → Result (Option (A × Bor (List Token))) Kind → Form A → List Token → Type 0
Offers (Ok (Some p)) form tokens = (begins form tokens ≡ true) × (read form tokens ≡ Got p.0 p.1.now) × (length p.1.now < length tokens)
Offers (Ok None) form tokens = begins form tokens ≡ false
Offers (Err cause) form tokens = cause ≢ kind.Memory → (begins form tokens ≡ true) × (read form tokens ≡ Refuses cause)

-- the next command of a text, behind one whose first word has the line `last`
abbrev pub AnswersNext : Option ℕ → Result (Command × Bor (List Token)) Refused → List Token → Type 0
AnswersNext last (Ok p) tokens = (read (command (first_line tokens)) tokens ≡ Got p.0 p.1.now) × (length p.1.now < length tokens)
AnswersNext last (Err refused) tokens = refused.kind ≢ kind.Memory → (refused.line ≡ line_at last tokens) × (read (command (first_line tokens)) tokens ≡ Refuses refused.kind)
