-- The commands of a whole text, and the line of a refusal.
-- Source: theory files of the Isabelle/Isar Reference Manual, chapter "Outer syntax"; the lines of refusals are this project's own.
use Rattle.std.specs.Prelude.{◌≡◌, ◌≢◌, ℕ, zero, suc, ◌+◌, Bool, true, false, if◌then◌else◌, List, [], ◌∷◌, length, Option, Some, None, Result, Ok, Err}
use Rattle.isa_tokens.specs.declared.token.Token.{Token}
use Rattle.isa_tokens.specs.declared.token.Lexeme.{Lexeme}
use Rattle.isa_tokens.specs.declared.token.Lexeme.TheVariants.{Name, End}
use Rattle.isa_tokens.specs.Tokens as lexer
use Rattle.isa_outer.specs.declared.refusal.Kind.{Kind}
use Rattle.isa_outer.specs.declared.refusal.Kind.TheVariants as kind
use Rattle.isa_outer.specs.declared.refusal.Refused.{Refused}
use Rattle.isa_outer.specs.declared.command.Command.{Command}
use Rattle.isa_outer.specs.Forms.{read, Got, Refuses}
use Rattle.isa_outer.specs.Grammar.{command}

abbrev pub is_end_token : Lexeme → Bool
is_end_token End = true
is_end_token _ = false

-- no token is left but the end
abbrev pub is_end : List Token → Bool
is_end [] = true
is_end (t ∷ ts) = is_end_token t.lexeme

-- the line of the first token
abbrev pub first_line : List Token → ℕ
first_line [] = 0
first_line (t ∷ ts) = t.line

abbrev pub line_of : Option ℕ → Lexeme → ℕ → ℕ
line_of last (Name word) line = line
line_of (Some before) _ line = before
line_of None _ line = line

-- The line of a refusal where a command should begin, behind one whose first word has the line `last`:
-- an identifier there begins a command, or is the name of an unknown one; else the line is that of the command before, where there is one.
abbrev pub line_at : Option ℕ → List Token → ℕ
line_at last [] = 0
line_at last (t ∷ ts) = line_of last t.lexeme t.line

-- The tokens hold these commands, and then the end or this refusal.
pub data Reads : Option ℕ → List Token → List Command → Option Refused → Type 0 where
  ends : (last : Option ℕ) (ts : List Token) → is_end ts ≡ true → Reads last ts [] None
  next : (last : Option ℕ) (ts rest : List Token) (c : Command) (cs : List Command) (refusal : Option Refused) → is_end ts ≡ false
      → read (command (first_line ts)) ts ≡ Got c rest → Reads (Some (first_line ts)) rest cs refusal → Reads last ts (c ∷ cs) refusal
  refuses : (last : Option ℕ) (ts : List Token) (cause : Kind) → is_end ts ≡ false
      → read (command (first_line ts)) ts ≡ Refuses cause → Reads last ts [] (Some (record { line = line_at last ts; kind = cause }))

-- the answer for the tokens of a text
abbrev pub AnswersTokens : List Token → Result (List Command) Refused → Type 0
AnswersTokens tokens (Ok commands) = Reads None tokens commands None
AnswersTokens tokens (Err refused) = refused.kind ≢ kind.Memory → (commands : List Command) × Reads None tokens commands (Some refused)

-- The answer for a text: it has the tokens of the definition, and they hold these commands and no more, or some commands and then this refusal.
abbrev pub AnswersText : List ℕ → Result (List Command) Refused → Type 0
AnswersText text (Ok commands) = (tokens : List Token) × lexer.Reads text text tokens × Reads None tokens commands None
AnswersText text (Err refused) = refused.kind ≢ kind.Memory → (tokens : List Token) × lexer.Reads text text tokens × (commands : List Command) × Reads None tokens commands (Some refused)

-- A list of tokens has one reading.
abbrev pub OneReading : Type 0
OneReading = (tokens : List Token) (commands others : List Command) (refusal other : Option Refused)
    → Reads None tokens commands refusal → Reads None tokens others other → (commands ≡ others) × (refusal ≡ other)

-- The tokens hold what is answered, want of memory aside.
abbrev pub IsReading : List Token → Result (List Command) Refused → Type 0
IsReading tokens (Ok commands) = Reads None tokens commands None
IsReading tokens (Err refused) = (commands : List Command) × Reads None tokens commands (Some refused)

-- The same as a function: the commands of the tokens behind a command of the line `last`, or the first refusal. n is above the number of tokens.
abbrev pub with_command : Command → Result (List Command) Refused → Result (List Command) Refused
with_command c (Ok cs) = Ok (c ∷ cs)
with_command c (Err refused) = Err refused

abbrev pub commands_within : ℕ → Option ℕ → List Token → Result (List Command) Refused
commands_within zero last ts = Ok []
commands_within (suc n) last ts = if is_end ts then Ok [] else elim (read (command (first_line ts)) ts) [
  | Got c rest ↦ with_command c (commands_within n (Some (first_line ts)) rest)
  | Refuses cause ↦ Err (record { line = line_at last ts; kind = cause })
]

-- what a text holds: its commands, or the first refusal in it
unfoldable pub reading_of : List ℕ → Result (List Command) Refused
reading_of text = let tokens = lexer.tokens_of text in commands_within (length tokens + 1) None tokens

-- Each text has a reading: that of the function.
abbrev pub EachIsRead : Type 0
EachIsRead = (text : List ℕ) → (tokens : List Token) × lexer.Reads text text tokens × IsReading tokens (reading_of text)

-- the answer is what the text holds, want of memory aside
abbrev pub Meets : Result (List Command) Refused → Result (List Command) Refused → Type 0
Meets (Ok commands) wanted = wanted ≡ Ok commands
Meets (Err refused) wanted = refused.kind ≢ kind.Memory → wanted ≡ Err refused
