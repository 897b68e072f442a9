-- What the tokens of a text are where this is declared, and the constants that its signs and its propositions name.
use Rattle.std.specs.Prelude.{ℕ, Bool, true, false, if◌then◌else◌, List, [], ◌∷◌, Option, Some, None, slice_get}
use Rattle.isa_inner.specs.declared.token.Mark.{Mark}
use Rattle.isa_inner.specs.declared.token.Mark.TheVariants as mark
use Rattle.isa_inner.specs.declared.token.Token.{Token}
use Rattle.isa_inner.specs.declared.token.Token.TheVariants as inner
use Rattle.isa_inner_types.specs.declared.token.TermToken.{TermToken}
use Rattle.isa_inner_types.specs.declared.token.TermToken.TheVariants as term
use Rattle.isa_inner_types.specs.declared.token.TextToken.{TextToken}
use Rattle.isa_inner_types.specs.declared.token.TextToken.TheVariants as token
use Rattle.isa_inner_tokens.specs.declared.sign.TypeMark.{TypeMark}
use Rattle.isa_inner_tokens.specs.declared.sign.TypeMark.TheVariants as type_mark
use Rattle.isa_inner_tokens.specs.declared.sign.Sign.{Sign}
use Rattle.isa_inner_tokens.specs.declared.sign.Sign.TheVariants as sign
use Rattle.isa_inner_tokens.specs.declared.cutting.Kind.{Kind}
use Rattle.isa_inner_tokens.specs.declared.cutting.Kind.TheVariants as kind
use Rattle.isa_inner_tokens.specs.declared.cutting.Word.{Word}
use Rattle.isa_inner_tokens.specs.declared.cutting.Word.TheVariants as word
use Rattle.isa_inner_text.specs.Signatures.{SignatureSeen, arity_of}

-- the name, or the empty one
abbrev pub or_empty : Option (List ℕ) → List ℕ
or_empty None = []
or_empty (Some x) = x

-- the constant that a sign names by this number
abbrev pub constant : SignatureSeen → ℕ → List ℕ
constant sig c = or_empty (slice_get sig.notated c)

-- an unknown stands in schematic texts alone
abbrev pub if_schematic : Bool → TextToken → List ℕ → TextToken
if_schematic schematic t x = if schematic then t else token.Other (term.Schematic x)

abbrev pub name_token : SignatureSeen → Bool → Kind → List ℕ → TextToken
name_token sig schematic kind.Name x = token.Name x (arity_of sig x)
name_token sig schematic kind.Unknown x = if_schematic schematic (token.Other (term.Unknown x)) x
name_token sig schematic kind.TypeVariable x = token.Variable x
name_token sig schematic kind.TypeUnknown x = if_schematic schematic (token.Unknown x) x

abbrev pub mark_token : Mark → TextToken
mark_token mark.Open = token.Open
mark_token mark.Close = token.Close
mark_token mark.Dot = token.Other term.Dot
mark_token mark.Colons = token.Other term.Colons
mark_token mark.OpenPremises = token.Other term.OpenPremises
mark_token mark.Semicolon = token.Other term.Semicolon
mark_token mark.ClosePremises = token.Other term.ClosePremises

-- names, types and bytes are no signs
abbrev pub sign_token : Token → TextToken
sign_token (inner.Infix s) = token.Other (term.Infix s)
sign_token (inner.Prefix s) = token.Other (term.Prefix s)
sign_token (inner.Binder s) = token.Other (term.Binder s)
sign_token (inner.Mark m) = mark_token m
sign_token (inner.Atom a) = token.Other (term.Symbol [])
sign_token (inner.Type T) = token.Other (term.Symbol [])
sign_token (inner.Other b) = token.Other (term.Symbol [])

abbrev pub type_mark_token : TypeMark → TextToken
type_mark_token type_mark.Arrow = token.Arrow
type_mark_token type_mark.OpenList = token.OpenList
type_mark_token type_mark.CloseList = token.CloseList
type_mark_token type_mark.Comma = token.Comma

-- the token that a word is
abbrev pub token_of : SignatureSeen → Bool → Word → TextToken
token_of sig schematic (word.Named k x) = name_token sig schematic k x
token_of sig schematic (word.Sign (sign.Term t)) = sign_token t
token_of sig schematic (word.Sign (sign.Type m)) = type_mark_token m
token_of sig schematic (word.Unknown symbol) = token.Other (term.Symbol symbol)

abbrev pub tokens_of : SignatureSeen → Bool → List Word → List TextToken
tokens_of sig schematic [] = []
tokens_of sig schematic (w ∷ ws) = token_of sig schematic w ∷ tokens_of sig schematic ws
