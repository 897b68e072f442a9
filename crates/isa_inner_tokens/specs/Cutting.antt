-- How the bytes of a text are cut into words: blanks part them, and at each place the longest word that may stand there is
-- taken; of a sign and a name of one length the sign. A place at which no word can stand ends the text with its symbol.
-- Source: the lexical syntax of inner text of Isabelle (The Isabelle/Isar Reference Manual, "Inner syntax", "Lexical matters").
use Rattle.std.specs.Prelude.{◌≡◌, ℕ, zero, suc, ◌+◌, ◌<◌, Bool, true, false, ◌&&◌, if◌then◌else◌, nat_eq, nat_le, List, [], ◌∷◌, length, take, drop, Option, Some, None, option_map}
use Rattle.std.specs.Option.{option_or}
use Rattle.std.specs.Map.{lookup}
use Rattle.isa_terms.specs.Equal.{name_eq}
use Rattle.isa_inner_tokens.specs.declared.sign.Sign.{Sign}
use Rattle.isa_inner_tokens.specs.declared.sign.Signs.{Signs}
use Rattle.isa_inner_tokens.specs.declared.cutting.Kind.{Kind}
use Rattle.isa_inner_tokens.specs.declared.cutting.Kind.TheVariants as kind
use Rattle.isa_inner_tokens.specs.declared.cutting.Word.{Word}
use Rattle.isa_inner_tokens.specs.declared.cutting.Word.TheVariants as word
use Rattle.isa_inner_tokens.specs.Bytes.{is_blank, name_length}

-- the sign with this spelling
abbrev pub spelled : Signs → List ℕ → Option Sign
spelled signs spelling = lookup (name_eq spelling) signs

-- the longest sign of at most n bytes that a text begins with, and its length
abbrev pub longest_sign : Signs → ℕ → List ℕ → Option (ℕ × Sign)
longest_sign signs zero text = None
longest_sign signs (suc n) text = option_or (option_map (λ s. (suc n, s)) (spelled signs (take (suc n) text))) (longest_sign signs n text)

-- the longest sign that a text begins with, and its length
abbrev pub sign_at : Signs → List ℕ → Option (ℕ × Sign)
sign_at signs text = longest_sign signs (length text) text

-- a name behind so many bytes, and the length of both
abbrev pub sized : Kind → ℕ → List ℕ → Option (Kind × ℕ)
sized k n text = if nat_eq (name_length text) 0 then None else Some (k, n + name_length text)

-- `?x` and `?'a`
abbrev pub after_question : List ℕ → Option (Kind × ℕ)
after_question [] = None
after_question (b ∷ bs) = if nat_eq b 39 then sized kind.TypeUnknown 2 bs else sized kind.Unknown 1 (b ∷ bs)

-- the name that a text begins with, and its length: an identifier, `?x`, `'a` or `?'a`
abbrev pub named : List ℕ → Option (Kind × ℕ)
named [] = None
named (b ∷ bs) = if nat_eq b 63 then after_question bs else (if nat_eq b 39 then sized kind.TypeVariable 1 bs else sized kind.Name 0 (b ∷ bs))

-- the name, without its `?`
abbrev pub name_in : Kind → List ℕ → List ℕ
name_in kind.Name bytes = bytes
name_in kind.Unknown bytes = drop 1 bytes
name_in kind.TypeVariable bytes = bytes
name_in kind.TypeUnknown bytes = drop 1 bytes

-- of a sign and a name the longer; of one length the sign
abbrev pub longer : List ℕ → Option (ℕ × Sign) → Option (Kind × ℕ) → Option (ℕ × Word)
longer text None None = None
longer text (Some s) None = Some (s.0, word.Sign s.1)
longer text None (Some n) = Some (n.1, word.Named n.0 (name_in n.0 (take n.1 text)))
longer text (Some s) (Some n) = if nat_le n.1 s.0 then Some (s.0, word.Sign s.1) else Some (n.1, word.Named n.0 (name_in n.0 (take n.1 text)))

-- the word that a text begins with, and its length
abbrev pub first_word : Signs → List ℕ → Option (ℕ × Word)
first_word signs text = longer text (sign_at signs text) (named text)

-- the number of bytes up to the next `>`, with it
abbrev pub to_close : List ℕ → Option ℕ
to_close [] = None
to_close (b ∷ bs) = if nat_eq b 62 then Some 1 else option_map (λ n. n + 1) (to_close bs)

abbrev pub or_one : Option ℕ → ℕ
or_one None = 1
or_one (Some n) = n + 2

-- the length of the symbol that a text begins with: a byte, or from `\<` to the next `>`
abbrev pub symbol_length : List ℕ → ℕ
symbol_length [] = 0
symbol_length (a ∷ []) = 1
symbol_length (a ∷ b ∷ bs) = if nat_eq a 92 && nat_eq b 60 then or_one (to_close bs) else 1

abbrev pub begins_blank : List ℕ → Bool
begins_blank [] = false
begins_blank (b ∷ bs) = is_blank b

-- the words of a text
pub data Cuts (signs : Signs) : List ℕ → List Word → Type 0 where
  Nothing : Cuts signs [] []
  Blank : (b : ℕ) (text : List ℕ) (words : List Word) → is_blank b ≡ true → Cuts signs text words → Cuts signs (b ∷ text) words
  First : (text : List ℕ) (n : ℕ) (w : Word) (words : List Word) → begins_blank text ≡ false → first_word signs text ≡ Some (n, w) → Cuts signs (drop n text) words → Cuts signs text (w ∷ words)
  Symbol : (b : ℕ) (text : List ℕ) → is_blank b ≡ false → first_word signs (b ∷ text) ≡ None → Cuts signs (b ∷ text) (word.Unknown (take (symbol_length (b ∷ text)) (b ∷ text)) ∷ [])
