-- How many prefixes of words agree with a term.
use Rattle.std.specs.Prelude.{ℕ, Bool, true, false, ◌&&◌, ◌||◌, if◌then◌else◌, List, [], ◌∷◌, ◌++◌, length, is_some}
use Rattle.isa_net.specs.declared.symbol.Symbol.{Symbol}
use Rattle.isa_net.specs.Symbols.{symbol_eq}
use Rattle.isa_net.specs.Words.{Item, reads}
use Rattle.isa_net.specs.declared.mode.Mode.{Mode}

abbrev pub word_eq : List Symbol → List Symbol → Bool
word_eq [] [] = true
word_eq (s ∷ v) (t ∷ w) = symbol_eq s t && word_eq v w
word_eq _ _ = false

-- the words behind a symbol
abbrev pub each : Symbol → List (List Symbol) → List (List Symbol)
each s [] = []
each s (w ∷ ws) = (s ∷ w) ∷ each s ws

abbrev pub prefixes : List Symbol → List (List Symbol)
prefixes [] = [] ∷ []
prefixes (s ∷ w) = [] ∷ each s (prefixes w)

-- the prefixes of the words, the empty one included
abbrev pub all_prefixes : List (List Symbol) → List (List Symbol)
all_prefixes [] = [] ∷ []
all_prefixes (w ∷ ws) = prefixes w ++ all_prefixes ws

abbrev pub has_word : List Symbol → List (List Symbol) → Bool
has_word v [] = false
has_word v (w ∷ ws) = word_eq v w || has_word v ws

-- each of them once
abbrev pub distinct : List (List Symbol) → List (List Symbol)
distinct [] = []
distinct (w ∷ ws) = if has_word w ws then distinct ws else (w ∷ distinct ws)

abbrev pub readable : Mode → List Item → List (List Symbol) → List (List Symbol)
readable mode is [] = []
readable mode is (w ∷ ws) = if is_some (reads mode is w) then (w ∷ readable mode is ws) else readable mode is ws

-- the number of distinct prefixes of the words, the empty one included, that can be read
abbrev pub agreeing : Mode → List Item → List (List Symbol) → ℕ
agreeing mode is ws = length (readable mode is (distinct (all_prefixes ws)))
