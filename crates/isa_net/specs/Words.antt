-- The words of terms, and which of their prefixes agree with a term.
-- Source: discrimination trees (McCune; Paulson's term nets in Isabelle/Pure).
use Rattle.std.specs.Prelude.{ℕ, zero, suc, ◌+◌, Bool, true, false, ◌&&◌, nat_eq, if◌then◌else◌, List, [], ◌∷◌, ◌++◌, Option, Some, None, option_map, is_some}
use Rattle.isa_terms.specs.Terms.{Tm, Const, Free, Unknown, Bound, Abs, App}
use Rattle.isa_net.specs.Symbols.{arity, symbol_eq}
use Rattle.isa_unify.specs.Spines.{args_of}
use Rattle.isa_net.specs.declared.symbol.Symbol.{Symbol}
use Rattle.isa_net.specs.declared.symbol.Symbol.TheVariants.{Star, Constant, Variable}
use Rattle.isa_net.specs.declared.mode.Mode.{Mode}
use Rattle.isa_net.specs.declared.mode.Mode.TheVariants.{Unifiable, Matching}

-- 1. Words

-- a constant or a free variable with the number of its arguments, n of them further ones; any other term is a star
abbrev pub symbol_on : ℕ → Tm → Symbol
symbol_on n (Const c T) = Constant c n
symbol_on n (Free x T) = Variable x n
symbol_on n (Unknown x i T) = Star
symbol_on n (Bound i) = Star
symbol_on n (Abs x T b) = Star
symbol_on n (App f a) = symbol_on (n + 1) f

abbrev pub symbol_of : Tm → Symbol
symbol_of t = symbol_on 0 t

-- behind a symbol stand the words of the arguments, and nothing behind a star
abbrev pub with_args : Symbol → List Symbol → List Symbol
with_args Star w = Star ∷ []
with_args (Constant c n) w = Constant c n ∷ w
with_args (Variable x n) w = Variable x n ∷ w

-- the words of the arguments from left to right
abbrev pub args_word : Tm → List Symbol
args_word (App f a) = args_word f ++ with_args (symbol_of a) (args_word a)
args_word t = []

abbrev pub word : Tm → List Symbol
word t = with_args (symbol_of t) (args_word t)

-- 2. Reading along a term

-- a word is read along a subterm, or a subterm passes over a subword of it
pub data Item : Type 0 where
  Along : (t : Tm) → Item
  Over : Item

abbrev pub overs : ℕ → List Item
overs zero = []
overs (suc n) = Over ∷ overs n

-- `unifiable` takes an unknown of the term for any term, `matching` for a constant of its own
abbrev pub opens_unknowns : Mode → Bool
opens_unknowns Unifiable = true
opens_unknowns Matching = false

-- a subterm that may become anything: an abstraction, one with a bound head, and for `unifiable` one with an unknown head
abbrev pub passes : Mode → Tm → Bool
passes mode (Const c T) = false
passes mode (Free x T) = false
passes mode (Unknown x i T) = opens_unknowns mode
passes mode (Bound i) = true
passes mode (Abs x T b) = true
passes mode (App f a) = passes mode f

abbrev pub alongs : List Tm → List Item
alongs [] = []
alongs (t ∷ ts) = Along t ∷ alongs ts

-- a star passes over a subterm, and else the symbols are the same
abbrev pub along : Tm → Symbol → Option (List Item)
along t Star = Some []
along t s = if symbol_eq s (symbol_of t) then Some (alongs (args_of t)) else None

-- what is to be read instead of the item, once the symbol is read
abbrev pub after : Mode → Item → Symbol → Option (List Item)
after mode Over s = Some (overs (arity s))
after mode (Along t) s = if passes mode t then Some (overs (arity s)) else along t s

abbrev pub onward : Mode → List Item → Symbol → Option (List Item)
onward mode [] s = None
onward mode (i ∷ is) s = option_map (λ js. js ++ is) (after mode i s)

-- what is left to be read behind a prefix, where it can be read
abbrev pub reads : Mode → List Item → List Symbol → Option (List Item)
reads mode is [] = Some is
reads mode is (s ∷ w) = elim (onward mode is s) [ None ↦ None | Some js ↦ reads mode js w ]

-- whether a word, or a prefix of one, agrees with the term: it can be read along it, perhaps not to the term's end
abbrev pub agrees : Mode → Tm → List Symbol → Bool
agrees mode t w = is_some (reads mode (Along t ∷ []) w)
