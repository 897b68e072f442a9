-- The lines of a certificate: which forms there are, and what their words say.
-- Source: this project. Proofs as texts that a small program checks line by line: OpenTheory's articles (Hurd, "The OpenTheory standard theory library", 2011).
use Rattle.std.specs.Prelude.{ℕ, zero, suc, ◌+◌, ◌*◌, ◌-◌, Bool, true, false, ◌&&◌, nat_le, if◌then◌else◌, List, [], ◌∷◌, Option, Some, None, is_some, option_map, codes, nat_eq}
use Rattle.isa_terms.specs.Equal.{name_eq}
use Rattle.isa_kernel.specs.Forms.{◌>>=◌}
use Rattle.isa_cert.specs.declared.line.Line.{Line}
use Rattle.isa_cert.specs.declared.line.Line.TheVariants.{TypeCon, TypeFixed, TypeUnknown, TermConst, TermFree, TermUnknown, TermBound, TermAbs, TermApp}
use Rattle.isa_cert.specs.declared.line.Line.TheVariants as line
use Rattle.isa_cert.specs.declared.line.Rule.{Rule}
use Rattle.isa_cert.specs.declared.line.Rule.TheVariants.{ByAxiom, Assume, ImpliesIntr, ImpliesElim, ForallIntr, ForallElim, Reflexive, Symmetric, Transitive, Combination, AbstractRule, Beta, Eta, EqualIntr, EqualElim, InstantiateThm, Generalize, Cite}

-- ---- words
-- the value of decimal digits behind those that are worth n
abbrev pub value_from : ℕ → List ℕ → Option ℕ
value_from n [] = Some n
value_from n (b ∷ bs) = if nat_le 48 b && nat_le b 57 then value_from (n * 10 + (b - 48)) bs else None

-- a decimal number without leading zeros
abbrev pub any_number : List ℕ → Option ℕ
any_number [] = None
any_number (b ∷ []) = value_from 0 (b ∷ [])
any_number (b ∷ c ∷ bs) = if nat_eq b 48 then None else value_from 0 (b ∷ c ∷ bs)

-- the greatest number of a line, but for that of an end
abbrev pub greatest : ℕ
greatest = 4294967295

abbrev pub bounded : ℕ → Option ℕ
bounded n = if nat_le n greatest then Some n else None

abbrev pub number : List ℕ → Option ℕ
number word = any_number word >>= bounded

-- a name: one or more printed bytes
abbrev pub is_printed : List ℕ → Bool
is_printed [] = true
is_printed (b ∷ bs) = (nat_le 33 b && nat_le b 126) && is_printed bs

abbrev pub name : List ℕ → Option (List ℕ)
name [] = None
name (b ∷ bs) = if is_printed (b ∷ bs) then Some (b ∷ bs) else None

-- ---- the next words, and those behind them
abbrev pub next_word : List (List ℕ) → Option (List ℕ × List (List ℕ))
next_word [] = None
next_word (w ∷ ws) = Some (w, ws)

abbrev pub next_number : List (List ℕ) → Option (ℕ × List (List ℕ))
next_number ws = do
  w ← next_word ws
  n ← number w.0
  Some (n, w.1)

abbrev pub next_name : List (List ℕ) → Option (List ℕ × List (List ℕ))
next_name ws = do
  w ← next_word ws
  x ← name w.0
  Some (x, w.1)

-- so many pairs of numbers
abbrev pub next_pairs : ℕ → List (List ℕ) → Option (List (ℕ × ℕ) × List (List ℕ))
next_pairs zero ws = Some ([], ws)
next_pairs (suc k) ws = do
  m ← next_number ws
  n ← next_number m.1
  rest ← next_pairs k n.1
  Some ((m.0, n.0) ∷ rest.0, rest.1)

-- so many names
abbrev pub next_names : ℕ → List (List ℕ) → Option (List (List ℕ) × List (List ℕ))
next_names zero ws = Some ([], ws)
next_names (suc k) ws = do
  x ← next_name ws
  rest ← next_names k x.1
  Some (x.0 ∷ rest.0, rest.1)

-- the numbers that all the words are
abbrev pub numbers : List (List ℕ) → Option (List ℕ)
numbers [] = Some []
numbers (w ∷ ws) = do
  n ← number w
  rest ← numbers ws
  Some (n ∷ rest)

-- where no word is left
abbrev pub ended : {A : Type 0} → A → List (List ℕ) → Option A
ended a [] = Some a
ended a (w ∷ ws) = None

-- ---- types, terms, axioms and ends: the words behind the letters
-- NAME t ..
abbrev pub type_con : List (List ℕ) → Option Line
type_con ws = do
  c ← next_name ws
  args ← numbers c.1
  Some (TypeCon c.0 args)

-- NAME
abbrev pub type_fixed : List (List ℕ) → Option Line
type_fixed ws = do
  x ← next_name ws
  ended (TypeFixed x.0) x.1

-- NAME N
abbrev pub type_unknown : List (List ℕ) → Option Line
type_unknown ws = do
  x ← next_name ws
  i ← next_number x.1
  ended (TypeUnknown x.0 i.0) i.1

-- NAME t
abbrev pub named : (List ℕ → ℕ → Line) → List (List ℕ) → Option Line
named made ws = do
  x ← next_name ws
  t ← next_number x.1
  ended (made x.0 t.0) t.1

-- NAME N t
abbrev pub term_unknown : List (List ℕ) → Option Line
term_unknown ws = do
  x ← next_name ws
  i ← next_number x.1
  t ← next_number i.1
  ended (TermUnknown x.0 i.0 t.0) t.1

-- N
abbrev pub term_bound : List (List ℕ) → Option Line
term_bound ws = do
  i ← next_number ws
  ended (TermBound i.0) i.1

-- NAME t e
abbrev pub term_abs : List (List ℕ) → Option Line
term_abs ws = do
  x ← next_name ws
  t ← next_number x.1
  e ← next_number t.1
  ended (TermAbs x.0 t.0 e.0) e.1

-- e e
abbrev pub term_app : List (List ℕ) → Option Line
term_app ws = do
  f ← next_number ws
  a ← next_number f.1
  ended (TermApp f.0 a.0) a.1

-- s NAME
abbrev pub end_line : List (List ℕ) → Option Line
end_line ws = do
  s ← next_number ws
  x ← next_name s.1
  ended (line.End s.0 x.0) x.1

-- ---- inferences: the words behind the inference's own
-- one number
abbrev pub one : (ℕ → Rule) → List (List ℕ) → Option Rule
one made ws = do
  m ← next_number ws
  ended (made m.0) m.1

-- two numbers
abbrev pub two : (ℕ → ℕ → Rule) → List (List ℕ) → Option Rule
two made ws = do
  m ← next_number ws
  n ← next_number m.1
  ended (made m.0 n.0) n.1

-- s K t t .. M e e ..
abbrev pub inst_of : List (List ℕ) → Option Rule
inst_of ws = do
  s ← next_number ws
  k ← next_number s.1
  types ← next_pairs k.0 k.1
  m ← next_number types.1
  terms ← next_pairs m.0 m.1
  ended (InstantiateThm s.0 types.0 terms.0) terms.1

-- s K NAME ..
abbrev pub gen_of : List (List ℕ) → Option Rule
gen_of ws = do
  s ← next_number ws
  k ← next_number s.1
  xs ← next_names k.0 k.1
  ended (Generalize s.0 xs.0) xs.1

-- N of any size, of which the digits are kept
abbrev pub cite_of : List (List ℕ) → Option Rule
cite_of ws = do
  w ← next_word ws
  n ← any_number w.0
  ended (Cite w.0) w.1

-- ---- the table
-- what the word that begins a form is followed by
pub record Form (A : Type 0) : Type 0 where
  pub word : List ℕ
  pub rest : List (List ℕ) → Option A

-- the first form whose word it is
abbrev pub by_word : {A : Type 0} → List (Form A) → List ℕ → List (List ℕ) → Option A
by_word [] w ws = None
by_word (f ∷ forms) w ws = if name_eq w f.word then f.rest ws else by_word forms w ws

abbrev pub begun_by : {A : Type 0} → List (Form A) → List (List ℕ) → Option A
begun_by forms ws = do
  w ← next_word ws
  by_word forms w.0 w.1

abbrev pub types : List (Form Line)
types =
    record { word = codes "C"; rest = type_con }
    ∷ record { word = codes "F"; rest = type_fixed }
    ∷ record { word = codes "U"; rest = type_unknown }
    ∷ []

abbrev pub terms : List (Form Line)
terms =
    record { word = codes "C"; rest = named TermConst }
    ∷ record { word = codes "F"; rest = named TermFree }
    ∷ record { word = codes "U"; rest = term_unknown }
    ∷ record { word = codes "B"; rest = term_bound }
    ∷ record { word = codes "L"; rest = term_abs }
    ∷ record { word = codes "A"; rest = term_app }
    ∷ []

-- the inferences, in the kernel's order
abbrev pub later_rules : List (Form Rule)
later_rules =
    record { word = codes "comb"; rest = two Combination }
    ∷ record { word = codes "abs"; rest = two AbstractRule }
    ∷ record { word = codes "beta"; rest = one Beta }
    ∷ record { word = codes "eta"; rest = one Eta }
    ∷ record { word = codes "eq_i"; rest = two EqualIntr }
    ∷ record { word = codes "eq_e"; rest = two EqualElim }
    ∷ record { word = codes "inst"; rest = inst_of }
    ∷ record { word = codes "gen"; rest = gen_of }
    ∷ record { word = codes "cite"; rest = cite_of }
    ∷ []

abbrev pub rules : List (Form Rule)
rules =
    record { word = codes "axiom"; rest = one ByAxiom }
    ∷ record { word = codes "assume"; rest = one Assume }
    ∷ record { word = codes "imp_i"; rest = two ImpliesIntr }
    ∷ record { word = codes "imp_e"; rest = two ImpliesElim }
    ∷ record { word = codes "all_i"; rest = two ForallIntr }
    ∷ record { word = codes "all_e"; rest = two ForallElim }
    ∷ record { word = codes "refl"; rest = one Reflexive }
    ∷ record { word = codes "sym"; rest = one Symmetric }
    ∷ record { word = codes "trans"; rest = two Transitive }
    ∷ later_rules

abbrev pub lines : List (Form Line)
lines =
    record { word = codes "t"; rest = begun_by types }
    ∷ record { word = codes "e"; rest = begun_by terms }
    ∷ record { word = codes "a"; rest = named line.Axiom }
    ∷ record { word = codes "s"; rest = (λ ws. option_map line.Step (begun_by rules ws)) }
    ∷ record { word = codes "end"; rest = end_line }
    ∷ []

-- what the words of a line say, if they are of one of the forms
abbrev pub line_of : List (List ℕ) → Option Line
line_of words = begun_by lines words
