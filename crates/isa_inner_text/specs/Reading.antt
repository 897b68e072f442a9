-- How the tokens of an inner text are read as a term: each operand reaches as far as its priority lets it, and the first
-- place at which no reading goes on is refused, with its cause. The table of priorities is that of isa_inner.
--
-- The depth of a place counts the parentheses and brackets around it, the variables of the binders in whose bodies it
-- stands and the operators in whose operands it stands, `::` and `=>` among them; application does not count.
-- Source: priority grammars of Isabelle (The Isabelle/Isar Reference Manual, "Inner syntax", "Mixfix annotations" and "The Pure
-- syntax"); which refusal comes first is this project's own.
use Rattle.std.specs.Prelude.{◌≡◌, ℕ, ◌+◌, Bool, true, false, cond, ◌&&◌, not, nat_le, nat_lt, nat_eq, max, List, [], ◌∷◌, ◌++◌, length, Option, Some, None}
use Rattle.isa_terms.specs.Types.{Ty}
use Rattle.isa_inner.specs.declared.token.InfixSign.{InfixSign}
use Rattle.isa_inner.specs.declared.token.InfixSign.TheVariants as infix_sign
use Rattle.isa_inner.specs.declared.token.BinderSign.{BinderSign}
use Rattle.isa_inner.specs.declared.token.Mark.{Mark}
use Rattle.isa_inner.specs.declared.token.Mark.TheVariants as mark
use Rattle.isa_inner.specs.declared.token.Wanted.{Wanted}
use Rattle.isa_inner.specs.declared.token.Wanted.TheVariants as wanted
use Rattle.isa_inner.specs.Priorities.{infix_own, infix_left, infix_right, infix_operands, prefix_own, binder_own, binder_body, operators, mark_code}
use Rattle.isa_inner_types.specs.declared.token.TermToken.TheVariants as term
use Rattle.isa_inner_types.specs.declared.token.TextToken.{TextToken}
use Rattle.isa_inner_types.specs.declared.token.TextToken.TheVariants as token
use Rattle.isa_inner_types.specs.declared.token.TypeRefusal.{TypeRefusal}
use Rattle.isa_inner_types.specs.declared.token.TypeRefusal.TheVariants as type_refusal
use Rattle.isa_inner_types.specs.declared.token.TypeWanted.{TypeWanted}
use Rattle.isa_inner_types.specs.declared.token.TypeWanted.TheVariants as type_wanted
use Rattle.isa_inner_types.specs.TypeReading as types
use Rattle.isa_raw.specs.RawTerms.{Raw, RawName, RawUnknown}
use Rattle.isa_inner_text.specs.declared.refusal.Expected.{Expected}
use Rattle.isa_inner_text.specs.declared.refusal.Expected.TheVariants as expected
use Rattle.isa_inner_text.specs.declared.refusal.Refusal.{Refusal}
use Rattle.isa_inner_text.specs.declared.refusal.Refusal.TheVariants as refusal
use Rattle.isa_inner_text.specs.Signatures.{SignatureSeen}
use Rattle.isa_inner_text.specs.declared.part.Part.{Part}
use Rattle.isa_inner_text.specs.declared.part.Variable.{Variable}
use Rattle.isa_inner_text.specs.Parts.{closed, parenthesised, applied, annotated, joined, prefixed, bound, bracketed, judged}

-- What comes of tokens: a term and the tokens behind it, or the first refusal.
pub data Outcome : Type 0 where
  Read : (part : Part) (rest : List TextToken) → Outcome
  Refused : (why : Refusal) → Outcome

-- What is read: an operand of priority m or more, with its name; what goes on behind a left operand where one of m or more
-- is wanted; the variables and the body of a binder, behind the variables that were read; premises up to `|]` and what
-- they imply, behind the premises that were read.
pub data Place : Type 0 where
  Operand : (depth : ℕ) (name : Wanted) (m : ℕ) → Place
  Behind : (depth m : ℕ) (left : Part) → Place
  Bindings : (depth : ℕ) (sign : BinderSign) (variables : List Variable) (height : ℕ) → Place
  Premises : (depth : ℕ) (premises : List Raw) (height : ℕ) → Place

-- One step: the end; going on at a place; or reading a part or a type first and going on by what comes of it. The type of
-- an annotation stands at its own depth.
pub data Step : Type 0 where
  Ends : (o : Outcome) → Step
  Goes : (p : Place) (tokens : List TextToken) → Step
  Inside : (p : Place) (tokens : List TextToken) (after : Outcome → Step) → Step
  InType : (depth : ℕ) (tokens : List TextToken) (after : Ty → ℕ → List TextToken → Step) → Step

-- a refused part is the refusal of the whole
abbrev pub and_then : (Part → List TextToken → Step) → Outcome → Step
and_then go (Read p rest) = go p rest
and_then go (Refused why) = Ends (Refused why)

-- Refusals

abbrev pub type_expected : TypeWanted → Expected
type_expected type_wanted.Type = expected.Type
type_expected type_wanted.Name = expected.Name
type_expected type_wanted.Close = expected.Mark mark.Close
type_expected type_wanted.CloseList = expected.CloseList
type_expected type_wanted.Arrow = expected.Arrow
type_expected type_wanted.EndOfText = expected.EndOfText

-- operands and bodies are terms or propositions
abbrev pub operand_expected : Wanted → Expected
operand_expected wanted.Proposition = expected.Proposition
operand_expected w = expected.Term

-- why a token that is not wanted here is refused: what begins no token, and what the text may not have, as soon as it is met
abbrev pub why : Expected → List TextToken → Refusal
why w (token.Other (term.Symbol x) ∷ ts) = refusal.UnknownSymbol x
why w (token.Other (term.Schematic x) ∷ ts) = refusal.Schematic x
why w ts = refusal.Expected w

abbrev pub refuse : Expected → List TextToken → Step
refuse w ts = Ends (Refused (why w ts))

-- the name of a type constructor
abbrev pub constructor : List TextToken → List ℕ
constructor (token.Name x n ∷ ts) = x
constructor ts = []

-- why a type is refused, at the tokens from its place on
abbrev pub type_why : TypeRefusal → List TextToken → Refusal
type_why (type_refusal.Expected w) at = why (type_expected w) at
type_why type_refusal.Undeclared at = refusal.UnknownType (constructor at)
type_why type_refusal.Arity at = refusal.Arity (constructor at)
type_why type_refusal.Deep at = refusal.Deep
type_why (type_refusal.Met n) at = refusal.Expected expected.Type

-- Single tokens

-- the punctuation that comes next
abbrev pub mark_at : List TextToken → Option Mark
mark_at (token.Open ∷ ts) = Some mark.Open
mark_at (token.Close ∷ ts) = Some mark.Close
mark_at (token.Other term.Dot ∷ ts) = Some mark.Dot
mark_at (token.Other term.Colons ∷ ts) = Some mark.Colons
mark_at (token.Other term.OpenPremises ∷ ts) = Some mark.OpenPremises
mark_at (token.Other term.Semicolon ∷ ts) = Some mark.Semicolon
mark_at (token.Other term.ClosePremises ∷ ts) = Some mark.ClosePremises
mark_at ts = None

abbrev pub is_this : Option Mark → Mark → Bool
is_this None m = false
is_this (Some n) m = nat_eq (mark_code n) (mark_code m)

abbrev pub starts : Mark → List TextToken → Bool
starts m ts = is_this (mark_at ts) m

abbrev pub behind_first : List TextToken → List TextToken
behind_first [] = []
behind_first (t ∷ ts) = ts

abbrev pub expect : Mark → List TextToken → (List TextToken → Step) → Step
expect m ts go = cond (starts m ts) (go (behind_first ts)) (refuse (expected.Mark m) ts)

abbrev pub expect_arrow : List TextToken → (List TextToken → Step) → Step
expect_arrow (token.Other (term.Infix infix_sign.Implies) ∷ ts) go = go ts
expect_arrow ts go = refuse expected.Implies ts

abbrev pub expect_name : List TextToken → (List ℕ → List TextToken → Step) → Step
expect_name (token.Name x n ∷ ts) go = go x ts
expect_name ts go = refuse expected.Name ts

-- Propositions: where one is wanted, a term that is none gets the judgment in front as soon as it is complete

abbrev pub with_judgment : Option (List ℕ) → Part → (Part → Step) → Step
with_judgment None p go = Ends (Refused refusal.Judgment)
with_judgment (Some J) p go = go (judged J p)

abbrev pub complete : SignatureSeen → Wanted → Part → (Part → Step) → Step
complete sig wanted.Proposition p go = cond p.is_proposition (go p) (with_judgment sig.judgment p go)
complete sig w p go = go p

-- Operands

abbrev pub limit : ℕ
limit = 500

-- whether an operand of priority m or more begins so
abbrev pub begins : ℕ → List TextToken → Bool
begins m (token.Name x n ∷ ts) = nat_le m 1000
begins m (token.Other (term.Unknown x) ∷ ts) = nat_le m 1000
begins m (token.Open ∷ ts) = nat_le m 1000
begins m (token.Other term.OpenPremises ∷ ts) = nat_le m 1
begins m (token.Other (term.Prefix s) ∷ ts) = nat_le m (prefix_own s)
begins m (token.Other (term.Binder s) ∷ ts) = nat_le m (binder_own s)
begins m ts = false

-- an operand, by its first token
abbrev pub front : SignatureSeen → ℕ → ℕ → List TextToken → Step
front sig d m (token.Name x n ∷ ts) = Goes (Behind d m (closed (RawName x))) ts
front sig d m (token.Other (term.Unknown x) ∷ ts) = Goes (Behind d m (closed (RawUnknown x))) ts
front sig d m (token.Open ∷ ts) =
    Inside (Operand (d + 1) wanted.Term 0) ts (and_then (λ p later. expect mark.Close later (λ rest. Goes (Behind d m (parenthesised p)) rest)))
front sig d m (token.Other term.OpenPremises ∷ ts) =
    Inside (Premises d [] 0) ts (and_then (λ p later. Goes (Behind d m p) later))
front sig d m (token.Other (term.Prefix s) ∷ ts) =
    Inside (Operand (d + 1) wanted.Term (prefix_own s)) ts (and_then (λ p later. Goes (Behind d m (prefixed sig s p)) later))
front sig d m (token.Other (term.Binder s) ∷ ts) =
    Inside (Bindings d s [] 0) ts (and_then (λ p later. Goes (Behind d m p) later))
front sig d m ts = refuse expected.Term ts

-- whether the term goes on behind a left operand
abbrev pub goes_on : ℕ → Part → List TextToken → Bool
goes_on m left (token.Other (term.Infix s) ∷ ts) = nat_le m (infix_own s) && nat_le (infix_left s) left.priority
goes_on m left (token.Other term.Colons ∷ ts) = nat_le m 3 && nat_le 4 left.priority
goes_on m left ts = nat_le m 999 && (left.is_function && begins 1000 ts)

-- an operator stands one deeper than its operands, the left one too
abbrev pub unless_deep : ℕ → Step → Step
unless_deep d go = cond (nat_lt d limit) go (Ends (Refused refusal.Deep))

-- the right operand, the type or the next argument
abbrev pub further : SignatureSeen → ℕ → ℕ → Part → List TextToken → Step
further sig d m left (token.Other (term.Infix s) ∷ ts) =
    complete sig (infix_operands s) left (λ l. unless_deep (d + l.height)
    (Inside (Operand (d + 1) (infix_operands s) (infix_right s)) ts (and_then (λ p later.
    complete sig (infix_operands s) p (λ r. Goes (Behind d m (joined sig s l r)) later)))))
further sig d m left (token.Other term.Colons ∷ ts) =
    unless_deep (d + left.height) (InType (d + 1) ts (λ T h later. Goes (Behind d m (annotated left T h)) later))
further sig d m left ts =
    Inside (Operand d wanted.Term 1000) ts (and_then (λ a later. Goes (Behind d m (applied left a)) later))

abbrev pub is_met : List TextToken → Bool
is_met (token.Other (term.Symbol x) ∷ ts) = true
is_met (token.Other (term.Schematic x) ∷ ts) = true
is_met ts = false

-- Binders

-- whether a binder's further variable begins so
abbrev pub is_variable : List TextToken → Bool
is_variable (token.Name x n ∷ ts) = true
is_variable (token.Open ∷ ts) = true
is_variable ts = false

abbrev pub variable_of : List ℕ → Option Ty → Variable
variable_of x T = record { name = x; typ = T }

-- `(x::T)`, or x, or `x::T` where it is the only one; with the height of its type, and whether it has to be the only one
abbrev pub variable : ℕ → Bool → List TextToken → (Variable → ℕ → Bool → List TextToken → Step) → Step
variable d first ts go =
    cond (starts mark.Open ts)
    (expect_name (behind_first ts) (λ x rest. expect mark.Colons rest (λ later. InType (d + 2) later (λ T h last. expect mark.Close last (λ end. go (variable_of x (Some T)) (h + 2) false end)))))
    (expect_name ts (λ x rest. cond (first && starts mark.Colons rest)
    (InType (d + 1) (behind_first rest) (λ T h later. go (variable_of x (Some T)) (h + 1) true later))
    (go (variable_of x None) 0 false rest)))

abbrev pub body : SignatureSeen → ℕ → BinderSign → List Variable → ℕ → List TextToken → Step
body sig d s vs h ts =
    Inside (Operand (d + (operators s + length vs)) (binder_body s) (binder_own s)) ts (and_then (λ p rest.
    complete sig (binder_body s) p (λ q. Ends (Read (bound sig s vs h q) rest))))

abbrev pub behind_variable : SignatureSeen → ℕ → BinderSign → List Variable → ℕ → Bool → List TextToken → Step
behind_variable sig d s vs h only ts = cond (not only && is_variable ts) (Goes (Bindings d s vs h) ts) (expect mark.Dot ts (body sig d s vs h))

abbrev pub is_first : List Variable → Bool
is_first [] = true
is_first (v ∷ vs) = false

abbrev pub bindings : SignatureSeen → ℕ → BinderSign → List Variable → ℕ → List TextToken → Step
bindings sig d s vs h ts = variable d (is_first vs) ts (λ v k only rest. behind_variable sig d s (vs ++ (v ∷ [])) (max h k) only rest)

-- Premises in brackets

abbrev pub conclusion : SignatureSeen → ℕ → List Raw → ℕ → List TextToken → Step
conclusion sig d premises h ts =
    Inside (Operand (d + 1) wanted.Proposition 1) ts (and_then (λ p rest. complete sig wanted.Proposition p (λ c. Ends (Read (bracketed sig premises h c) rest))))

abbrev pub behind_premise : SignatureSeen → ℕ → List Raw → ℕ → List TextToken → Step
behind_premise sig d premises h ts =
    cond (starts mark.Semicolon ts)
    (Goes (Premises d premises h) (behind_first ts))
    (expect mark.ClosePremises ts (λ later. expect_arrow later (conclusion sig d premises h)))

abbrev pub premises : SignatureSeen → ℕ → List Raw → ℕ → List TextToken → Step
premises sig d before h ts =
    Inside (Operand (d + 2) wanted.Proposition 0) ts (and_then (λ p later. complete sig wanted.Proposition p (λ a.
    behind_premise sig d (before ++ (a.term ∷ [])) (max h (a.height + 2)) later)))

abbrev pub step : SignatureSeen → Place → List TextToken → Step
step sig (Operand d w m) ts = cond (nat_lt limit d) (Ends (Refused refusal.Deep)) (cond (begins m ts) (front sig d m ts) (refuse (operand_expected w) ts))
step sig (Behind d m left) ts = cond (is_met ts) (refuse expected.EndOfText ts) (cond (goes_on m left ts) (further sig d m left ts) (Ends (Read left ts)))
step sig (Bindings d s vs h) ts = bindings sig d s vs h ts
step sig (Premises d before h) ts = premises sig d before h ts

-- What comes of a step in the end. A type is read by the grammar of types.
pub data Runs (sig : SignatureSeen) : Step → Outcome → Type 0 where
  ends : (o : Outcome) → Runs sig (Ends o) o
  goes : (p : Place) (ts : List TextToken) (o : Outcome) → Runs sig (step sig p ts) o → Runs sig (Goes p ts) o
  inside : (p : Place) (ts : List TextToken) (after : Outcome → Step) (part o : Outcome) → Runs sig (step sig p ts) part → Runs sig (after part) o → Runs sig (Inside p ts after) o
  typed : (d : ℕ) (ts : List TextToken) (after : Ty → ℕ → List TextToken → Step) (T : Ty) (h : ℕ) (rest : List TextToken) (o : Outcome)
      → types.Runs (types.step (types.Whole d) ts) (types.Read T h rest) → Runs sig (after T h rest) o → Runs sig (InType d ts after) o
  untyped : (d : ℕ) (ts : List TextToken) (after : Ty → ℕ → List TextToken → Step) (w : TypeRefusal) (at : List TextToken)
      → types.Runs (types.step (types.Whole d) ts) (types.Refused w at) → Runs sig (InType d ts after) (Refused (type_why w at))

-- a whole text is a proposition with nothing behind it
abbrev pub at_end : Part → List TextToken → Step
at_end p [] = Ends (Read p [])
at_end p (t ∷ ts) = refuse expected.EndOfText (t ∷ ts)

abbrev pub text : SignatureSeen → List TextToken → Step
text sig ts = Inside (Operand 0 wanted.Proposition 0) ts (and_then (λ p rest. complete sig wanted.Proposition p (λ q. at_end q rest)))

-- Tokens have one outcome at most.
abbrev pub OneOutcome : Type 0
OneOutcome = (sig : SignatureSeen) (s : Step) (o u : Outcome) → Runs sig s o → Runs sig s u → o ≡ u
