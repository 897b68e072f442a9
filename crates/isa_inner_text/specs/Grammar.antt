-- The grammar of inner texts, by the table of priorities: what the tokens in front may be read as, and the tokens behind it.
-- A term stands as a proposition (`true`) where it is `!!`, `==>`, `==` or `PROP t`, in parentheses or not; where a proposition
-- is due, another term has the judgment in front.
-- Source: priority grammars of Isabelle (The Isabelle/Isar Reference Manual, "Inner syntax", "Mixfix annotations" and "The Pure syntax").
use Rattle.std.specs.Prelude.{◌≡◌, ℕ, ◌≤◌, Bool, true, false, List, [], ◌∷◌, Option, Some, None}
use Rattle.isa_terms.specs.Types.{Ty}
use Rattle.isa_inner.specs.declared.token.InfixSign.{InfixSign}
use Rattle.isa_inner.specs.declared.token.InfixSign.TheVariants as infix_sign
use Rattle.isa_inner.specs.declared.token.PrefixSign.{PrefixSign}
use Rattle.isa_inner.specs.declared.token.BinderSign.{BinderSign}
use Rattle.isa_inner.specs.declared.token.Wanted.{Wanted}
use Rattle.isa_inner.specs.declared.token.Wanted.TheVariants as wanted
use Rattle.isa_inner.specs.Priorities.{infix_own, infix_left, infix_right, infix_operands, prefix_own, binder_own, binder_body}
use Rattle.isa_inner_types.specs.declared.token.TermToken.TheVariants as term
use Rattle.isa_inner_types.specs.declared.token.TextToken.{TextToken}
use Rattle.isa_inner_types.specs.declared.token.TextToken.TheVariants as token
use Rattle.isa_inner_types.specs.TypeGrammar.{TypePhrase}
use Rattle.isa_raw.specs.RawTerms.{Raw, RawName, RawUnknown, RawConst, RawTyped, RawApp}
use Rattle.isa_inner_text.specs.Signatures.{SignatureSeen}
use Rattle.isa_inner_text.specs.declared.part.Part.{Part}
use Rattle.isa_inner_text.specs.declared.part.Variable.{Variable}
use Rattle.isa_inner_text.specs.Parts.{between, is_pure_infix, prefix_term, is_pure_prefix, under, is_pure_binder, implied}
use Rattle.isa_inner_text.specs.Reading.{Read, Runs, text, variable_of}

-- a variable of a binder: x, or `(x::T)`
pub data VariablePhrase : List TextToken → Variable → List TextToken → Type 0 where
  Bare : (x : List ℕ) (n : Option ℕ) (rest : List TextToken) → VariablePhrase (token.Name x n ∷ rest) (variable_of x None) rest
  Typed : (x : List ℕ) (n : Option ℕ) (T : Ty) (ts rest : List TextToken) → TypePhrase ts T (token.Close ∷ rest) → VariablePhrase (token.Open ∷ token.Name x n ∷ token.Other term.Colons ∷ ts) (variable_of x (Some T)) rest

-- variables one after the other
pub data Variables : List TextToken → List Variable → List TextToken → Type 0 where
  NoVariables : (rest : List TextToken) → Variables rest [] rest
  MoreVariables : (v : Variable) (vs : List Variable) (ts later rest : List TextToken) → VariablePhrase ts v later → Variables later vs rest → Variables ts (v ∷ vs) rest

-- the variables of a binder, at least one: as above, or `x::T` where it is the only one
pub data Bindings : List TextToken → List Variable → List TextToken → Type 0 where
  Each : (v : Variable) (vs : List Variable) (ts rest : List TextToken) → Variables ts (v ∷ vs) rest → Bindings ts (v ∷ vs) rest
  Only : (x : List ℕ) (n : Option ℕ) (T : Ty) (ts rest : List TextToken) → TypePhrase ts T rest → Bindings (token.Name x n ∷ token.Other term.Colons ∷ ts) (variable_of x (Some T) ∷ []) rest

mutual
  -- a term where priority m is wanted, and whether it stands as a proposition
  pub data Phrase (sig : SignatureSeen) : ℕ → List TextToken → Raw → Bool → List TextToken → Type 0 where
    -- x
    Named : (m : ℕ) (x : List ℕ) (n : Option ℕ) (rest : List TextToken) → m ≤ 1000 → Phrase sig m (token.Name x n ∷ rest) (RawName x) false rest
    -- ?x
    Unknown : (m : ℕ) (x : List ℕ) (rest : List TextToken) → m ≤ 1000 → Phrase sig m (token.Other (term.Unknown x) ∷ rest) (RawUnknown x) false rest
    -- (t)
    Parenthesised : (m : ℕ) (t : Raw) (b : Bool) (ts rest : List TextToken) → m ≤ 1000 → Phrase sig 0 ts t b (token.Close ∷ rest) → Phrase sig m (token.Open ∷ ts) t b rest
    -- A ==> B, a == b, infix, infixl and infixr
    Between : (m : ℕ) (s : InfixSign) (l r : Raw) (ts later rest : List TextToken) → m ≤ infix_own s → Due sig (infix_operands s) (infix_left s) ts l (token.Other (term.Infix s) ∷ later) → Due sig (infix_operands s) (infix_right s) later r rest → Phrase sig m ts (between sig s l r) (is_pure_infix s) rest
    -- [| A; B |] ==> C
    Bracketed : (m : ℕ) (as_ : List Raw) (c : Raw) (ts later rest : List TextToken) → m ≤ 1 → Premises sig ts as_ (token.Other (term.Infix infix_sign.Implies) ∷ later) → Due sig wanted.Proposition 1 later c rest → Phrase sig m (token.Other term.OpenPremises ∷ ts) (implied sig as_ c) true rest
    -- t :: T
    Annotated : (m : ℕ) (t : Raw) (b : Bool) (T : Ty) (ts later rest : List TextToken) → m ≤ 3 → Phrase sig 4 ts t b (token.Other term.Colons ∷ later) → TypePhrase later T rest → Phrase sig m ts (RawTyped t T) false rest
    -- PROP t, prefix
    Prefixed : (m : ℕ) (s : PrefixSign) (t : Raw) (b : Bool) (ts rest : List TextToken) → m ≤ prefix_own s → Phrase sig (prefix_own s) ts t b rest → Phrase sig m (token.Other (term.Prefix s) ∷ ts) (prefix_term sig s t) (is_pure_prefix s) rest
    -- !!x y. A, %x y. t, binder
    Bound : (m : ℕ) (s : BinderSign) (vs : List Variable) (t : Raw) (ts later rest : List TextToken) → m ≤ binder_own s → Bindings ts vs (token.Other term.Dot ∷ later) → Due sig (binder_body s) (binder_own s) later t rest → Phrase sig m (token.Other (term.Binder s) ∷ ts) (under sig s vs t) (is_pure_binder s) rest
    -- f a b
    Applied : (m : ℕ) (f a : Raw) (b : Bool) (ts later rest : List TextToken) → m ≤ 999 → Function sig ts f later → Phrase sig 1000 later a b rest → Phrase sig m ts (RawApp f a) false rest

  -- what may have arguments
  pub data Function (sig : SignatureSeen) : List TextToken → Raw → List TextToken → Type 0 where
    Head : (f : Raw) (b : Bool) (ts rest : List TextToken) → Phrase sig 1000 ts f b rest → Function sig ts f rest
    More : (f a : Raw) (b : Bool) (ts later rest : List TextToken) → Function sig ts f later → Phrase sig 1000 later a b rest → Function sig ts (RawApp f a) rest

  -- a proposition or a term, as one is due where priority m is wanted
  pub data Due (sig : SignatureSeen) : Wanted → ℕ → List TextToken → Raw → List TextToken → Type 0 where
    -- a term
    AsTerm : (m : ℕ) (t : Raw) (b : Bool) (ts rest : List TextToken) → Phrase sig m ts t b rest → Due sig wanted.Term m ts t rest
    -- a term that stands as a proposition
    AsProposition : (m : ℕ) (t : Raw) (ts rest : List TextToken) → Phrase sig m ts t true rest → Due sig wanted.Proposition m ts t rest
    -- another term, with the judgment in front
    Judged : (m : ℕ) (J : List ℕ) (t : Raw) (ts rest : List TextToken) → sig.judgment ≡ Some J → Phrase sig m ts t false rest → Due sig wanted.Proposition m ts (RawApp (RawConst J) t) rest

  -- premises with semicolons between them, and `|]` behind
  pub data Premises (sig : SignatureSeen) : List TextToken → List Raw → List TextToken → Type 0 where
    LastPremise : (a : Raw) (ts rest : List TextToken) → Due sig wanted.Proposition 0 ts a (token.Other term.ClosePremises ∷ rest) → Premises sig ts (a ∷ []) rest
    MorePremises : (a : Raw) (as_ : List Raw) (ts later rest : List TextToken) → Due sig wanted.Proposition 0 ts a (token.Other term.Semicolon ∷ later) → Premises sig later as_ rest → Premises sig ts (a ∷ as_) rest

-- What is read of a whole text is a proposition by the grammar.
abbrev pub ReadsPhrases : Type 0
ReadsPhrases = (sig : SignatureSeen) (ts : List TextToken) (p : Part) → Runs sig (text sig ts) (Read p []) → Due sig wanted.Proposition 0 ts p.term []
