-- The grammar of types: what the tokens in front may be read as, and the tokens behind it.
use Rattle.std.specs.Prelude.{◌≡◌, ℕ, ◌⊎◌, List, [], ◌∷◌, length, Some}
use Rattle.isa_terms.specs.Types.{Ty, TyCon, TyFixed, TyUnknown, tys_of}
use Rattle.isa_terms.specs.Typing.{function_of}
use Rattle.isa_inner_types.specs.declared.token.TextToken.{TextToken}
use Rattle.isa_inner_types.specs.declared.token.TextToken.TheVariants as token
use Rattle.isa_inner_types.specs.declared.token.TypeRefusal.TheVariants as refusal
use Rattle.isa_inner_types.specs.TypeReading.{Outcome, Read, Refused, Whole, Step, Runs, step, functions_of, type_text}

mutual
  -- a type
  pub data TypePhrase : List TextToken → Ty → List TextToken → Type 0 where
    -- a type that can have a name behind it
    Alone : (T : Ty) (ts rest : List TextToken) → Closed ts T rest → TypePhrase ts T rest
    -- t => t
    To : (T U : Ty) (ts later rest : List TextToken) → Closed ts T (token.Arrow ∷ later) → TypePhrase later U rest → TypePhrase ts (function_of T U) rest
    -- [t, t] => t
    From : (Ts : List Ty) (U : Ty) (ts later rest : List TextToken) → Several ts Ts (token.CloseList ∷ token.Arrow ∷ later) → TypePhrase later U rest → TypePhrase (token.OpenList ∷ ts) (functions_of Ts U) rest

  -- a type that can have a name behind it
  pub data Closed : List TextToken → Ty → List TextToken → Type 0 where
    -- 'a
    Fixed : (x : List ℕ) (rest : List TextToken) → Closed (token.Variable x ∷ rest) (TyFixed x) rest
    -- ?'a
    Open : (x : List ℕ) (rest : List TextToken) → Closed (token.Unknown x ∷ rest) (TyUnknown x 0) rest
    -- NAME
    Named : (c : List ℕ) (rest : List TextToken) → Closed (token.Name c (Some 0) ∷ rest) (TyCon c (tys_of [])) rest
    -- t NAME
    Postfix : (T : Ty) (c : List ℕ) (ts rest : List TextToken) → Closed ts T (token.Name c (Some 1) ∷ rest) → Closed ts (TyCon c (tys_of (T ∷ []))) rest
    -- (t, t) NAME
    Tuple : (Ts : List Ty) (c : List ℕ) (ts rest : List TextToken) → Several ts Ts (token.Close ∷ token.Name c (Some (length Ts)) ∷ rest) → Closed (token.Open ∷ ts) (TyCon c (tys_of Ts)) rest
    -- (t)
    Parenthesised : (T : Ty) (ts rest : List TextToken) → TypePhrase ts T (token.Close ∷ rest) → Closed (token.Open ∷ ts) T rest

  -- types with commas between them
  pub data Several : List TextToken → List Ty → List TextToken → Type 0 where
    Last : (T : Ty) (ts rest : List TextToken) → TypePhrase ts T rest → Several ts (T ∷ []) rest
    Next : (T : Ty) (Ts : List Ty) (ts later rest : List TextToken) → TypePhrase ts T (token.Comma ∷ later) → Several later Ts rest → Several ts (T ∷ Ts) rest

-- Tokens have one outcome at most.
abbrev pub OneTypeOutcome : Type 0
OneTypeOutcome = (s : Step) (o u : Outcome) → Runs s o → Runs s u → o ≡ u

-- What is read is a phrase of the grammar.
abbrev pub ReadsTypes : Type 0
ReadsTypes = (d : ℕ) (ts : List TextToken) (T : Ty) (h : ℕ) (rest : List TextToken) → Runs (step (Whole d) ts) (Read T h rest) → TypePhrase ts T rest

-- nested too deep
abbrev pub IsDeep : Outcome → Type 0
IsDeep (Read T h rest) = ⊥
IsDeep (Refused (refusal.Expected w) at) = ⊥
IsDeep (Refused refusal.Undeclared at) = ⊥
IsDeep (Refused refusal.Arity at) = ⊥
IsDeep (Refused refusal.Deep at) = Unit {0}
IsDeep (Refused (refusal.Met n) at) = ⊥

-- A text that is a phrase of the grammar is read as just this type, or refused as nested too deep.
abbrev pub NoTypeDeadEnd : Type 0
NoTypeDeadEnd = (ts : List TextToken) (T : Ty) (o : Outcome) → TypePhrase ts T [] → Runs (type_text ts) o → IsDeep o ⊎ ((h : ℕ) × (o ≡ Read T h []))
