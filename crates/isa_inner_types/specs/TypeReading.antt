-- How tokens are read as a type: `'a`, `?'a`, `NAME`, `t NAME`, `(t, t) NAME`, `(t)`, `t => t` to the right, `[t, t] => t`.
-- A type reaches as far as it may, and the first token at which no reading goes on is refused. The depth of a place counts
-- the parentheses and brackets around it and the `=>` in whose operands it stands; a name behind its arguments does not count.
-- Source: the inner syntax of types of Isabelle (The Isabelle/Isar Reference Manual, "Inner syntax", "The Pure syntax"), without sorts.
use Rattle.std.specs.Prelude.{◌≡◌, ℕ, ◌+◌, Bool, true, false, cond, nat_lt, nat_eq, max, List, [], ◌∷◌, ◌++◌, length, Option, Some, None}
use Rattle.isa_terms.specs.Types.{Ty, TyCon, TyFixed, TyUnknown, tys_of}
use Rattle.isa_terms.specs.Typing.{function_of}
use Rattle.isa_inner_types.specs.declared.token.TextToken.{TextToken}
use Rattle.isa_inner_types.specs.declared.token.TextToken.TheVariants as token
use Rattle.isa_inner_types.specs.declared.token.TypeWanted.{TypeWanted}
use Rattle.isa_inner_types.specs.declared.token.TypeWanted.TheVariants as wanted
use Rattle.isa_inner_types.specs.declared.token.TypeRefusal.{TypeRefusal}
use Rattle.isa_inner_types.specs.declared.token.TypeRefusal.TheVariants as refusal

-- What comes of tokens: a type, how much deeper than the type itself its deepest place is, and the tokens behind it;
-- or a refusal and the tokens from its place on.
pub data Outcome : Type 0 where
  Read : (T : Ty) (height : ℕ) (rest : List TextToken) → Outcome
  Refused : (why : TypeRefusal) (at : List TextToken) → Outcome

-- What is read: a type; what goes on behind a type that is no function type; further types in parentheses, or in
-- brackets, behind those that were read.
pub data Place : Type 0 where
  Whole : (depth : ℕ) → Place
  Behind : (depth : ℕ) (left : Ty) (height : ℕ) → Place
  Arguments : (depth : ℕ) (types : List Ty) (height : ℕ) → Place
  Domains : (depth : ℕ) (types : List Ty) (height : ℕ) → Place

-- One step: the end; going on at a place; or reading a part first and going on by what comes of it.
pub data Step : Type 0 where
  Ends : (o : Outcome) → Step
  Goes : (p : Place) (tokens : List TextToken) → Step
  Inside : (p : Place) (tokens : List TextToken) (after : Outcome → Step) → Step

-- a refused part is the refusal of the whole
abbrev pub and_then : (Ty → ℕ → List TextToken → Step) → Outcome → Step
and_then go (Read T h rest) = go T h rest
and_then go (Refused why at) = Ends (Refused why at)

-- why a token that is not wanted here is refused
abbrev pub why : TypeWanted → List TextToken → TypeRefusal
why w [] = refusal.Expected w
why w (token.Refused n ∷ ts) = refusal.Met n
why w (t ∷ ts) = refusal.Expected w

abbrev pub refuse : TypeWanted → List TextToken → Step
refuse w ts = Ends (Refused (why w ts) ts)

abbrev pub limit : ℕ
limit = 500

-- how many arguments a constructor takes, where it is declared, against those that it has
pub data Use : Type 0 where
  Right : Use
  Wrong : (why : TypeRefusal) → Use

abbrev pub use_of : Option ℕ → ℕ → Use
use_of None n = Wrong refusal.Undeclared
use_of (Some k) n = cond (nat_eq k n) Right (Wrong refusal.Arity)

-- a declared constructor with as many arguments as it takes; the name stands in front of the tokens `at`
abbrev pub used : Use → List ℕ → List Ty → List TextToken → (Ty → Step) → Step
used Right c Ts at go = go (TyCon c (tys_of Ts))
used (Wrong why) c Ts at go = Ends (Refused why at)

abbrev pub construct : List ℕ → Option ℕ → List Ty → List TextToken → (Ty → Step) → Step
construct c n Ts at go = used (use_of n (length Ts)) c Ts at go

-- the functions from these types
abbrev pub functions_of : List Ty → Ty → Ty
functions_of [] U = U
functions_of (T ∷ Ts) U = function_of T (functions_of Ts U)

-- what a type begins with
abbrev pub front : ℕ → List TextToken → Step
front d (token.Variable x ∷ ts) = Goes (Behind d (TyFixed x) 0) ts
front d (token.Unknown x ∷ ts) = Goes (Behind d (TyUnknown x 0) 0) ts
front d (token.Name c n ∷ ts) = construct c n [] (token.Name c n ∷ ts) (λ T. Goes (Behind d T 0) ts)
front d (token.Open ∷ ts) = Inside (Whole (d + 1)) ts (and_then (λ T h later. Goes (Arguments d (T ∷ []) (h + 1)) later))
front d (token.OpenList ∷ ts) = Inside (Whole (d + 2)) ts (and_then (λ T h later. Goes (Domains d (T ∷ []) (h + 2)) later))
front d ts = refuse wanted.Type ts

-- a name behind its argument, or `=>`
abbrev pub behind : ℕ → Ty → ℕ → List TextToken → Step
behind d T h (token.Name c n ∷ ts) = construct c n (T ∷ []) (token.Name c n ∷ ts) (λ U. Goes (Behind d U h) ts)
behind d T h (token.Arrow ∷ ts) =
    cond (nat_lt (d + h) limit)
    (Inside (Whole (d + 1)) ts (and_then (λ U k later. Ends (Read (function_of T U) (max h k + 1) later))))
    (Ends (Refused refusal.Deep (token.Arrow ∷ ts)))
behind d T h ts = Ends (Read T h ts)

-- `(t)`, or `(t, t) NAME`
abbrev pub closed : ℕ → List Ty → ℕ → List TextToken → Step
closed d (T ∷ []) h ts = Goes (Behind d T h) ts
closed d Ts h (token.Name c n ∷ ts) = construct c n Ts (token.Name c n ∷ ts) (λ T. Goes (Behind d T h) ts)
closed d Ts h ts = refuse wanted.Name ts

abbrev pub arguments : ℕ → List Ty → ℕ → List TextToken → Step
arguments d Ts h (token.Comma ∷ ts) = Inside (Whole (d + 1)) ts (and_then (λ T k later. Goes (Arguments d (Ts ++ T ∷ []) (max h (k + 1))) later))
arguments d Ts h (token.Close ∷ ts) = closed d Ts h ts
arguments d Ts h ts = refuse wanted.Close ts

-- `[t, t] => t`
abbrev pub range : ℕ → List Ty → ℕ → List TextToken → Step
range d Ts h (token.Arrow ∷ ts) = Inside (Whole (d + 1)) ts (and_then (λ U k later. Ends (Read (functions_of Ts U) (max h (k + 1)) later)))
range d Ts h ts = refuse wanted.Arrow ts

abbrev pub domains : ℕ → List Ty → ℕ → List TextToken → Step
domains d Ts h (token.Comma ∷ ts) = Inside (Whole (d + 2)) ts (and_then (λ T k later. Goes (Domains d (Ts ++ T ∷ []) (max h (k + 2))) later))
domains d Ts h (token.CloseList ∷ ts) = range d Ts h ts
domains d Ts h ts = refuse wanted.CloseList ts

abbrev pub step : Place → List TextToken → Step
step (Whole d) ts = cond (nat_lt limit d) (Ends (Refused refusal.Deep ts)) (front d ts)
step (Behind d T h) ts = behind d T h ts
step (Arguments d Ts h) ts = arguments d Ts h ts
step (Domains d Ts h) ts = domains d Ts h ts

-- What comes of a step in the end.
pub data Runs : Step → Outcome → Type 0 where
  ends : (o : Outcome) → Runs (Ends o) o
  goes : (p : Place) (ts : List TextToken) (o : Outcome) → Runs (step p ts) o → Runs (Goes p ts) o
  inside : (p : Place) (ts : List TextToken) (after : Outcome → Step) (part o : Outcome) → Runs (step p ts) part → Runs (after part) o → Runs (Inside p ts after) o

-- a text that is a type has nothing behind it
abbrev pub at_end : Ty → ℕ → List TextToken → Step
at_end T h [] = Ends (Read T h [])
at_end T h (t ∷ ts) = refuse wanted.EndOfText (t ∷ ts)

abbrev pub type_text : List TextToken → Step
type_text ts = Inside (Whole 0) ts (and_then at_end)
