-- Forms of commands as data, and what it means to read one: the value that is read, or the first refusal.
use Rattle.std.specs.List.{list_any}
use Rattle.std.specs.Prelude.{codes, ℕ, zero, suc, ◌+◌, ◌*◌, ◌-◌, Bool, true, false, ◌&&◌, ◌||◌, if◌then◌else◌, nat_eq, nat_le, List, [], ◌∷◌, length, Option, Some, None}
use Rattle.isa_terms.specs.Equal.{name_eq}
use Rattle.isa_tokens.specs.declared.token.Token.{Token}
use Rattle.isa_tokens.specs.declared.token.Lexeme.{Lexeme}
use Rattle.isa_tokens.specs.declared.token.Lexeme.TheVariants.{Name, Number, Sign, Broken}
use Rattle.isa_tokens.specs.declared.token.Fault.TheVariants as fault
use Rattle.isa_outer.specs.declared.refusal.Sort.{Sort}
use Rattle.isa_outer.specs.declared.refusal.Kind.{Kind}
use Rattle.isa_outer.specs.declared.refusal.Kind.TheVariants as kind

-- A form with the type of its values.
pub data Form : Type 0 → Type 1 where
  -- one token, which gives this value; `what` names it in a refusal
  one : {A : Type 0} (what : List ℕ) (gives : Lexeme → Option A) → Form A
  -- a number from low to high
  number : (low high : ℕ) → Form ℕ
  -- one form, then the other
  pair : {A B : Type 0} → Form A → Form B → Form (A × B)
  -- the value of the form, changed
  value : {A B : Type 0} → (A → B) → Form A → Form B
  -- the form, or nothing
  maybe : {A : Type 0} → Form A → Form (Option A)
  -- the form, none or many times
  many : {A : Type 0} → Form A → Form (List A)
  -- one of the two
  or : {A : Type 0} → Form A → Form A → Form A
  -- the form, where the test holds of the tokens here
  at : {A : Type 0} → (List Token → Bool) → Form A → Form A
  -- the form; where it does not begin, `what` is expected, but an identifier that is not known is an unknown word of the sort
  known : {A : Type 0} (sort : Sort) (what : List ℕ) (names : List (List ℕ)) → Form A → Form A
  -- the form in parentheses, which may be too deep
  parens : {A : Type 0} (deep : Bool) → Form A → Form A

-- what is read, with the tokens that are left; or the cause of the first refusal
pub data Reading (A : Type 0) : Type 0 where
  Got : (read : A) (rest : List Token) → Reading A
  Refuses : (cause : Kind) → Reading A

infixl 10 ◌>>=◌
abbrev pub ◌>>=◌ : {A B : Type 0} → Reading A → (A × List Token → Reading B) → Reading B
Got a rest >>= f = f (a, rest)
Refuses cause >>= f = Refuses cause

-- a form that may be left out
abbrev pub is_optional : {A : Type 0} → Form A → Bool
is_optional (one what gives) = false
is_optional (number low high) = false
is_optional (pair f g) = is_optional f && is_optional g
is_optional (value h f) = is_optional f
is_optional (maybe f) = true
is_optional (many f) = true
is_optional (or f g) = is_optional f || is_optional g
is_optional (at test f) = is_optional f
is_optional (known sort what names f) = is_optional f
is_optional (parens deep f) = false

abbrev pub is_some : {A : Type 0} → Option A → Bool
is_some None = false
is_some (Some a) = true

abbrev pub is_number : Lexeme → Bool
is_number (Number digits) = true
is_number _ = false

abbrev pub is_sign : ℕ → Lexeme → Bool
is_sign byte (Sign b) = nat_eq b byte
is_sign byte _ = false

-- Does the first token begin the form?
abbrev pub begins : {A : Type 0} → Form A → List Token → Bool
begins (one what gives) [] = false
begins (one what gives) (t ∷ ts) = is_some (gives t.lexeme)
begins (number low high) [] = false
begins (number low high) (t ∷ ts) = is_number t.lexeme
begins (pair f g) ts = begins f ts || (is_optional f && begins g ts)
begins (value h f) ts = begins f ts
begins (maybe f) ts = begins f ts
begins (many f) ts = begins f ts
begins (or f g) ts = begins f ts || begins g ts
begins (at test f) ts = test ts && begins f ts
begins (known sort what names f) ts = begins f ts
begins (parens deep f) [] = false
begins (parens deep f) (t ∷ ts) = is_sign 40 t.lexeme

-- the refusal of a token, where `what` is expected
abbrev pub refusal_at : List ℕ → Lexeme → Kind
refusal_at what (Broken fault.Byte) = kind.Byte
refusal_at what (Broken fault.OpenComment) = kind.OpenComment
refusal_at what (Broken fault.OpenText) = kind.OpenText
refusal_at what (Broken fault.Deep) = kind.Deep
refusal_at what _ = kind.Expected what

-- the cause where `what` is expected and these tokens stand
abbrev pub missing : List ℕ → List Token → Kind
missing what [] = kind.Expected what
missing what (t ∷ ts) = refusal_at what t.lexeme

-- the number that digits write
abbrev pub number_from : ℕ → List ℕ → ℕ
number_from n [] = n
number_from n (d ∷ ds) = number_from (10 * n + (d - 48)) ds

abbrev pub read_number : ℕ → ℕ → Lexeme → List Token → Reading ℕ
read_number low high (Number digits) ts = let n = number_from 0 digits in if nat_le low n && nat_le n high then Got n ts else Refuses kind.Number
read_number low high lexeme ts = Refuses (refusal_at (codes "number") lexeme)

abbrev pub read_one : {A : Type 0} → List ℕ → Option A → Token → List Token → Reading A
read_one what None t ts = Refuses (refusal_at what t.lexeme)
read_one what (Some a) t ts = Got a ts

abbrev pub takes_sign : ℕ → Lexeme → Option (Unit {0})
takes_sign byte (Sign b) = if nat_eq b byte then Some tt else None
takes_sign byte _ = None

abbrev pub read_sign : ℕ → List Token → Reading (Unit {0})
read_sign byte [] = Refuses (kind.Expected (byte ∷ []))
read_sign byte (t ∷ ts) = read_one (byte ∷ []) (takes_sign byte t.lexeme) t ts

abbrev pub unlisted_word : Sort → List ℕ → List (List ℕ) → Lexeme → Kind
unlisted_word sort what names (Name word) = if list_any (name_eq word) names then kind.Expected what else kind.Unknown sort word
unlisted_word sort what names lexeme = refusal_at what lexeme

-- the cause where none of the listed words stands
abbrev pub unlisted : Sort → List ℕ → List (List ℕ) → List Token → Kind
unlisted sort what names [] = kind.Expected what
unlisted sort what names (t ∷ ts) = unlisted_word sort what names t.lexeme

-- a list of at most n, of which the next is there where the test holds
abbrev pub repeated : {A : Type 0} → (List Token → Bool) → (List Token → Reading A) → ℕ → List Token → Reading (List A)
repeated test next zero ts = Got [] ts
repeated test next (suc n) ts = if test ts then (do
  p ← next ts
  q ← repeated test next n p.1
  Got (p.0 ∷ q.0) q.1) else Got [] ts

-- What a form reads at the front of these tokens. A part that may be left out is there where its first token is.
-- Of two forms the one is read that begins here, and the first where none does.
abbrev pub read : {A : Type 0} → Form A → List Token → Reading A
read (one what gives) [] = Refuses (kind.Expected what)
read (one what gives) (t ∷ ts) = read_one what (gives t.lexeme) t ts
read (number low high) [] = Refuses (kind.Expected (codes "number"))
read (number low high) (t ∷ ts) = read_number low high t.lexeme ts
read (pair f g) ts = do
  p ← read f ts
  q ← read g p.1
  Got (p.0, q.0) q.1
read (value h f) ts = do
  p ← read f ts
  Got (h p.0) p.1
read (maybe f) ts = if begins f ts then (do
  p ← read f ts
  Got (Some p.0) p.1) else Got None ts
read (many f) ts = repeated (begins f) (read f) (length ts) ts
read (or f g) ts = if begins f ts then read f ts else (if begins g ts then read g ts else read f ts)
read (at test f) ts = read f ts
read (known sort what names f) ts = if begins f ts then read f ts else Refuses (unlisted sort what names ts)
read (parens deep f) ts = do
  u ← read_sign 40 ts
  if deep then Refuses kind.Deep else (do
    p ← read f u.1
    v ← read_sign 41 p.1
    Got p.0 v.1)
