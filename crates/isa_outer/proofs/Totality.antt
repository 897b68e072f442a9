-- Each text has one reading.
use Rattle.std.proofs.Common.{◌≡◌, ℕ, zero, suc, ◌+◌, ◌≤◌, ◌<◌, Bool, true, false, ◌&&◌, ◌||◌, nat_le, List, [], ◌∷◌, length, refl, ap, subst, arith}
use Rattle.std.specs.Prelude.{if◌then◌else◌, Option, Some, None, Result, Ok, Err}
use Rattle.isa_tokens.specs.declared.token.Token.{Token}
use Rattle.isa_tokens.specs.declared.token.Lexeme.{Lexeme}
use Rattle.isa_tokens.specs.declared.token.Lexeme.TheVariants as lexeme
use Rattle.isa_tokens.specs.Tokens as lexer
use Rattle.isa_tokens.proofs.Totality.{each_is_cut}
use Rattle.isa_tokens.proofs.OneCutting.{one_cutting}
use Rattle.isa_outer.specs.declared.refusal.Kind.TheVariants as kind
use Rattle.isa_outer.specs.declared.refusal.Refused.{Refused}
use Rattle.isa_outer.specs.declared.command.Command.{Command}
use Rattle.isa_outer.specs.Forms.{Form, one, number, pair, value, maybe, many, or, at, known, parens, Reading, Got, Refuses, ◌>>=◌, is_optional, begins, read, read_one, read_number, read_sign, takes_sign, number_from, repeated, unlisted}
use Rattle.isa_outer.specs.Grammar.{command, theory_command, proof_command}
use Rattle.isa_outer.specs.Texts.{Reads, ends, next, refuses, is_end, first_line, line_at, AnswersText, IsReading, Meets, with_command, commands_within, reading_of}
use Rattle.isa_outer.proofs.OneReading.{one_reading}

-- no more tokens are left, and fewer where the form can't be left out
abbrev Less : Bool → ℕ → ℕ → Type 0
Less true m n = m ≤ n
Less false m n = m < n

abbrev Falls : {A : Type 0} → Bool → List Token → Reading A → Type 0
Falls optional ts (Got a rest) = Less optional (length rest) (length ts)
Falls optional ts (Refuses cause) = Unit {0}

less_same : (n : ℕ) → Less true n n
less_same n = omega arith

less_or : (x y : Bool) (m n : ℕ) → Less x m n → Less (x || y) m n
less_or true y m n h = h
less_or false true m n h = let k : m < n = h in omega arith
less_or false false m n h = h

less_then : (x y : Bool) (k m n : ℕ) → Less x m n → Less y k m → Less (x && y) k n
less_then true true k m n g h = let p : m ≤ n = g in let q : k ≤ m = h in omega arith
less_then true false k m n g h = let p : m ≤ n = g in let q : k < m = h in omega arith
less_then false true k m n g h = let p : m < n = g in let q : k ≤ m = h in omega arith
less_then false false k m n g h = let p : m < n = g in let q : k < m = h in omega arith

or_falls : {A : Type 0} (x y : Bool) (ts : List Token) (r : Reading A) → Falls x ts r → Falls (x || y) ts r
or_falls x y ts (Got a rest) h = less_or x y (length rest) (length ts) h
or_falls x y ts (Refuses cause) h = tt

weaker : (y : Bool) (m n : ℕ) → Less y m n → Less true m n
weaker true m n h = h
weaker false m n h = let k : m < n = h in omega arith

falls_weaker : {A : Type 0} (y : Bool) (ts : List Token) (r : Reading A) → Falls y ts r → Falls true ts r
falls_weaker y ts (Got a rest) h = weaker y (length rest) (length ts) h
falls_weaker y ts (Refuses cause) h = tt

or_right : {A : Type 0} (x y : Bool) (ts : List Token) (r : Reading A) → Falls y ts r → Falls (x || y) ts r
or_right true y ts r h = falls_weaker y ts r h
or_right false y ts r h = h

either : {A : Type 0} (b : Bool) (ts : List Token) (c : Bool) (r s : Reading A) → Falls b ts r → Falls b ts s → Falls b ts (if c then r else s)
either b ts true r s h k = h
either b ts false r s h k = k

-- what is read after this
behind : {B : Type 0} (x y : Bool) (ts rest : List Token) (r : Reading B) → Less x (length rest) (length ts) → Falls y rest r → Falls (x && y) ts r
behind x y ts rest (Got b more) h g = less_then x y (length more) (length rest) (length ts) h g
behind x y ts rest (Refuses cause) h g = tt

both : {A B : Type 0} (x y : Bool) (ts : List Token) (r : Reading A) (k : A × List Token → Reading B) → Falls x ts r → ((p : A × List Token) → Falls y p.1 (k p)) → Falls (x && y) ts (r >>= k)
both x y ts (Got a rest) k h g = behind x y ts rest (k (a, rest)) h (g (a, rest))
both x y ts (Refuses cause) k h g = tt

changed : {A B : Type 0} (y : Bool) (ts : List Token) (r : Reading A) (h : A → B) → Falls y ts r → Falls y ts (r >>= (λ p. Got (h p.0) p.1))
changed y ts (Got a rest) h f = f
changed y ts (Refuses cause) h f = tt

one_falls : {A : Type 0} (what : List ℕ) (o : Option A) (t : Token) (ts : List Token) → Falls false (t ∷ ts) (read_one what o t ts)
one_falls what None t ts = tt
one_falls what (Some a) t ts = let h : length ts < length (t ∷ ts) = omega arith in h

number_falls : (low high : ℕ) (l : Lexeme) (t : Token) (ts : List Token) → Falls false (t ∷ ts) (read_number low high l ts)
number_falls low high (lexeme.Number digits) t ts =
    let n : ℕ = number_from 0 digits in
    either false (t ∷ ts) (nat_le low n && nat_le n high) (Got n ts) (Refuses kind.Number) (let h : length ts < length (t ∷ ts) = omega arith in h) tt
number_falls low high (lexeme.Name bytes) t ts = tt
number_falls low high (lexeme.Text bytes) t ts = tt
number_falls low high (lexeme.TypeVariable bytes) t ts = tt
number_falls low high lexeme.Colons t ts = tt
number_falls low high (lexeme.Sign byte) t ts = tt
number_falls low high lexeme.End t ts = tt
number_falls low high (lexeme.Broken fault) t ts = tt

sign_falls : (byte : ℕ) (ts : List Token) → Falls false ts (read_sign byte ts)
sign_falls byte [] = tt
sign_falls byte (t ∷ ts) = one_falls (byte ∷ []) (takes_sign byte t.lexeme) t ts

repeated_falls : {A : Type 0} (test : List Token → Bool) (go : List Token → Reading A) → ((us : List Token) → Falls true us (go us)) → (n : ℕ) (ts : List Token) → Falls true ts (repeated test go n ts)
repeated_falls test go f zero ts = less_same (length ts)
repeated_falls {A} test go f (suc n) ts =
    let more : Reading (List A) = go ts >>= (λ p. repeated test go n p.1 >>= (λ q. Got (p.0 ∷ q.0) q.1)) in
    either true ts (test ts) more (Got [] ts)
    (both true true ts (go ts) (λ p. repeated test go n p.1 >>= (λ q. Got (p.0 ∷ q.0) q.1)) (f ts)
    (λ p. changed true p.1 (repeated test go n p.1) (λ xs. p.0 ∷ xs) (repeated_falls test go f n p.1)))
    (less_same (length ts))

falls : {A : Type 0} (f : Form A) (ts : List Token) → Falls (is_optional f) ts (read f ts)
falls (one what gives) [] = tt
falls (one what gives) (t ∷ ts) = one_falls what (gives t.lexeme) t ts
falls (number low high) [] = tt
falls (number low high) (t ∷ ts) = number_falls low high t.lexeme t ts
falls (pair f g) ts =
    both (is_optional f) (is_optional g) ts (read f ts) (λ p. read g p.1 >>= (λ q. Got (p.0, q.0) q.1)) (falls f ts)
    (λ p. changed (is_optional g) p.1 (read g p.1) (λ b. (p.0, b)) (falls g p.1))
falls (value h f) ts = changed (is_optional f) ts (read f ts) h (falls f ts)
falls (maybe f) ts =
    either true ts (begins f ts) (read f ts >>= (λ p. Got (Some p.0) p.1)) (Got None ts)
    (changed true ts (read f ts) (λ a. Some a) (falls_weaker (is_optional f) ts (read f ts) (falls f ts))) (less_same (length ts))
falls (many f) ts = repeated_falls (begins f) (read f) (λ us. falls_weaker (is_optional f) us (read f us) (falls f us)) (length ts) ts
falls (or f g) ts =
    let first : Falls (is_optional f || is_optional g) ts (read f ts) = or_falls (is_optional f) (is_optional g) ts (read f ts) (falls f ts) in
    either (is_optional f || is_optional g) ts (begins f ts) (read f ts) (if begins g ts then read g ts else read f ts) first
    (either (is_optional f || is_optional g) ts (begins g ts) (read g ts) (read f ts) (or_right (is_optional f) (is_optional g) ts (read g ts) (falls g ts)) first)
falls (at test f) ts = falls f ts
falls (known sort what names f) ts = either (is_optional f) ts (begins f ts) (read f ts) (Refuses (unlisted sort what names ts)) (falls f ts) tt
falls {A} (parens deep f) ts =
    let inside : (u : Unit {0} × List Token) → Reading A = λ u. if deep then Refuses kind.Deep else (read f u.1 >>= (λ p. read_sign 41 p.1 >>= (λ v. Got p.0 v.1))) in
    both false true ts (read_sign 40 ts) inside (sign_falls 40 ts)
    (λ u. either true u.1 deep (Refuses kind.Deep) (read f u.1 >>= (λ p. read_sign 41 p.1 >>= (λ v. Got p.0 v.1))) tt
    (both true true u.1 (read f u.1) (λ p. read_sign 41 p.1 >>= (λ v. Got p.0 v.1)) (falls_weaker (is_optional f) u.1 (read f u.1) (falls f u.1))
    (λ p. changed true p.1 (read_sign 41 p.1) (λ v. p.0) (falls_weaker false p.1 (read_sign 41 p.1) (sign_falls 41 p.1)))))

command_needed : (line : ℕ) → is_optional (command line) ≡ false
unfolding command theory_command proof_command
command_needed line = refl

command_falls : (line : ℕ) (ts : List Token) → Falls false ts (read (command line) ts)
command_falls line ts = subst (λ (b : Bool). Falls b ts (read (command line) ts)) (command_needed line) (falls (command line) ts)

-- ---- each list of tokens has a reading
abbrev Holds : Option ℕ → List Token → Result (List Command) Refused → Type 0
Holds last ts (Ok commands) = Reads last ts commands None
Holds last ts (Err refused) = (commands : List Command) × Reads last ts commands (Some refused)

abbrev by_reading : ℕ → Option ℕ → List Token → Reading Command → Result (List Command) Refused
by_reading n last ts r = elim r [
  | Got c rest ↦ with_command c (commands_within n (Some (first_line ts)) rest)
  | Refuses cause ↦ Err (record { line = line_at last ts; kind = cause })
]

next_holds : (last : Option ℕ) (ts rest : List Token) (c : Command) (r : Result (List Command) Refused) → is_end ts ≡ false → read (command (first_line ts)) ts ≡ Got c rest →
    Holds (Some (first_line ts)) rest r → Holds last ts (with_command c r)
next_holds last ts rest c (Ok cs) e h s = next last ts rest c cs None e h s
next_holds last ts rest c (Err refused) e h s = (c ∷ s.0, next last ts rest c s.0 (Some refused) e h s.1)

reading_holds : (n : ℕ) (last : Option ℕ) (ts : List Token) (r : Reading Command) → is_end ts ≡ false → read (command (first_line ts)) ts ≡ r → Falls false ts r → length ts < suc n →
    ((l : Option ℕ) (us : List Token) → length us < n → Holds l us (commands_within n l us)) → Holds last ts (by_reading n last ts r)
reading_holds n last ts (Got c rest) e h f l go =
    let k : length rest < length ts = f in
    next_holds last ts rest c (commands_within n (Some (first_line ts)) rest) e h (go (Some (first_line ts)) rest (omega arith))
reading_holds n last ts (Refuses cause) e h f l go = ([], refuses last ts cause e h)

end_holds : (n : ℕ) (last : Option ℕ) (ts : List Token) (b : Bool) → is_end ts ≡ b → length ts < suc n →
    ((l : Option ℕ) (us : List Token) → length us < n → Holds l us (commands_within n l us)) →
    Holds last ts (if b then Ok [] else by_reading n last ts (read (command (first_line ts)) ts))
end_holds n last ts true e l go = ends last ts e
end_holds n last ts false e l go = reading_holds n last ts (read (command (first_line ts)) ts) e refl (command_falls (first_line ts) ts) l go

each_holds : (n : ℕ) (last : Option ℕ) (ts : List Token) → length ts < n → Holds last ts (commands_within n last ts)
each_holds zero last ts h = absurd (omega arith)
each_holds (suc n) last ts h = end_holds n last ts (is_end ts) refl h (λ l us k. each_holds n l us k)

as_reading : (tokens : List Token) (r : Result (List Command) Refused) → Holds None tokens r → IsReading tokens r
as_reading tokens (Ok commands) h = h
as_reading tokens (Err refused) h = h

pub each_is_read : (text : List ℕ) → (tokens : List Token) × lexer.Reads text text tokens × IsReading tokens (reading_of text)
unfolding reading_of
each_is_read text =
    let tokens : List Token = lexer.tokens_of text in
    (tokens, each_is_cut text, as_reading tokens (commands_within (length tokens + 1) None tokens) (each_holds (length tokens + 1) None tokens (omega arith)))

-- ---- and no other
ok_meets : (tokens : List Token) (r : Result (List Command) Refused) (cs : List Command) → IsReading tokens r → Reads None tokens cs None → r ≡ Ok cs
ok_meets tokens (Ok ds) cs h k = ap (λ (l : List Command). let o : Result (List Command) Refused = Ok l in o) (one_reading None tokens ds None h cs None k).0
ok_meets tokens (Err refused) cs h k = let e : Some refused ≡ None = (one_reading None tokens h.0 (Some refused) h.1 cs None k).1 in absurd cc

err_meets : (tokens : List Token) (r : Result (List Command) Refused) (cs : List Command) (x : Refused) → IsReading tokens r → Reads None tokens cs (Some x) → r ≡ Err x
err_meets tokens (Ok ds) cs x h k = let e : None ≡ Some x = (one_reading None tokens ds None h cs (Some x) k).1 in absurd cc
err_meets tokens (Err refused) cs x h k =
    let e : Some refused ≡ Some x = (one_reading None tokens h.0 (Some refused) h.1 cs (Some x) k).1 in
    let same : refused ≡ x = cc (e) in
    ap (λ (y : Refused). let o : Result (List Command) Refused = Err y in o) same

here : (text : List ℕ) (us : List Token) → lexer.Reads text text us → IsReading us (reading_of text)
here text us l =
    let it = each_is_read text in
    subst (λ (ts : List Token). IsReading ts (reading_of text)) (one_cutting text text it.0 it.1 us l) it.2

pub answer_meets : (text : List ℕ) (r : Result (List Command) Refused) → AnswersText text r → Meets r (reading_of text)
answer_meets text (Ok commands) h = ok_meets h.0 (reading_of text) commands (here text h.0 h.1) h.2
answer_meets text (Err refused) h = λ n. let a = h n in err_meets a.0 (reading_of text) a.2 refused (here text a.0 a.1) a.3
