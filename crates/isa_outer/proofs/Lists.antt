-- Reading a list, one after the other.
use Rattle.std.proofs.Common.{◌≡◌, ℕ, zero, suc, ◌≤◌, ◌<◌, Bool, true, false, List, [], ◌∷◌, ◌++◌, length, refl, sym, ap, subst, ◌∙◌, arith, append_assoc, append-nil}
use Rattle.std.specs.Prelude.{if◌then◌else◌}
use Rattle.isa_tokens.specs.declared.token.Token.{Token}
use Rattle.isa_outer.specs.declared.refusal.Kind.{Kind}
use Rattle.std.proofs.Common.{◌&&◌, ◌||◌}
use Rattle.isa_outer.specs.Grammar.{some, separated, ◌▸◌}
use Rattle.isa_outer.specs.Private.Answers.{IsCause, Answers, AnswersPart}
use Rattle.std.specs.Prelude.{Result, Ok, Err}
use Rattle.std.specs.Result.{IsErrAnd}
use Rattle.std.specs.Borrow.{Bor}
use Rattle.isa_outer.specs.Forms.{Form, is_optional, one, number, value, maybe, or, at, known, parens, many, pair, Reading, Got, Refuses, begins, read, repeated, ◌>>=◌}

-- the reading, behind some items
abbrev pub onto : {A : Type 0} → List A → Reading (List A) → Reading (List A)
onto xs (Got ys rest) = Got (xs ++ ys) rest
onto xs (Refuses cause) = Refuses cause

-- these items of the list were read, and the others are still to be read
pub record SoFar (A : Type 0) (form : Form A) (start rest : List Token) (items : List A) : Type 0 where
  pub more : ℕ
  pub enough : length rest ≤ more
  pub same : read (many form) start ≡ onto items (repeated (begins form) (read form) more rest)

onto_none : {A : Type 0} (r : Reading (List A)) → r ≡ onto [] r
onto_none (Got ys rest) = refl
onto_none (Refuses cause) = refl

pub so_far_start : (A : Type 0) (form : Form A) (start : List Token) → SoFar A form start start []
so_far_start A form start = record { more = length start; enough = omega arith; same = onto_none (repeated (begins form) (read form) (length start) start) }

unroll : {A : Type 0} (form : Form A) (n : ℕ) (ts : List Token) → begins form ts ≡ true →
    repeated (begins form) (read form) (suc n) ts ≡ (read form ts >>= λ p. repeated (begins form) (read form) n p.1 >>= λ q. Got (p.0 ∷ q.0) q.1)
unroll form n ts e = ap (λ b. if b then (read form ts >>= λ p. repeated (begins form) (read form) n p.1 >>= λ q. Got (p.0 ∷ q.0) q.1) else Got [] ts) e

stop : {A : Type 0} (form : Form A) (n : ℕ) (ts : List Token) → begins form ts ≡ false → repeated (begins form) (read form) n ts ≡ Got [] ts
stop form zero ts e = refl
stop form (suc n) ts e = ap (λ b. if b then (read form ts >>= λ p. repeated (begins form) (read form) n p.1 >>= λ q. Got (p.0 ∷ q.0) q.1) else Got [] ts) e

onto_more : {A : Type 0} (items : List A) (a : A) (r : Reading (List A)) → onto items (r >>= λ q. Got (a ∷ q.0) q.1) ≡ onto (items ++ a ∷ []) r
onto_more items a (Got ys rest) = ap (λ xs. Got xs rest) (sym (append_assoc items (a ∷ []) ys))
onto_more items a (Refuses cause) = refl

pub so_far_next : (A : Type 0) (form : Form A) (start rest after : List Token) (items : List A) (a : A) →
    SoFar A form start rest items → begins form rest ≡ true → read form rest ≡ Got a after → length after < length rest → SoFar A form start after (items ++ a ∷ [])
so_far_next A form start rest after items a so e r h = next so.more so.enough so.same
  where
    next : (n : ℕ) → length rest ≤ n → read (many form) start ≡ onto items (repeated (begins form) (read form) n rest) → SoFar A form start after (items ++ a ∷ [])
    next zero le same = absurd (omega arith)
    next (suc n) le same =
        record {
          more = n;
          enough = omega arith;
          same = same ∙ ap (λ x. onto items x) (unroll form n rest e) ∙ ap (λ (x : Reading A). onto items (x >>= λ p. repeated (begins form) (read form) n p.1 >>= λ q. Got (p.0 ∷ q.0) q.1)) r
              ∙ onto_more items a (repeated (begins form) (read form) n after);
        }

pub so_far_end : (A : Type 0) (form : Form A) (start rest : List Token) (items : List A) →
    SoFar A form start rest items → begins form rest ≡ false → read (many form) start ≡ Got items rest
so_far_end A form start rest items so e =
    so.same ∙ ap (λ x. onto items x) (stop form so.more rest e) ∙ ap (λ xs. Got xs rest) (append-nil items)

and-false : (b : Bool) → (b && false) ≡ false
and-false true = refl
and-false false = refl

-- nothing begins where no token is
begins_nothing : {A : Type 0} (f : Form A) → begins f [] ≡ false
begins_nothing (one what gives) = refl
begins_nothing (number low high) = refl
begins_nothing (pair f g) = (λ i. begins_nothing f i || (is_optional f && begins_nothing g i)) ∙ and-false (is_optional f)
begins_nothing (value h f) = begins_nothing f
begins_nothing (maybe f) = begins_nothing f
begins_nothing (many f) = begins_nothing f
begins_nothing (or f g) = λ i. begins_nothing f i || begins_nothing g i
begins_nothing (at test f) = (λ i. test [] && begins_nothing f i) ∙ and-false (test [])
begins_nothing (known sort what names f) = begins_nothing f
begins_nothing (parens deep f) = refl

token_there : {A : Type 0} (form : Form A) (ts : List Token) → begins form ts ≡ true → 0 < length ts
token_there form [] e = absurd (no (sym e ∙ begins_nothing form))
  where
    no : true ≡ false → ⊥
    no h = cc
token_there form (t ∷ ts) e = omega arith

pub so_far_refused : (A : Type 0) (form : Form A) (start rest : List Token) (items : List A) (cause : Kind) →
    SoFar A form start rest items → begins form rest ≡ true → read form rest ≡ Refuses cause → read (many form) start ≡ Refuses cause
so_far_refused A form start rest items cause so e r = refused so.more so.enough so.same
  where
    refused : (n : ℕ) → length rest ≤ n → read (many form) start ≡ onto items (repeated (begins form) (read form) n rest) → read (many form) start ≡ Refuses cause
    refused zero le same = let h : 0 < length rest = token_there form rest e in absurd (omega arith)
    refused (suc n) le same =
        same ∙ ap (λ x. onto items x) (unroll form n rest e) ∙ ap (λ (x : Reading A). onto items (x >>= λ p. repeated (begins form) (read form) n p.1 >>= λ q. Got (p.0 ∷ q.0) q.1)) r

-- the first item and some others were read, and the rest is still to be read
pub record PairSoFar (A B : Type 0) (first : Form A) (form : Form B) (tokens rest : List Token) (a : A) (items : List B) : Type 0 where
  pub start : List Token
  pub begun : read first tokens ≡ Got a start
  pub so : SoFar B form start rest items
  pub shorter : length rest < length tokens

pub pair_start : (A B : Type 0) (first : Form A) (form : Form B) (tokens start : List Token) (a : A) → read first tokens ≡ Got a start → length start < length tokens →
    PairSoFar A B first form tokens start a []
pair_start A B first form tokens start a e h = record { start = start; begun = e; so = so_far_start B form start; shorter = h }

pub pair_next : (A B : Type 0) (first : Form A) (form : Form B) (tokens rest after : List Token) (a : A) (items : List B) (b : B) →
    PairSoFar A B first form tokens rest a items → begins form rest ≡ true → read form rest ≡ Got b after → length after < length rest → PairSoFar A B first form tokens after a (items ++ b ∷ [])
pair_next A B first form tokens rest after a items b p e r h =
    record { start = p.start; begun = p.begun; so = so_far_next B form p.start rest after items b p.so e r h; shorter = omega (arith, h, p.shorter) }

abbrev after_first : {A B : Type 0} → Form B → Reading A → Reading (A × List B)
after_first form r = r >>= λ p. read (many form) p.1 >>= λ q. Got (p.0, q.0) q.1

pub pair_end : (A B : Type 0) (first : Form A) (form : Form B) (tokens rest : List Token) (a : A) (items : List B) →
    PairSoFar A B first form tokens rest a items → begins form rest ≡ false → read (pair first (many form)) tokens ≡ Got (a, items) rest
pair_end A B first form tokens rest a items p e =
    ap (λ (r : Reading A). after_first form r) p.begun ∙ ap (λ (r : Reading (List B)). r >>= λ q. Got (a, q.0) q.1) (so_far_end B form p.start rest items p.so e)

pub pair_refused : (A B : Type 0) (first : Form A) (form : Form B) (tokens rest : List Token) (a : A) (items : List B) (cause : Kind) →
    PairSoFar A B first form tokens rest a items → begins form rest ≡ true → read form rest ≡ Refuses cause → read (pair first (many form)) tokens ≡ Refuses cause
pair_refused A B first form tokens rest a items cause p e r =
    ap (λ (r : Reading A). after_first form r) p.begun ∙ ap (λ (r : Reading (List B)). r >>= λ q. Got (a, q.0) q.1) (so_far_refused B form p.start rest items cause p.so e r)

-- a list of one or more, of which these were read
pub record ListSoFar (A : Type 0) (first next : Form A) (tokens rest : List Token) (list : List A) : Type 0 where
  pub a : A
  pub items : List A
  pub is : list ≡ a ∷ items
  pub pairs : PairSoFar A A first next tokens rest a items

pub list_start : {A : Type 0} (first next : Form A) (tokens start : List Token) (a : A) (empty list : List A) →
    (read first tokens ≡ Got a start) × (length start < length tokens) → empty ≡ [] → list ≡ empty ++ a ∷ [] → ListSoFar A first next tokens start list
list_start {A = A} first next tokens start a empty list h e l =
    record { a = a; items = []; is = l ∙ ap (λ xs. xs ++ a ∷ []) e; pairs = pair_start A A first next tokens start a h.0 h.1 }

pub list_next : {A : Type 0} (first next : Form A) (tokens rest after : List Token) (list longer : List A) (b : A) →
    ListSoFar A first next tokens rest list → begins next rest ≡ true → read next rest ≡ Got b after → length after < length rest → longer ≡ list ++ b ∷ [] → ListSoFar A first next tokens after longer
list_next {A = A} first next tokens rest after list longer b so e r h l =
    record { a = so.a; items = so.items ++ b ∷ []; is = l ∙ ap (λ xs. xs ++ b ∷ []) so.is; pairs = pair_next A A first next tokens rest after so.a so.items b so.pairs e r h }

abbrev consed : {A : Type 0} → Reading (A × List A) → Reading (List A)
consed r = r >>= λ p. Got (p.0.0 ∷ p.0.1) p.1

pub list_end : {A : Type 0} (first next : Form A) (tokens rest : List Token) (list : List A) →
    ListSoFar A first next tokens rest list → begins next rest ≡ false → (read (some first next) tokens ≡ Got list rest) × (length rest < length tokens)
list_end {A = A} first next tokens rest list so e =
    (ap (λ (r : Reading (A × List A)). consed r) (pair_end A A first next tokens rest so.a so.items so.pairs e) ∙ ap (λ xs. Got xs rest) (sym so.is), so.pairs.shorter)

pub list_refused : {A : Type 0} (first next : Form A) (tokens rest : List Token) (list : List A) (cause : Kind) →
    ListSoFar A first next tokens rest list → begins next rest ≡ true → read next rest ≡ Refuses cause → read (some first next) tokens ≡ Refuses cause
list_refused {A = A} first next tokens rest list cause so e r =
    ap (λ (r : Reading (A × List A)). consed r) (pair_refused A A first next tokens rest so.a so.items cause so.pairs e r)

-- List between which a separator stands.

abbrev pub dropped : {A : Type 0} → Reading A → Reading A
dropped {A = A} r = let paired : Reading (Unit {0} × A) = r >>= λ q. Got (tt, q.0) q.1 in paired >>= λ p. Got p.0.1 p.1

pub behind_sign : {A : Type 0} (by : Form (Unit {0})) (f : Form A) (rest after : List Token) → read by rest ≡ Got tt after → read (by ▸ f) rest ≡ dropped (read f after)
behind_sign {A = A} by f rest after e =
    ap (λ (r : Reading (Unit {0})). let paired : Reading (Unit {0} × A) = r >>= λ p. read f p.1 >>= λ q. Got (p.0, q.0) q.1 in paired >>= λ p. Got p.0.1 p.1) e

or-false : (b : Bool) → (b || false) ≡ b
or-false true = refl
or-false false = refl

pub begins_behind : {A : Type 0} (by : Form (Unit {0})) (f : Form A) (rest : List Token) (b : Bool) → is_optional by ≡ false → begins by rest ≡ b → begins (by ▸ f) rest ≡ b
begins_behind by f rest b o e = ap (λ x. x || (is_optional by && begins f rest)) e ∙ ap (λ x. b || (x && begins f rest)) o ∙ or-false b

pub separated_next : (A : Type 0) (by : Form (Unit {0})) (f : Form A) (tokens rest between after : List Token) (list longer : List A) (b : A) →
    ListSoFar A f (by ▸ f) tokens rest list → is_optional by ≡ false → (begins by rest ≡ true) × (read by rest ≡ Got tt between) × (length between < length rest) →
    (read f between ≡ Got b after) × (length after < length between) → longer ≡ list ++ b ∷ [] → ListSoFar A f (by ▸ f) tokens after longer
separated_next A by f tokens rest between after list longer b so o s r l =
    list_next f (by ▸ f) tokens rest after list longer b so (begins_behind by f rest true o s.0)
    (behind_sign by f rest between s.1 ∙ ap (λ (x : Reading A). dropped x) r.0) (omega (arith, s.2, r.1)) l

pub separated_end : (A : Type 0) (by : Form (Unit {0})) (f : Form A) (tokens rest : List Token) (list : List A) →
    ListSoFar A f (by ▸ f) tokens rest list → is_optional by ≡ false → begins by rest ≡ false → (read (separated by f) tokens ≡ Got list rest) × (length rest < length tokens)
separated_end A by f tokens rest list so o e = list_end f (by ▸ f) tokens rest list so (begins_behind by f rest false o e)

pub separated_refused : (A : Type 0) (by : Form (Unit {0})) (f : Form A) (tokens rest between : List Token) (list : List A) (cause : Kind) →
    ListSoFar A f (by ▸ f) tokens rest list → is_optional by ≡ false → (begins by rest ≡ true) × (read by rest ≡ Got tt between) × (length between < length rest) →
    IsCause cause (read f between) → IsCause cause (read (separated by f) tokens)
separated_refused A by f tokens rest between list cause so o s r n =
    list_refused f (by ▸ f) tokens rest list cause so (begins_behind by f rest true o s.0)
    (behind_sign by f rest between s.1 ∙ ap (λ (x : Reading A). dropped x) (r n))

-- the cause is passed on
pub fails : {A : Type 0} (form : Form A) (tokens : List Token) (r : Result (A × Bor (List Token)) Kind) (cause : Kind) →
    IsErrAnd r (λ e. e ≡ cause) → IsCause cause (read form tokens) → Answers r form tokens
fails form tokens (Ok p) cause e h = absurd e
fails form tokens (Err x) cause e h = λ n. h (λ m. n (e ∙ m)) ∙ ap (λ k. Refuses k) (sym e)

-- The same for a list that may be empty.

pub so_far_none : (A : Type 0) (form : Form A) (tokens : List Token) (empty : List A) → empty ≡ [] → begins form tokens ≡ false →
    (read (many form) tokens ≡ Got empty tokens) × (length tokens ≤ length tokens)
so_far_none A form tokens empty e b = (so_far_end A form tokens tokens [] (so_far_start A form tokens) b ∙ ap (λ xs. Got xs tokens) (sym e), omega arith)

pub so_far_more : (A : Type 0) (form : Form A) (start rest after : List Token) (a : A) (items longer : List A) →
    SoFar A form start rest items × (length rest ≤ length start) → begins form rest ≡ true → (read form rest ≡ Got a after) × (length after < length rest) → longer ≡ items ++ a ∷ [] →
    SoFar A form start after longer × (length after ≤ length start)
so_far_more A form start rest after a items longer so e r l =
    (subst (λ xs. SoFar A form start after xs) (sym l) (so_far_next A form start rest after items a so.0 e r.0 r.1), omega (arith, so.1, r.1))

pub so_far_first : (A : Type 0) (form : Form A) (start after : List Token) (a : A) (empty longer : List A) → empty ≡ [] →
    begins form start ≡ true → (read form start ≡ Got a after) × (length after < length start) → longer ≡ empty ++ a ∷ [] →
    SoFar A form start after longer × (length after ≤ length start)
so_far_first A form start after a empty longer n e r l =
    so_far_more A form start start after a [] longer (so_far_start A form start, omega arith) e r (l ∙ ap (λ xs. xs ++ a ∷ []) n)

pub so_far_fails : (A : Type 0) (form : Form A) (start rest : List Token) (items : List A) (cause : Kind) →
    SoFar A form start rest items → begins form rest ≡ true → IsCause cause (read form rest) → IsCause cause (read (many form) start)
so_far_fails A form start rest items cause so e r n = so_far_refused A form start rest items cause so e (r n)

pub fails_part : {A : Type 0} (form : Form A) (tokens : List Token) (r : Result (A × Bor (List Token)) Kind) (cause : Kind) →
    IsErrAnd r (λ e. e ≡ cause) → IsCause cause (read form tokens) → AnswersPart r form tokens
fails_part form tokens (Ok p) cause e h = absurd e
fails_part form tokens (Err x) cause e h = λ n. h (λ m. n (e ∙ m)) ∙ ap (λ k. Refuses k) (sym e)
