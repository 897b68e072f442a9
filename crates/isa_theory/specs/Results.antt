-- Steps that may be refused: the first refusal counts.
-- Source: Rust's `Result` and its `?`.
use Rattle.std.specs.Prelude.{◌≡◌, ◌≢◌, List, [], ◌∷◌, Option, Some, None, Result, Ok, Err}
use Rattle.isa_outer.specs.declared.refusal.Kind.{Kind}
use Rattle.isa_outer.specs.declared.refusal.Kind.TheVariants as kind

-- what the value gives in the next step, or the refusal
infixl 10 ◌>>=◌
abbrev pub ◌>>=◌ : {A B : Type 0} → Result A Kind → (A → Result B Kind) → Result B Kind
Ok a >>= f = f a
Err k >>= f = Err k

-- one step for each item, each from where the one before led
abbrev pub each : {A B : Type 0} → (A → B → Result A Kind) → A → List B → Result A Kind
each f a [] = Ok a
each f a (b ∷ bs) = f a b >>= (λ c. each f c bs)

-- the value, or this refusal where there is none
abbrev pub or_refused : {A : Type 0} → Kind → Option A → Result A Kind
or_refused k None = Err k
or_refused k (Some a) = Ok a

-- the answer is the one that is wanted, want of memory aside
abbrev pub Answers : {A : Type 0} → Result A Kind → Result A Kind → Type 0
Answers (Ok a) wanted = wanted ≡ Ok a
Answers (Err k) wanted = k ≢ kind.Memory → wanted ≡ Err k

-- the same, of the answer so seen
abbrev pub AnswersBy : {A B : Type 0} → (A → B) → Result A Kind → Result B Kind → Type 0
AnswersBy view (Ok a) wanted = wanted ≡ Ok (view a)
AnswersBy view (Err k) wanted = k ≢ kind.Memory → wanted ≡ Err k
