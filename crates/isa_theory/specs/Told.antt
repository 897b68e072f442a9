-- Steps that read texts: what a text tells is a relation, so what they answer is one too.
-- Source: Rust's `Result` and its `?`, over relations.
use Rattle.std.specs.Prelude.{◌≡◌, ◌≢◌, List, [], ◌∷◌, Result, Ok, Err}
use Rattle.isa_outer.specs.declared.refusal.Kind.{Kind}
use Rattle.isa_outer.specs.declared.refusal.Kind.TheVariants as kind

-- After a check a text is read, and what it tells leads on. The first refusal counts.
pub data Reading {A B : Type 0} (check : Result (Unit {0}) Kind) (tells : Result A Kind → Type 0) (rest : A → Result B Kind) : Result B Kind → Type 0 where
  FailsCheck : (k : Kind) → check ≡ Err k → Reading check tells rest (Err k)
  IsUnread : (k : Kind) → check ≡ Ok tt → tells (Err k) → Reading check tells rest (Err k)
  IsRead : (a : A) (r : Result B Kind) → check ≡ Ok tt → tells (Ok a) → rest a ≡ r → Reading check tells rest r

-- one step for each item, each from where the one before led
pub data Each {A B : Type 0} (step : A → B → Result A Kind → Type 0) : A → List B → Result A Kind → Type 0 where
  IsDone : (a : A) → Each step a [] (Ok a)
  Stops : (a : A) (b : B) (bs : List B) (k : Kind) → step a b (Err k) → Each step a (b ∷ bs) (Err k)
  GoesOn : (a c : A) (b : B) (bs : List B) (r : Result A Kind) → step a b (Ok c) → Each step c bs r → Each step a (b ∷ bs) r

-- and then a known step
pub data Then {A B : Type 0} (first : Result A Kind → Type 0) (rest : A → Result B Kind) : Result B Kind → Type 0 where
  IsRefused : (k : Kind) → first (Err k) → Then first rest (Err k)
  Leads : (a : A) (r : Result B Kind) → first (Ok a) → rest a ≡ r → Then first rest r

-- the answer is one that may come, want of memory aside
abbrev pub May : {A : Type 0} → (Result A Kind → Type 0) → Result A Kind → Type 0
May wanted (Ok a) = wanted (Ok a)
May wanted (Err k) = k ≢ kind.Memory → wanted (Err k)
