-- Names for the type variables that a text leaves open: the first of 'a, 'b, .. 'z, 'a1, 'b1, .. that are free.
-- Source: this project; after the names that Isabelle's `Variable.invent_types` gives.
use Rattle.std.specs.Prelude.{◌≡◌, ℕ, ◌+◌, ◌/◌, ◌%◌, ◌<◌, true, false, nat_eq, if◌then◌else◌, List, [], ◌∷◌, ◌++◌, decimal}
use Rattle.isa_terms.specs.Generalize.{is_named}

-- the name of that number, counted from 0: a quote, a letter, and, past 'z, how often the letters were passed
abbrev pub variable_name : ℕ → List ℕ
variable_name k = 39 ∷ ((97 + k % 26) ∷ (if nat_eq (k / 26) 0 then [] else decimal (k / 26)))

-- x is the first name in that order that is not taken
pub record IsFirstFree (taken : List (List ℕ)) (x : List ℕ) : Type 0 where
  pub number : ℕ
  pub name : x ≡ variable_name number
  pub is_free : is_named taken x ≡ false
  pub is_first : (k : ℕ) → k < number → is_named taken (variable_name k) ≡ true

-- each of the names is the first one that neither is taken nor comes before it in the list
abbrev pub AreFirstFree : List (List ℕ) → List (List ℕ) → Type 0
AreFirstFree taken [] = Unit {0}
AreFirstFree taken (x ∷ xs) = IsFirstFree taken x × AreFirstFree (taken ++ x ∷ []) xs
