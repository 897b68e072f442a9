-- How long spellings are; what a table of signs keeps so that a look-up needs no longer ones.
use Rattle.std.specs.Prelude.{ℕ, ◌≤◌, List, [], ◌∷◌, length}
use Rattle.isa_inner_tokens.specs.declared.sign.Sign.{Sign}

-- no spelling has more than n bytes
abbrev pub AreWithin : ℕ → List (List ℕ × Sign) → Type 0
AreWithin n [] = Unit {0}
AreWithin n (s ∷ ss) = (length s.0 ≤ n) × AreWithin n ss
