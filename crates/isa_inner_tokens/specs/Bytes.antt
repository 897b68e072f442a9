-- Blanks and names, by their bytes: an identifier is a letter and then letters, digits, `_` and `'`.
-- Source: identifiers of the outer syntax of Isabelle (The Isabelle/Isar Reference Manual, "Outer syntax", "Lexical matters"), in ASCII.
use Rattle.std.specs.Prelude.{ℕ, ◌+◌, Bool, ◌&&◌, ◌||◌, if◌then◌else◌, nat_eq, nat_le, List, [], ◌∷◌}

-- a space, a tab, a line feed or a carriage return
abbrev pub is_blank : ℕ → Bool
is_blank b = nat_eq b 32 || nat_eq b 9 || nat_eq b 10 || nat_eq b 13

abbrev pub is_letter : ℕ → Bool
is_letter b = (nat_le 97 b && nat_le b 122) || (nat_le 65 b && nat_le b 90)

abbrev pub is_digit : ℕ → Bool
is_digit b = nat_le 48 b && nat_le b 57

abbrev pub is_name_byte : ℕ → Bool
is_name_byte b = is_letter b || is_digit b || nat_eq b 95 || nat_eq b 39

-- how many bytes of a name a text begins with
abbrev pub run_length : List ℕ → ℕ
run_length [] = 0
run_length (b ∷ bs) = if is_name_byte b then run_length bs + 1 else 0

-- the length of the name that a text begins with, or 0
abbrev pub name_length : List ℕ → ℕ
name_length [] = 0
name_length (b ∷ bs) = if is_letter b then run_length bs + 1 else 0
