-- The words of a line.
-- Source: this project.
use Rattle.std.specs.Prelude.{ℕ, List, nat_eq}
use Rattle.std.specs.List.{slice_split}

-- one blank between two
abbrev pub words_of : List ℕ → List (List ℕ)
words_of text = slice_split (λ b. nat_eq b 32) text
