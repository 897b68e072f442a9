-- Cutting a text at a byte.
use Rattle.std.proofs.Common.{◌≡◌, ℕ, ◌+◌, ◌<◌, List, [], ◌∷◌, ◌++◌, length, take, drop, get_or, true, false, sym, ap, ◌∙◌, arith}
use Rattle.std.specs.Prelude.{nat_eq}
use Rattle.std.specs.List.{slice_split}
use Rattle.std.proofs.lemmas.List.{take-append-drop, drop_more}
use Rattle.std.proofs.lemmas.List.Splits.{slice_split_at, slice_split_none}
use Rattle.std.proofs.lemmas.Grind.{common_steps}

front_is_plain : (c : ℕ) (text : List ℕ) (i k d : ℕ) → i < length text → ((k : ℕ) → k < i → nat_eq (get_or text k 0) c ≡ false) → k < length (take i text) → nat_eq (get_or (take i text) k d) c ≡ false
front_is_plain c text i k d h below inside = grind (arith, common_steps, below k)

-- the first part ends at its byte
pub first_part : (c : ℕ) (text : List ℕ) (i : ℕ) (later : List ℕ) → i < length text → ((k : ℕ) → k < i → nat_eq (get_or text k 0) c ≡ false) → nat_eq (get_or text i 0) c ≡ true → later ≡ drop (i + 1) text
    → slice_split (λ b. nat_eq b c) text ≡ take i text ∷ slice_split (λ b. nat_eq b c) later
first_part c text i later h below here e =
    let whole : text ≡ take i text ++ get_or text i 0 ∷ drop (i + 1) text = sym (take-append-drop i text) ∙ ap (λ xs. take i text ++ xs) (drop_more text i 0 h) in
    ap (λ xs. slice_split (λ b. nat_eq b c) xs) whole
    ∙ slice_split_at (λ b. nat_eq b c) (take i text) (get_or text i 0) (drop (i + 1) text) (λ k d inside. front_is_plain c text i k d h below inside) here
    ∙ ap (λ xs. take i text ∷ slice_split (λ b. nat_eq b c) xs) (sym e)

-- a text without the byte is one part
pub one_part : (c : ℕ) (text : List ℕ) (i : ℕ) → length text ≡ i → ((k : ℕ) → k < i → nat_eq (get_or text k 0) c ≡ false) → slice_split (λ b. nat_eq b c) text ≡ text ∷ []
one_part c text i e below = slice_split_none (λ b. nat_eq b c) text (λ k d inside. grind (arith, common_steps, below k))
