-- Blanks at the end.
use Rattle.std.proofs.Common.{◌≡◌, ℕ, suc, ◌-◌, ◌<◌, Bool, true, false, ◌&&◌, List, [], ◌∷◌, ◌++◌, length, take, get_or, refl, sym, ap, ◌∙◌, arith}
use Rattle.std.specs.Prelude.{if◌then◌else◌}
use Rattle.std.specs.List.{list_all}
use Rattle.std.proofs.lemmas.List.Folds.{list_all-append}
use Rattle.std.proofs.Math.Seq.{take-suc}
use Rattle.isa_tokens.specs.Tokens.{is_blank}
use Rattle.isa_outer.specs.Grammar.{trimmed_end}

and-true : (b : Bool) → (b && true) ≡ b
and-true true = refl
and-true false = refl

and-false : (b : Bool) → (b && false) ≡ false
and-false true = refl
and-false false = refl

all_with : (xs : List ℕ) (x : ℕ) (b : Bool) → is_blank x ≡ b → list_all is_blank (xs ++ x ∷ []) ≡ (list_all is_blank xs && b)
all_with xs x b e = list_all-append is_blank xs (x ∷ []) ∙ ap (λ c. list_all is_blank xs && (c && true)) e ∙ ap (λ c. list_all is_blank xs && c) (and-true b)

drops : (xs : List ℕ) (x : ℕ) → is_blank x ≡ true → trimmed_end (xs ++ x ∷ []) ≡ trimmed_end xs
drops [] x e = ap (λ b. if (b && true) then [] else x ∷ []) e
drops (b ∷ bs) x e =
    ap (λ c. if c then [] else b ∷ trimmed_end (bs ++ x ∷ [])) (all_with (b ∷ bs) x true e ∙ and-true (list_all is_blank (b ∷ bs)))
    ∙ ap (λ l. if (list_all is_blank (b ∷ bs)) then [] else b ∷ l) (drops bs x e)

keeps : (xs : List ℕ) (x : ℕ) → is_blank x ≡ false → trimmed_end (xs ++ x ∷ []) ≡ xs ++ x ∷ []
keeps [] x e = ap (λ b. if (b && true) then [] else x ∷ []) e
keeps (b ∷ bs) x e =
    ap (λ c. if c then [] else b ∷ trimmed_end (bs ++ x ∷ [])) (all_with (b ∷ bs) x false e ∙ and-false (list_all is_blank (b ∷ bs)))
    ∙ ap (λ l. b ∷ l) (keeps bs x e)

last_of : (xs : List ℕ) (n k : ℕ) → n ≡ suc k → k < length xs → take n xs ≡ take k xs ++ get_or xs k 0 ∷ []
last_of xs n k e h = ap (λ m. take m xs) e ∙ take-suc xs k 0 h

pub blank_last : (xs : List ℕ) (n k : ℕ) → n ≡ suc k → k < length xs → is_blank (get_or xs k 0) ≡ true → trimmed_end (take n xs) ≡ trimmed_end (take k xs)
blank_last xs n k e h b = ap (λ l. trimmed_end l) (last_of xs n k e h) ∙ drops (take k xs) (get_or xs k 0) b

pub other_last : (xs : List ℕ) (n k : ℕ) → n ≡ suc k → k < length xs → is_blank (get_or xs k 0) ≡ false → trimmed_end (take n xs) ≡ take n xs
other_last xs n k e h b = ap (λ l. trimmed_end l) (last_of xs n k e h) ∙ keeps (take k xs) (get_or xs k 0) b ∙ sym (last_of xs n k e h)

pub less_of : (n : ℕ) → 0 < n → n ≡ suc (n - 1)
less_of n h = omega (arith, h)
