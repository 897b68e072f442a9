-- Lists that the code holds from the last item to the first.
use Rattle.std.proofs.Common.{◌≡◌, ℕ, ◌≤◌, List, [], ◌∷◌, ◌++◌, map, length, take, reverse, refl, sym, ap, ◌∙◌}
use Rattle.std.proofs.lemmas.List.{reverse-append, take_all}
use Rattle.isa_unify.specs.declared.equation.Equation.{Equation}

map_append : {A B : Type 0} (f : A → B) (xs ys : List A) → map f (xs ++ ys) ≡ map f xs ++ map f ys
map_append f [] ys = refl
map_append f (x ∷ xs) ys = ap (λ zs. f x ∷ zs) (map_append f xs ys)

map_reverse : {A B : Type 0} (f : A → B) (xs : List A) → reverse (map f xs) ≡ map f (reverse xs)
map_reverse f [] = refl
map_reverse f (x ∷ xs) =
    reverse-append (f x ∷ []) (map f xs)
    ∙ ap (λ zs. zs ++ f x ∷ []) (map_reverse f xs)
    ∙ sym (map_append f (reverse xs) (x ∷ []))
    ∙ ap (map f) (sym (reverse-append (x ∷ []) xs))

-- what was made of all items, from the last to the first
pub made_reversed : {A B : Type 0} (f : A → B) (zs : List B) (xs ys : List A) (k : ℕ) → length xs ≤ k → zs ≡ map f (take k xs) → reverse xs ≡ ys → reverse zs ≡ map f ys
made_reversed f zs xs ys k h e r = ap reverse (e ∙ ap (map f) (take_all k xs h)) ∙ map_reverse f xs ∙ ap (map f) r

-- a list behind which another was put, both held from the last item to the first
pub put_first_all : (xs ys : List Equation) → reverse (xs ++ ys) ≡ reverse ys ++ reverse xs
put_first_all xs ys = reverse-append xs ys
