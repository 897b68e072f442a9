-- Members of lists, and symbols.
use Rattle.std.proofs.Common.{◌≡◌, ◌⊎◌, inl, inr, List, [], ◌∷◌, ◌++◌, Bool, true, false, refl, Decides}
use Rattle.std.proofs.lemmas.Bool.Decides.{Decides-and, Decides-like, Decides-eqb}
use Rattle.std.specs.Cmp.Lexicographic.{bytes_decides}
use Rattle.isa_net.specs.declared.symbol.Symbol.{Symbol}
use Rattle.isa_net.specs.declared.symbol.Symbol.TheVariants.{Star, Constant, Variable}
use Rattle.isa_net.specs.Symbols.{symbol_eq}
use Rattle.isa_net.specs.Inside.Index.{In}

pub in_left : {A : Type 0} (x : A) (xs ys : List A) → In x xs → In x (xs ++ ys)
in_left x [] ys h = absurd h
in_left x (z ∷ xs) ys (inl e) = inl e
in_left x (z ∷ xs) ys (inr h) = inr (in_left x xs ys h)

pub in_right : {A : Type 0} (x : A) (xs ys : List A) → In x ys → In x (xs ++ ys)
in_right x [] ys h = h
in_right x (z ∷ xs) ys h = inr (in_right x xs ys h)

pub in_either : {A : Type 0} (x : A) (xs ys : List A) → In x (xs ++ ys) → In x xs ⊎ In x ys
in_either x [] ys h = inr h
in_either x (z ∷ xs) ys (inl e) = inl (inl e)
in_either x (z ∷ xs) ys (inr h) = elim (in_either x xs ys h) [ inl g ↦ inl (inr g) | inr g ↦ inr g ]

pub symbol_decides : (a b : Symbol) → Decides (symbol_eq a b) (a ≡ b)
symbol_decides Star Star = (λ e. refl, λ e. refl)
symbol_decides (Constant c m) (Constant d n) = Decides-like _ (λ p i. Constant (p.0 i) (p.1 i)) (λ e. (cc, cc)) (Decides-and _ _ (bytes_decides c d) (Decides-eqb m n))
symbol_decides (Variable c m) (Variable d n) = Decides-like _ (λ p i. Variable (p.0 i) (p.1 i)) (λ e. (cc, cc)) (Decides-and _ _ (bytes_decides c d) (Decides-eqb m n))
symbol_decides Star (Constant d n) = (λ e. cc, λ e. cc)
symbol_decides Star (Variable d n) = (λ e. cc, λ e. cc)
symbol_decides (Constant c m) Star = (λ e. cc, λ e. cc)
symbol_decides (Constant c m) (Variable d n) = (λ e. cc, λ e. cc)
symbol_decides (Variable c m) Star = (λ e. cc, λ e. cc)
symbol_decides (Variable c m) (Constant d n) = (λ e. cc, λ e. cc)

pub symbol_same : (a : Symbol) → symbol_eq a a ≡ true
symbol_same a = (symbol_decides a a).1 refl

pub same_symbol : (a b : Symbol) → (a ≡ b) ⊎ (a ≡ b → ⊥)
same_symbol a b = at (symbol_eq a b) refl
  where
    at : (x : Bool) → symbol_eq a b ≡ x → (a ≡ b) ⊎ (a ≡ b → ⊥)
    at true e = inl ((symbol_decides a b).0 e)
    at false e = inr (λ q. let r = (symbol_decides a b).1 q in cc)
