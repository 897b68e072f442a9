-- Conversion of typed terms by beta and eta (textbook typed lambda calculus).
use Rattle.std.specs.Prelude.{ℕ, List, ◌∷◌}
use Rattle.isa_terms.specs.Types.{Ty}
use Rattle.isa_terms.specs.Terms.{Tm, Bound, Abs, App}
use Rattle.isa_terms.specs.Typing.{function_of}
use Rattle.isa_terms.specs.Replace.{raise, replace}
use Rattle.isa_terms.specs.Typed.{Typed}

-- t and u of type T, under binders of the types G, are equal by beta and eta at any places
pub data Conv : List Ty → Ty → Tm → Tm → Type 0 where
  CRefl : {G : List Ty} {T : Ty} {t : Tm} → Typed G t T → Conv G T t t
  CSym : {G : List Ty} {T : Ty} {t u : Tm} → Conv G T t u → Conv G T u t
  CTrans : {G : List Ty} {T : Ty} {t u v : Tm} → Conv G T t u → Conv G T u v → Conv G T t v
  CApp : {G : List Ty} {S T : Ty} {f g a b : Tm} → Conv G (function_of S T) f g → Conv G S a b → Conv G T (App f a) (App g b)
  CAbs : {G : List Ty} {x : List ℕ} {S T : Ty} {b c : Tm} → Conv (S ∷ G) T b c → Conv G (function_of S T) (Abs x S b) (Abs x S c)
  CBeta : {G : List Ty} {x : List ℕ} {S T : Ty} {b a : Tm} → Typed (S ∷ G) b T → Typed G a S → Conv G T (App (Abs x S b) a) (replace b a)
  CEta : {G : List Ty} {x : List ℕ} {S T : Ty} {f : Tm} → Typed G f (function_of S T) → Conv G (function_of S T) (Abs x S (App (raise 1 0 f) (Bound 0))) f
