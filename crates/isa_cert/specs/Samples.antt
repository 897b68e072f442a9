-- The definition on some texts.
use Rattle.std.specs.Prelude.{◌≡◌, ℕ, List, [], ◌∷◌, ◌++◌, Ok, Err, codes}
use Rattle.isa_terms.specs.Types.{Ty}
use Rattle.isa_terms.specs.Terms.{Free}
use Rattle.isa_kernel.specs.Logic.{prop, imp}
use Rattle.isa_cert.specs.Checking.{checked, FormAt, TypedAt, StepAt, NoEnd}

-- a text of these lines
abbrev pub text_of : List (List ℕ) → List ℕ
text_of [] = []
text_of (l ∷ ls) = l ++ (10 ∷ text_of ls)

-- `A ==> A`, up to the step
abbrev pub trivial : List (List ℕ)
trivial = codes "isacert 1" ∷ codes "t C prop" ∷ codes "e F A 0" ∷ codes "s assume 0" ∷ codes "s imp_i 0 0" ∷ []

abbrev pub Samples : Type 0
Samples =
    (checked [] ≡ Ok [])
    × (checked (text_of (trivial ++ codes "end 1 t" ∷ [])) ≡ Ok (record { name = codes "t"; axioms = []; prop = imp (Free (codes "A") prop) (Free (codes "A") prop) } ∷ []))
    × (checked (text_of (trivial ++ codes "end 0 t" ∷ [])) ≡ Err (StepAt 6))
    × (checked (text_of trivial) ≡ Err NoEnd)
    × (checked (text_of (trivial ++ codes "end 2 t" ∷ [])) ≡ Err (FormAt 6))
    × (checked (text_of (codes "isacert 2" ∷ [])) ≡ Err (FormAt 1))
    × (checked (text_of (codes "isacert 1" ∷ codes "t C prop" ∷ codes "e B 0" ∷ codes "s refl 0" ∷ [])) ≡ Err (TypedAt 4))
