-- What a text may use: what is declared that its reading needs.
-- Source: signatures and notations of Isabelle (The Isabelle/Isar Reference Manual, "Inner syntax", "Mixfix annotations").
use Rattle.std.specs.Prelude.{ℕ, Bool, List, [], ◌∷◌, ◌++◌, Option, Some, None, take, if◌then◌else◌}
use Rattle.std.specs.Map.{lookup}
use Rattle.isa_terms.specs.Equal.{name_eq}
use Rattle.isa_inner_tokens.specs.declared.sign.Sign.{Sign}
use Rattle.isa_inner_tokens.specs.Fixed.{declared, mark_signs, operator_signs, type_signs, arrow_signs, symbol_signs}

-- how many arguments each type constructor takes; the signs, fixed ones and those of notations, by their spellings; the
-- constants that the signs name, by their numbers; and the judgment, where there is one
pub record SignatureSeen : Type 0 where
  pub arities : List (List ℕ × ℕ)
  pub signs : List (List ℕ × Sign)
  pub notated : List (List ℕ)
  pub judgment : Option (List ℕ)

-- the number of arguments of the type constructor, where it is declared
abbrev pub arity_of : SignatureSeen → List ℕ → Option ℕ
arity_of sig x = lookup (name_eq x) sig.arities

-- the fixed signs
abbrev pub fixed_signs : List (List ℕ × Sign)
fixed_signs = declared symbol_signs (declared arrow_signs (declared type_signs (declared operator_signs (declared mark_signs []))))

-- where nothing is declared but the fixed signs
abbrev pub fixed_signature : SignatureSeen
fixed_signature = record { arities = []; signs = fixed_signs; notated = []; judgment = None }

-- with one more type constructor
abbrev pub with_arity : SignatureSeen → List ℕ → ℕ → SignatureSeen
with_arity sig x n = record sig { arities = sig.arities ++ (x, n) ∷ [] }

-- with one more sign, and the constant that it names
abbrev pub with_sign : SignatureSeen → List ℕ → Sign → List ℕ → SignatureSeen
with_sign sig spelling s c = record sig { signs = sig.signs ++ (spelling, s) ∷ []; notated = sig.notated ++ c ∷ [] }

-- with the judgment
abbrev pub with_judgment : SignatureSeen → List ℕ → SignatureSeen
with_judgment sig x = record sig { judgment = Some x }

-- the first of each, and the judgment where it stays
abbrev pub first_part : ℕ → ℕ → ℕ → Bool → SignatureSeen → SignatureSeen
first_part types signs notated judgment sig = record {
  arities = take types sig.arities;
  signs = take signs sig.signs;
  notated = take notated sig.notated;
  judgment = if judgment then sig.judgment else None;
}
