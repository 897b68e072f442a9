-- What a text is read under: the declared type constructors, notations, judgment and constants.
-- Source: theory contexts as the inner syntax sees them (The Isabelle/Isar Reference Manual, "Inner syntax").
use Rattle.std.specs.Prelude.{ℕ, List, [], ◌∷◌, ◌++◌, Bool, Option, Some, None, Result, Ok, Err, is_some, if◌then◌else◌}
use Rattle.std.specs.Map.{lookup}
use Rattle.isa_terms.specs.Types.{Ty}
use Rattle.isa_terms.specs.Equal.{name_eq}
use Rattle.isa_kernel.specs.Theories.{pure_types, pure_constants}
use Rattle.isa_inner_text.specs.Signatures.{SignatureSeen, arity_of, fixed_signature, with_arity}
use Rattle.isa_inner_text.specs.Signatures as signature
use Rattle.isa_outer.specs.declared.refusal.Kind.{Kind}
use Rattle.isa_outer.specs.declared.refusal.Kind.TheVariants as kind
use Rattle.isa_outer.specs.declared.refusal.Sort.TheVariants as sort

-- the type constructors, signs and judgment; and the constants with their general types
pub record SyntaxSeen : Type 0 where
  pub signature : SignatureSeen
  pub constants : List (List ℕ × Ty)

-- the general type of the constant, where it is declared
abbrev pub constant_type : SyntaxSeen → List ℕ → Option Ty
constant_type s x = lookup (name_eq x) s.constants

-- where nothing is declared but the pure logic
abbrev pub pure_syntax : SyntaxSeen
pure_syntax = record { signature = record fixed_signature { arities = pure_types }; constants = pure_constants }

-- with one more type constructor, of a new name
unfoldable pub with_type : SyntaxSeen → List ℕ → ℕ → Result SyntaxSeen Kind
with_type s x n = if is_some (arity_of s.signature x) then Err (kind.Duplicate sort.Type x) else Ok (record s { signature = with_arity s.signature x n })

-- with one more constant, of a new name
unfoldable pub with_constant : SyntaxSeen → List ℕ → Ty → Result SyntaxSeen Kind
with_constant s x T = if is_some (constant_type s x) then Err (kind.Duplicate sort.Constant x) else Ok (record s { constants = s.constants ++ (x, T) ∷ [] })

-- with the judgment, where there is none
unfoldable pub with_judgment : SyntaxSeen → List ℕ → Result SyntaxSeen Kind
with_judgment s x = if is_some s.signature.judgment then Err (kind.Duplicate sort.Judgment x) else Ok (record s { signature = signature.with_judgment s.signature x })
