-- Notations of constants: an infix wants a constant of two arguments, a prefix one of one argument, and a binder one whose
-- argument is a function.
-- Source: mixfix annotations (The Isabelle/Isar Reference Manual, "Inner syntax", "Mixfix annotations"); which refusal comes first is this project's own.
use Rattle.std.specs.Prelude.{ℕ, List, [], ◌∷◌, Bool, true, false, not, ◌||◌, ◌&&◌, nat_le, length, Option, Some, None, Result, Ok, Err, is_some, if◌then◌else◌}
use Rattle.isa_terms.specs.Types.{Ty}
use Rattle.isa_terms.specs.Typing.{function_parts}
use Rattle.isa_inner.specs.declared.token.Fixity.TheVariants as fixity
use Rattle.isa_inner.specs.declared.token.InfixSign.TheVariants as infix_sign
use Rattle.isa_inner.specs.declared.token.PrefixSign.TheVariants as prefix_sign
use Rattle.isa_inner.specs.declared.token.BinderSign.TheVariants as binder_sign
use Rattle.isa_inner.specs.declared.token.Token.TheVariants as token
use Rattle.isa_inner_tokens.specs.declared.sign.Sign.{Sign}
use Rattle.isa_inner_tokens.specs.declared.sign.Sign.TheVariants as sign
use Rattle.isa_inner_tokens.specs.Cutting.{spelled}
use Rattle.isa_inner_text.specs.Signatures.{with_sign}
use Rattle.isa_outer.specs.declared.command.NotationKind.{NotationKind}
use Rattle.isa_outer.specs.declared.command.NotationKind.TheVariants as notation
use Rattle.isa_outer.specs.declared.command.Notation.{Notation}
use Rattle.isa_outer.specs.declared.refusal.Kind.{Kind}
use Rattle.isa_outer.specs.declared.refusal.Kind.TheVariants as kind
use Rattle.isa_syntax.specs.Syntaxes.{SyntaxSeen, constant_type}

-- the greatest priority of each kind: an infix has an operand of the next one
abbrev pub greatest : NotationKind → ℕ
greatest notation.Infix = 999
greatest notation.Infixl = 999
greatest notation.Infixr = 999
greatest notation.Binder = 1000
greatest notation.Prefix = 1000

-- whether there are functions of this type
abbrev pub is_function : Ty → Bool
is_function T = is_some (function_parts T)

-- the test of the type's domain, and of its range, where it is one of functions
abbrev pub of_parts : (Ty → Ty → Bool) → Option (Ty × Ty) → Bool
of_parts test None = false
of_parts test (Some p) = test p.0 p.1

-- whether a constant of the type may have a notation of this kind
abbrev pub fits : NotationKind → Ty → Bool
fits notation.Infix T = of_parts (λ A B. is_function B) (function_parts T)
fits notation.Infixl T = of_parts (λ A B. is_function B) (function_parts T)
fits notation.Infixr T = of_parts (λ A B. is_function B) (function_parts T)
fits notation.Binder T = of_parts (λ A B. is_function A) (function_parts T)
fits notation.Prefix T = is_function T

-- whether the constant is declared with such a type
abbrev pub fits_some : NotationKind → Option Ty → Bool
fits_some k None = false
fits_some k (Some T) = fits k T

-- the sign of the constant of number c, with a notation of this kind and priority
abbrev pub sign_of : NotationKind → ℕ → ℕ → Sign
sign_of notation.Infix p c = sign.Term (token.Infix (infix_sign.Declared c fixity.Neither p))
sign_of notation.Infixl p c = sign.Term (token.Infix (infix_sign.Declared c fixity.Left p))
sign_of notation.Infixr p c = sign.Term (token.Infix (infix_sign.Declared c fixity.Right p))
sign_of notation.Binder p c = sign.Term (token.Binder (binder_sign.Declared c p))
sign_of notation.Prefix p c = sign.Term (token.Prefix (prefix_sign.Declared c p))

-- whether a sign may be spelled so: no text is spelled by nothing, and a sign that is there keeps its spelling
abbrev pub is_taken : SyntaxSeen → List ℕ → Bool
is_taken s [] = true
is_taken s (b ∷ bs) = is_some (spelled s.signature.signs (b ∷ bs))

-- With the constant's notation. A number outside its range, the constant's type, and then the token may be why not.
unfoldable pub with_notation : SyntaxSeen → List ℕ → Notation → Result SyntaxSeen Kind
with_notation s c n =
    if not (nat_le n.priority (greatest n.kind)) then Err kind.Number
    else (if not (fits_some n.kind (constant_type s c)) then Err kind.Types
    else (if is_taken s n.token then Err (kind.Token n.token)
    else Ok (record s { signature = with_sign s.signature n.token (sign_of n.kind n.priority (length s.signature.notated)) c })))
