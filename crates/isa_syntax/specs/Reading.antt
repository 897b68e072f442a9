-- What a text tells: a proposition is the principal term of what is read, at the type of propositions, in normal form; a
-- text that is not read is refused for its first cause, and one that has no typing is refused behind that.
-- Source: phases of reading terms in Isabelle (The Isabelle/Isar Implementation Manual, "Syntax phases"); principal types after
-- Damas and Milner, "Principal type-schemes for functional programs", 1982.
use Rattle.std.specs.Prelude.{◌≡◌, ◌≢◌, ℕ, Bool, List, [], Result, Ok, Err}
use Rattle.isa_terms.specs.Types.{Ty}
use Rattle.isa_terms.specs.Terms.{Tm}
use Rattle.isa_kernel.specs.Logic.{prop}
use Rattle.isa_raw.specs.RawTerms.{Raw, RawTyped}
use Rattle.isa_inner_types.specs.declared.token.TypeRefusal.{TypeRefusal}
use Rattle.isa_inner_types.specs.declared.token.TextToken.{TextToken}
use Rattle.isa_inner_types.specs.TypeReading as types
use Rattle.isa_inner_text.specs.declared.refusal.Refusal.{Refusal}
use Rattle.isa_inner_text.specs.declared.part.Part.{Part}
use Rattle.isa_inner_text.specs.Reading.{Read, Refused, type_why}
use Rattle.isa_inner_text.specs.Texts.{Gives, GivesType}
use Rattle.isa_typing.specs.Scopes.{Declared, declared_in}
use Rattle.isa_typing.specs.Principal.{IsPrincipal, HasNoTyping}
use Rattle.isa_outer.specs.declared.refusal.Kind.{Kind}
use Rattle.isa_outer.specs.declared.refusal.Kind.TheVariants as kind
use Rattle.isa_syntax.specs.Syntaxes.{SyntaxSeen}
use Rattle.isa_syntax.specs.Refusals.{kind_of}

-- the general types of the constants
abbrev pub types_of : SyntaxSeen → Declared
types_of s = declared_in s.constants

-- The text, in which unknowns may stand where it is schematic, tells the proposition, or is refused.
pub data TellsProp (s : SyntaxSeen) (schematic : Bool) (text : List ℕ) : Result Tm Kind → Type 0 where
  IsRead : (part : Part) (t : Tm) → Gives s.signature schematic text (Read part []) → IsPrincipal (types_of s) (RawTyped part.term prop) t → TellsProp s schematic text (Ok t)
  IsRefused : (why : Refusal) → Gives s.signature schematic text (Refused why) → TellsProp s schematic text (Err (kind_of why))
  HasNoTypes : (part : Part) → Gives s.signature schematic text (Read part []) → HasNoTyping (types_of s) (RawTyped part.term prop) → TellsProp s schematic text (Err kind.Types)

-- The text tells the type, or is refused.
pub data TellsType (s : SyntaxSeen) (schematic : Bool) (text : List ℕ) : Result Ty Kind → Type 0 where
  IsType : (T : Ty) (height : ℕ) → GivesType s.signature schematic text (types.Read T height []) → TellsType s schematic text (Ok T)
  IsNoType : (why : TypeRefusal) (at : List TextToken) → GivesType s.signature schematic text (types.Refused why at) → TellsType s schematic text (Err (kind_of (type_why why at)))

-- the answer is what the text tells, want of memory aside
abbrev pub Answers : {A : Type 0} → (Result A Kind → Type 0) → Result A Kind → Type 0
Answers tells (Ok a) = tells (Ok a)
Answers tells (Err k) = k ≢ kind.Memory → tells (Err k)
