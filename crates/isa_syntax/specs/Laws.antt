-- What is known of a text that tells a proposition.
use Rattle.std.specs.Prelude.{◌≡◌, ℕ, Bool, List, Result, Ok}
use Rattle.isa_terms.specs.Types.{Ty}
use Rattle.isa_terms.specs.Terms.{Tm}
use Rattle.isa_terms.specs.Normal.{IsNormal}
use Rattle.isa_kernel.specs.Logic.{IsProposition}
use Rattle.isa_typing.specs.Typings.{Variables}
use Rattle.isa_typing.specs.WellTyped.{HaveTypes}
use Rattle.isa_outer.specs.declared.refusal.Kind.{Kind}
use Rattle.isa_syntax.specs.Syntaxes.{SyntaxSeen}
use Rattle.isa_syntax.specs.Reading.{TellsProp, TellsType}

-- it is well typed, of the type of propositions, without loose bound variables, and in normal form; each free variable and
-- each unknown has one type in it, and unknowns have the number 0
pub record IsTold (t : Tm) : Type 0 where
  pub proposition : IsProposition t
  pub normal : IsNormal t
  pub variables : (v : Variables) × HaveTypes v t

abbrev pub ToldPropsAreTyped : Type 0
ToldPropsAreTyped = (s : SyntaxSeen) (schematic : Bool) (text : List ℕ) (t : Tm) → TellsProp s schematic text (Ok t) → IsTold t

-- A text tells one proposition at most, or one refusal; and one type.
abbrev pub OneProp : Type 0
OneProp = (s : SyntaxSeen) (schematic : Bool) (text : List ℕ) (a b : Result Tm Kind) → TellsProp s schematic text a → TellsProp s schematic text b → a ≡ b

abbrev pub OneType : Type 0
OneType = (s : SyntaxSeen) (schematic : Bool) (text : List ℕ) (a b : Result Ty Kind) → TellsType s schematic text a → TellsType s schematic text b → a ≡ b
