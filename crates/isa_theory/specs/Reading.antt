-- What the types and the propositions of quoted texts tell.
use Rattle.std.specs.Prelude.{Bool, false, Result}
use Rattle.isa_terms.specs.Types.{Ty}
use Rattle.isa_terms.specs.Terms.{Tm}
use Rattle.isa_outer.specs.declared.command.Inner.{Inner}
use Rattle.isa_outer.specs.declared.refusal.Kind.{Kind}
use Rattle.isa_syntax.specs.Reading.{TellsProp, TellsType}
use Rattle.isa_theory.specs.Contexts.{ContextSeen}

-- the text tells the type; no unknown stands in it
abbrev pub IsTypeOf : ContextSeen → Inner → Result Ty Kind → Type 0
IsTypeOf c text r = TellsType c.syntax false text.bytes r

-- the text, in which unknowns may stand where it is schematic, tells the proposition
abbrev pub IsPropOf : ContextSeen → Bool → Inner → Result Tm Kind → Type 0
IsPropOf c schematic text r = TellsProp c.syntax schematic text.bytes r
