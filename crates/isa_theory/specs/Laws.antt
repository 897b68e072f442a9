-- What is known of commands and lemmas: a text tells one thing at most, so what stands on texts has one answer at most.
use Rattle.std.specs.Prelude.{◌≡◌, Bool, Option, Result}
use Rattle.isa_outer.specs.declared.refusal.Kind.{Kind}
use Rattle.isa_outer.specs.declared.command.Command.{Command}
use Rattle.isa_outer.specs.declared.command.Inner.{Inner}
use Rattle.isa_outer.specs.declared.command.Label.{Label}
use Rattle.isa_theory.specs.Contexts.{ContextSeen}
use Rattle.isa_theory.specs.Applying.{Applied, IsLemmaOf}
use Rattle.isa_theory.specs.declared.lemma.Lemma.{Lemma}

-- A command has one next context at most in a context, or one refusal.
abbrev pub OneNextContext : Type 0
OneNextContext = (c : ContextSeen) (command : Command) (a b : Result ContextSeen Kind) → Applied c command a → Applied c command b → a ≡ b

-- A text begins one lemma at most, or is refused for one cause.
abbrev pub OneLemma : Type 0
OneLemma = (c : ContextSeen) (schematic : Bool) (label : Option Label) (text : Inner) (a b : Result Lemma Kind) → IsLemmaOf c schematic label text a → IsLemmaOf c schematic label text b → a ≡ b
