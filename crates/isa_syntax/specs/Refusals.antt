-- Why a text is refused, as the commands of a file say it.
-- Source: this project's own.
use Rattle.isa_outer.specs.declared.refusal.Kind.{Kind}
use Rattle.isa_outer.specs.declared.refusal.Kind.TheVariants as kind
use Rattle.isa_outer.specs.declared.refusal.Sort.TheVariants as sort
use Rattle.isa_inner_text.specs.declared.refusal.Refusal.{Refusal}
use Rattle.isa_inner_text.specs.declared.refusal.Refusal.TheVariants as refusal
use Rattle.isa_inner_text.specs.Refusals.{expected_word}

abbrev pub kind_of : Refusal → Kind
kind_of (refusal.Expected e) = kind.Expected (expected_word e)
kind_of (refusal.UnknownSymbol x) = kind.Unknown sort.Symbol x
kind_of (refusal.UnknownType x) = kind.Unknown sort.Type x
kind_of (refusal.Arity x) = kind.Arity x
kind_of refusal.Judgment = kind.Judgment
kind_of (refusal.Schematic x) = kind.Schematic x
kind_of refusal.Deep = kind.Deep
kind_of refusal.Memory = kind.Memory
