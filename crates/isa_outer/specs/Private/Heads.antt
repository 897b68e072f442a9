-- What ends a list of facts.
use Rattle.std.specs.Prelude.{Bool, ◌||◌, if◌then◌else◌, List, Option, Some, None}
use Rattle.isa_tokens.specs.declared.token.Token.{Token}
use Rattle.isa_outer.specs.declared.facts.Heads.{Heads}
use Rattle.isa_outer.specs.declared.facts.Heads.TheVariants.{Simp, Claset, Auto}
use Rattle.isa_outer.specs.Grammar.{Head, simp_head, claset_head, auto_head, command_stands, nothing_stands, stands}

abbrev pub head_of : Heads → Head
head_of Simp = simp_head
head_of Claset = claset_head
head_of Auto = auto_head

-- a command, at the top
abbrev pub stops_in : Bool → List Token → Bool
stops_in inside = if inside then nothing_stands else command_stands

-- and the next modifier
abbrev pub stops_at : Bool → Option Heads → List Token → Bool
stops_at inside None = stops_in inside
stops_at inside (Some heads) = λ ts. stops_in inside ts || stands (head_of heads) ts
