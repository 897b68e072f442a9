use Rattle.std.proofs.Common.{length}
use Rattle.isa_outer.specs.declared.command.Attribute.{Attribute}
use Rattle.isa_outer.specs.Grammar.{attribute, ◌▸◌, comma}
use Rattle.isa_outer.proofs.Lists.{ListSoFar}
use Rattle.isa_outer.proofs.attributes.attribute_list.Given as goal

abbrev pub invariant-loop-after : goal.invariant-loop-after
invariant-loop-after l = ListSoFar Attribute attribute (comma ▸ attribute) l.tokens l.rest l.attributes

abbrev pub decreases-loop-after : goal.decreases-loop-after
decreases-loop-after l = length l.rest
