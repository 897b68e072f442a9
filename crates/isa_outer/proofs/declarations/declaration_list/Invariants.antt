use Rattle.std.proofs.Common.{length}
use Rattle.isa_outer.specs.declared.command.Declaration.{Declaration}
use Rattle.isa_outer.specs.Grammar.{◌▸◌, w, declaration}
use Rattle.isa_outer.proofs.Lists.{ListSoFar}
use Rattle.isa_outer.proofs.declarations.declaration_list.Given as goal

abbrev pub invariant-loop-after : goal.invariant-loop-after
invariant-loop-after l = ListSoFar Declaration declaration (w "and" ▸ declaration) l.tokens l.rest l.declarations

abbrev pub decreases-loop-after : goal.decreases-loop-after
decreases-loop-after l = length l.rest
