use Rattle.std.proofs.Common.{◌≡◌, length}
use Rattle.isa_outer.specs.Grammar.{trimmed}
use Rattle.isa_outer.proofs.declarations.trimmed.Given as goal

abbrev pub invariant-loop-first : goal.invariant-loop-first
invariant-loop-first l = trimmed l.bytes ≡ trimmed l.rest

abbrev pub decreases-loop-first : goal.decreases-loop-first
decreases-loop-first l = length l.rest
