use Rattle.std.proofs.Common.{◌≡◌, length}
use Rattle.isa_inner_types.specs.TypeReading.{functions_of}
use Rattle.isa_inner_types.proofs.reading.functions.Given as goal

abbrev pub invariant-loop-domain : goal.invariant-loop-domain
invariant-loop-domain l = functions_of l.domains.items l.typ ≡ functions_of l.fn.domains.items l.fn.range

abbrev pub decreases-loop-domain : goal.decreases-loop-domain
decreases-loop-domain l = length l.domains.items
