use Rattle.std.proofs.Common.{◌≡◌, map, take}
use Rattle.isa_unify.specs.TypeUnification.{equations_under}
use Rattle.isa_unify.specs.TypeStacks.{pair_of}
use Rattle.isa_unify.proofs.types.replace_pairs.Given as goal

-- the equations so far
abbrev pub invariant-loop-pair : goal.invariant-loop-pair
invariant-loop-pair l = map pair_of l.replaced.items ≡ equations_under l.by (map pair_of (take l.pair-index l.pairs))
