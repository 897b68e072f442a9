use Rattle.std.proofs.Common.{◌≡◌, drop}
use Rattle.isa_net.specs.Inside.Reach.{reach}
use Rattle.isa_net.proofs.ranks.node_at.Given as goal

abbrev pub invariant-loop-symbol : goal.invariant-loop-symbol
invariant-loop-symbol l = reach l.nodes l.root l.word ≡ reach l.nodes l.at (drop l.symbol-index l.word)
