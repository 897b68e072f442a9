use Rattle.std.proofs.Common.{◌≡◌, take, Some}
use Rattle.isa_net.specs.Inside.Reach.{reach}
use Rattle.isa_net.specs.Inside.Index.{IsTree, KeepsIndex}
use Rattle.isa_net.proofs.leaves.grow.Given as goal

abbrev pub invariant-loop-symbol : goal.invariant-loop-symbol
invariant-loop-symbol l = record {
  tree : IsTree l.nodes l.root;
  here : reach l.nodes l.root (take l.symbol-index l.word) ≡ Some l.at;
  index : KeepsIndex l.initial.nodes l.nodes l.root l.word;
}
