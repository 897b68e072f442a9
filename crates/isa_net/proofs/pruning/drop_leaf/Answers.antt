use Rattle.std.proofs.Common.{sym}
use Rattle.isa_net.proofs.Leafing.{dropped_by}
use Rattle.isa_net.proofs.pruning.drop_leaf.Goals as goal

pub returns-in-Some : goal.returns-in-Some
returns-in-Some c l = dropped_by c.args.nodes.now c.try_remove.new.self c.args.at c.args.leaf c.args.symbol.now l c.try_remove.ensures.updates c.in-Some.node.now c.take_edge.new.node (sym c.in-Some.ensures.value) c.take_edge.ensures.edges c.take_edge.ensures.ranks
