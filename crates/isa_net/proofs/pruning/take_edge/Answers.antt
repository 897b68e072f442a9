use Rattle.isa_net.proofs.Ordered.{takes_edge}
use Rattle.isa_net.proofs.pruning.take_edge.Goals as goal

pub returns-clause-edges : goal.returns-clause-edges
returns-clause-edges c = let e = c.remove.ensures in takes_edge c.args.node.now.edges c.remove.new.self c.args.symbol.now e.ordered e.updates
