use Rattle.isa_net.proofs.Ordered.{adds_edge}
use Rattle.isa_net.proofs.leaves.put_edge.Goals as goal

pub returns-clause-ok : goal.returns-clause-ok
returns-clause-ok c = let e = c.in_ok-insert.ensures in adds_edge c.args.node.now.edges c.insert.new.self c.args.symbol c.args.leaf e.was_ordered e.ordered e.updates c.requires
