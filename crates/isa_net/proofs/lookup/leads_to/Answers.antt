use Rattle.isa_net.proofs.Ordered.{target_found}
use Rattle.isa_net.proofs.lookup.leads_to.Goals as goal

pub returns : goal.returns
returns c = let e = target_found c.args.symbol.now c.args.edges.now.entries in cc
