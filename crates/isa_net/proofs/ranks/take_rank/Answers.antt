use Rattle.std.proofs.Common.{sym}
use Rattle.isa_net.proofs.Putting.{take_ranks}
use Rattle.isa_net.proofs.Ranked.{without_rank}
use Rattle.isa_net.proofs.ranks.take_rank.Goals as goal

pub returns : goal.returns
returns c = take_ranks c.args.nodes.now c.args.at c.in-Some.node.now c.drop_rank.new.node (sym c.in-Some.ensures.value) c.drop_rank.ensures.edges c.args.rank (without_rank c.args.rank c.in-Some.node.now.ranks.items c.drop_rank.new.node.ranks.items c.drop_rank.ensures.ranks)
