use Rattle.std.proofs.Common.{sym}
use Rattle.isa_net.proofs.Indexed.{ends_there}
use Rattle.isa_net.proofs.ranks.unrank.Goals as goal

pub take_rank-requires : goal.take_rank-requires
take_rank-requires c = ends_there c.args.nodes.now c.args.root c.args.word.now c.in-Some.end (sym c.in-Some.ensures)
