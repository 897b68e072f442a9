use Rattle.isa_net.proofs.Idling.{unplaces_by}
use Rattle.isa_net.proofs.pruning.unplace.Goals as goal

pub returns : goal.returns
returns c = unplaces_by c.args.nodes.now c.unrank.new.nodes c.prune.new.nodes c.args.root c.args.word.now c.args.rank c.prune.result c.unrank.ensures c.prune.ensures
