use Rattle.isa_net.proofs.Idling.{restores_by}
use Rattle.isa_net.proofs.pruning.place_whole.Goals as goal

pub returns-in-Err-clause-err : goal.returns-in-Err-clause-err
returns-in-Err-clause-err c = restores_by c.args.nodes.now c.place.new.nodes c.prune.new.nodes c.args.root c.args.word.now c.prune.result c.in-Err.ensures.err c.prune.ensures
