use Rattle.isa_net.proofs.Turns.{on_ok, on_err}
use Rattle.isa_net.proofs.Indexed.{ends_there}
use Rattle.isa_net.proofs.Descending.{keeps_more, alike_index}
use Rattle.isa_net.proofs.Placing.{places_by}
use Rattle.isa_net.proofs.pruning.place.Goals as goal

pub put_rank-requires : goal.put_rank-requires
put_rank-requires c = ends_there c.grow.new.nodes c.args.root c.args.word.now c.in_ok-end.end c.in_ok-end.ensures.end

pub returns-clause-placed : goal.returns-clause-placed
returns-clause-placed c = on_ok _ _ _ (places_by c.args.nodes.now c.grow.new.nodes c.put_rank.new.nodes c.args.root c.in_ok-end.end c.args.word.now c.args.rank c.in_ok-end.ensures.index c.in_ok-end.ensures.end) c.put_rank.ensures.ok

pub returns-clause-err : goal.returns-clause-err
returns-clause-err c = on_err _ _ _ (λ a. keeps_more c.args.nodes.now c.grow.new.nodes c.put_rank.new.nodes c.args.root c.args.word.now c.in_ok-end.ensures.index (alike_index c.grow.new.nodes c.put_rank.new.nodes a c.args.root c.args.word.now)) c.put_rank.ensures.err
